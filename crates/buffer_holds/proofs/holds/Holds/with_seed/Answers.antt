use Rattle.buffer_holds.proofs.Common.{Agrees, IsDistinct, [], flat, refl, ℕ, ◌∙◌, ◌≡◌}
use Rattle.buffer_holds.proofs.Seen.{seen}
use Rattle.buffer_holds.proofs.holds.Holds.with_seed.Goals as goal

-- without pages and sums they agree
nothing : Agrees 0 [] []
unfolding IsDistinct
nothing = record {
  rows_distinct = tt;
  sums_distinct = tt;
  totals = λ part at. refl;
  clients = λ part. refl;
  newer = λ part later. refl;
}

-- and nothing is seen
nothing_seen : (limit : ℕ) → seen limit 0 [] [] ≡ record { limit = limit; places = 0; rows = []; parcels = [] }
unfolding flat
nothing_seen limit = refl

pub returns : goal.returns
returns c =
    (λ i. seen c.args.limit 0 (c.with_hasher.ensures.empty i) (c.with_hasher-2.ensures.empty i)) ∙ nothing_seen c.args.limit
