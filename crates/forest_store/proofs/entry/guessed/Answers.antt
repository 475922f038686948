-- The ids rise, so the collection stands behind all smaller ones.
use Rattle.forest_store.proofs.Common.{◌≡◌, Entry, get_or, subst, arith}
use Rattle.forest_store.proofs.rows.Entries.{before_equal, read_through, stands_at}
use Rattle.forest_store.proofs.entry.guessed.Goals as goal

-- the entry at the index that is kept has the id
same : (c : goal.Then-get-id) → (get_or c.args.entries.now c.get-at.result c.get-then-at-entries.result.now).id ≡ c.args.id
same c = subst (λ (e : Entry). e.id ≡ c.args.id)
    (read_through c.args.entries.now c.get-at.result c.get-then-at-entries.ensures c.index-entries-at.is) c.if-get-id.true

pub returns-then-get-id-clause-before : goal.returns-then-get-id-clause-before
returns-then-get-id-clause-before c =
    before_equal c.args.id c.args.entries.now c.get-at.result c.get-then-at-entries.result.now c.requires
    (omega (arith, c.if-at-entries.true)) (same c)

pub returns-then-get-id-clause-place : goal.returns-then-get-id-clause-place
returns-then-get-id-clause-place c =
    stands_at c.args.id c.args.entries.now c.get-at.result c.get-then-at-entries.result.now c.requires
    (omega (arith, c.if-at-entries.true)) (same c)
