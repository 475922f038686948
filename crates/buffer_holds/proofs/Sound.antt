-- Pages and sums that agree, when one page and the sum of its part change.
use Rattle.buffer_holds.proofs.Common.{Agrees, AreUpTo, Bool, IsSome, List, None, Option, Owner, PageBecomes, Pages, Part, Some, Sum}
use Rattle.buffer_holds.proofs.Common.{SumBecomes, Sums, [], ap, arith, cases_lt, cell_at, cond, count_in, false, false≢true, held}
use Rattle.buffer_holds.proofs.Common.{is_some, length, lookup, one_page, page_in, page_of, refl, same_owner, same_part, sum_by}
use Rattle.buffer_holds.proofs.Common.{sum_by-cons, sum_in, sum_of, sym, true, unwrap_or, weight_at, ℕ, ⊎_elim, ◌+◌, ◌<◌, ◌∙◌, ◌∷◌, ◌≡◌}
use Rattle.buffer_holds.proofs.Common.{◌≤◌}
use Rattle.buffer_holds.specs.Sums.{of_part}
use Rattle.buffer_holds.proofs.PageNames.{same_part-one, same_part-refl, same_owner-one}
use Rattle.buffer_holds.proofs.RowLemmas.{weight_at-le-sum_by}

-- what a page has in a cell of a part, by whether it is of the part
weight_at-held : (part : Part) (at : ℕ) (owner : Owner) (page : Option (List (Option ℕ))) (b : Bool) → same_part owner.part part ≡ b →
    weight_at (held part at) owner page ≡ cond b (count_in (page_of page) at) 0
weight_at-held part at owner None true e = refl
weight_at-held part at owner None false e = refl
weight_at-held part at owner (Some page) b e = ap (λ v. cond v (count_in page at) 0) e

-- a page counts as one if it is of the part
weight_at-of_part : (part : Part) (owner : Owner) (page : Option (List (Option ℕ))) (b : Bool) → same_part owner.part part ≡ b →
    weight_at (of_part part) owner page ≡ cond b (one_page (is_some page)) 0
weight_at-of_part part owner None true e = refl
weight_at-of_part part owner None false e = refl
weight_at-of_part part owner (Some page) b e = ap (λ v. cond v 1 0) e

module _ {newest : ℕ} {rows : Pages} {sums : Sums} (agrees : Agrees newest rows sums) (owner : Owner) where
  -- a client has no more in a cell than all have
  pub held-le-total : (at : ℕ) → count_in (page_in rows owner) at + count_in (sum_in sums owner.part).moving at ≤ count_in
      (sum_in sums owner.part).totals at
  held-le-total at =
      omega (
        arith,
        agrees.totals owner.part at,
        weight_at-le-sum_by (held owner.part at) (same_owner owner) owner (same_owner-one owner) rows,
        weight_at-held owner.part at owner (lookup (same_owner owner) rows) true (same_part-refl owner.part),
      )

  -- a page has a client
  pub page-le-clients : one_page (is_some (lookup (same_owner owner) rows)) ≤ (sum_in sums owner.part).clients
  page-le-clients =
      omega (
        arith,
        agrees.clients owner.part,
        weight_at-le-sum_by (of_part owner.part) (same_owner owner) owner (same_owner-one owner) rows,
        weight_at-of_part owner.part owner (lookup (same_owner owner) rows) true (same_part-refl owner.part),
      )

  -- a count has a page
  pub count-has-page : (at : ℕ) → 0 < count_in (page_in rows owner) at → IsSome (lookup (same_owner owner) rows)
  count-has-page at some = by (lookup (same_owner owner) rows) refl
    where
      by : (o : Option (List (Option ℕ))) → lookup (same_owner owner) rows ≡ o → IsSome o
      by None e = absurd (omega (arith, some, ap (λ o. count_in (page_of o) at) e))
      by (Some page) e = refl

  -- so its part has a sum
  pub page-has-sum : IsSome (lookup (same_owner owner) rows) → IsSome (lookup (same_part owner.part) sums)
  page-has-sum some = by (lookup (same_part owner.part) sums) refl
    where
      by : (o : Option Sum) → lookup (same_part owner.part) sums ≡ o → IsSome o
      by None e =
          absurd (omega (arith, page-le-clients, ap (λ (o : Option Sum). (sum_of o).clients) e, ap one_page some))
      by (Some sum) e = refl

  -- and without one there is no page
  pub no-sum-no-page : lookup (same_part owner.part) sums ≡ None → lookup (same_owner owner) rows ≡ None
  no-sum-no-page none = by (lookup (same_owner owner) rows) refl
    where
      by : (o : Option (List (Option ℕ))) → lookup (same_owner owner) rows ≡ o → o ≡ None
      by None e = refl
      by (Some page) e =
          absurd (omega (arith, page-le-clients, ap (λ o. (sum_of o).clients) none, ap (λ o. one_page (is_some o)) e))

-- there are no more clients than pages
pub few_clients : (part : Part) (rows : Pages) → sum_by (of_part part) rows ≤ length rows
few_clients part [] = omega arith
few_clients part (e ∷ rows) =
    omega (arith, few_clients part rows, sum_by-cons (of_part part) e rows, at_most_one (same_part e.0.part part))
  where
    at_most_one : (b : Bool) → cond b 1 0 ≤ 1
    at_most_one true = omega arith
    at_most_one false = omega arith

-- a part that has a sum is not of a newer collection
pub sum-is-known : {newest : ℕ} {rows : Pages} {sums : Sums} → Agrees newest rows sums → (part : Part) →
    IsSome (lookup (same_part part) sums) → part.collection ≤ newest
sum-is-known {newest} {rows} {sums} agrees part some =
    ⊎_elim (λ less. let clash = sym (ap is_some (agrees.newer part less)) ∙ some in absurd (false≢true clash)) (λ e. e)
    (cases_lt newest part.collection)

module _ {rows rows' : Pages} {sums sums' : Sums} (owner : Owner) {there : Bool} {cells : ℕ → Option ℕ} {clients : ℕ}
    {totals moving : ℕ → ℕ}
    (row : PageBecomes rows rows' owner there cells) (sum : SumBecomes sums sums' owner.part clients totals moving) where
  -- what becomes of each cell
  pub cells_after : (other : Owner) (at : ℕ) →
      cell_at (page_in rows' other) at ≡ cond (same_owner owner other) (cells at) (cell_at (page_in rows other) at)
  cells_after other at = ap (λ o. cell_at (page_of o) at) (row.resets.finds other) ∙ inside (same_owner owner other)
    where
      inside : (b : Bool) → cell_at (page_of (cond b row.now (lookup (same_owner other) rows))) at ≡ cond b (cells at)
          (cell_at (page_in rows other) at)
      inside true = row.cells_are at
      inside false = refl

  -- and of a number of each sum
  number_after : (number : Sum → ℕ) (here : ℕ) → number (sum_of sum.now) ≡ here → (part : Part) →
      number (sum_in sums' part) ≡ cond (same_part owner.part part) here (number (sum_in sums part))
  number_after number here is part =
      ap (λ o. number (sum_of o)) (sum.resets.finds part) ∙ inside (same_part owner.part part)
    where
      inside : (b : Bool) → number (sum_of (cond b sum.now (lookup (same_part part) sums))) ≡ cond b here (number (sum_in sums part))
      inside true = is
      inside false = refl

  pub totals_after : (part : Part) (at : ℕ) → count_in (sum_in sums' part).totals at ≡ cond (same_part owner.part part) (totals at)
      (count_in (sum_in sums part).totals at)
  totals_after part at = number_after (λ s. count_in s.totals at) (totals at) (sum.totals_are at) part

  pub moving_after : (part : Part) (at : ℕ) → count_in (sum_in sums' part).moving at ≡ cond (same_part owner.part part) (moving at)
      (count_in (sum_in sums part).moving at)
  moving_after part at = number_after (λ s. count_in s.moving at) (moving at) (sum.moving_are at) part

  clients_after : (part : Part) → (sum_in sums' part).clients ≡ cond (same_part owner.part part) clients (sum_in sums part).clients
  clients_after part = number_after (λ s. s.clients) clients sum.clients_are part

  -- no more are open of one kind than there were, or than this many
  pub up_to_after : (most most' : ℕ) → AreUpTo most sums → most ≤ most' → ((at : ℕ) → totals at ≤ most') → AreUpTo most' sums'
  up_to_after most most' was grows within part at = by (same_part owner.part part) refl
    where
      by : (b : Bool) → same_part owner.part part ≡ b → count_in (sum_in sums' part).totals at ≤ most'
      by true is = omega (arith, totals_after part at ∙ ap (λ b. cond b (totals at) (count_in (sum_in sums part).totals at)) is, within at)
      by false is =
          omega (
            arith,
            totals_after part at ∙ ap (λ b. cond b (totals at) (count_in (sum_in sums part).totals at)) is,
            was part at,
            grows,
          )

  -- they agree still, if what is more in the sum is more in the page or in parcels
  pub agrees_after : {newest : ℕ} (newest' : ℕ) → Agrees newest rows sums
      → ((at : ℕ) → totals at + (count_in (page_in rows owner) at + count_in (sum_in sums owner.part).moving at) ≡ count_in
      (sum_in sums owner.part).totals at + (unwrap_or (cells at) 0 + moving at))
      → clients + one_page (is_some (lookup (same_owner owner) rows)) ≡ (sum_in sums owner.part).clients + one_page there →
      newest ≤ newest' → owner.part.collection ≤ newest' →
      Agrees newest' rows' sums'
  agrees_after {newest} newest' agrees balance one_more grows known = record {
    rows_distinct = row.resets.distinct;
    sums_distinct = sum.resets.distinct;
    totals = λ part at. totals_by part at (same_part owner.part part) refl;
    clients = λ part. clients_by part (same_part owner.part part) refl;
    newer = λ part later. sum.resets.finds part ∙ newer_by part later (same_part owner.part part) refl;
  }
    where
      totals_by : (part : Part) (at : ℕ) (b : Bool) → same_part owner.part part ≡ b →
          count_in (sum_in sums' part).totals at ≡ sum_by (held part at) rows' + count_in (sum_in sums' part).moving at
      totals_by part at true is =
          let one : owner.part ≡ part = same_part-one owner.part part is in
          omega (
            arith,
            agrees.totals part at,
            totals_after part at ∙ ap (λ b. cond b (totals at) (count_in (sum_in sums part).totals at)) is,
            moving_after part at ∙ ap (λ b. cond b (moving at) (count_in (sum_in sums part).moving at)) is,
            row.resets.weighs (held part at),
            weight_at-held part at owner (lookup (same_owner owner) rows) true is,
            weight_at-held part at owner row.now true is,
            ap (λ o. unwrap_or o 0) (row.cells_are at),
            balance at,
            ap (λ p. count_in (sum_in sums p).totals at) one,
            ap (λ p. count_in (sum_in sums p).moving at) one,
          )
      totals_by part at false is =
          omega (
            arith,
            agrees.totals part at,
            totals_after part at ∙ ap (λ b. cond b (totals at) (count_in (sum_in sums part).totals at)) is,
            moving_after part at ∙ ap (λ b. cond b (moving at) (count_in (sum_in sums part).moving at)) is,
            row.resets.weighs (held part at),
            weight_at-held part at owner (lookup (same_owner owner) rows) false is,
            weight_at-held part at owner row.now false is,
          )

      clients_by : (part : Part) (b : Bool) → same_part owner.part part ≡ b → (sum_in sums' part).clients ≡ sum_by (of_part part) rows'
      clients_by part true is =
          omega (
            arith,
            agrees.clients part,
            clients_after part ∙ ap (λ b. cond b clients (sum_in sums part).clients) is,
            row.resets.weighs (of_part part),
            weight_at-of_part part owner (lookup (same_owner owner) rows) true is,
            weight_at-of_part part owner row.now true is,
            ap one_page row.is_there,
            one_more,
            ap (λ p. (sum_in sums p).clients) (same_part-one owner.part part is),
          )
      clients_by part false is =
          omega (
            arith,
            agrees.clients part,
            clients_after part ∙ ap (λ b. cond b clients (sum_in sums part).clients) is,
            row.resets.weighs (of_part part),
            weight_at-of_part part owner (lookup (same_owner owner) rows) false is,
            weight_at-of_part part owner row.now false is,
          )

      newer_by : (part : Part) → newest' < part.collection → (b : Bool) → same_part owner.part part ≡ b →
          cond b sum.now (lookup (same_part part) sums) ≡ None
      newer_by part later true is =
          absurd (omega (arith, later, known, ap (λ (p : Part). p.collection) (same_part-one owner.part part is)))
      newer_by part later false is = agrees.newer part (omega (arith, later, grows))
