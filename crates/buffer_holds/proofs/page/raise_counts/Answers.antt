use Rattle.buffer_holds.proofs.Common.{Bool, ap, arith, bit_at, bit_at-trailing_zeros, bit_at_lowest, cases_lt, false, false≢true, get_or}
use Rattle.buffer_holds.proofs.Common.{is_in, le-ltb, lt-ltb, nat_lt, not, refl, subst, sym, trailing_zeros, true, w64, ℕ, ⊎_elim, ◌&&◌}
use Rattle.buffer_holds.proofs.Common.{◌+◌, ◌-◌, ◌/◌, ◌<◌, ◌==◌, ◌^◌, ◌∙◌, ◌≡◌, ◌≤◌}
use Rattle.std.proofs.lemmas.Nat.{shr_le}
use Rattle.buffer_holds.proofs.Runs.{done, done_more, done_none, ends_within, in_all, in_none, low_ones, none_left, one_if, rest_after}
use Rattle.buffer_holds.proofs.page.raise_counts.Goals.{After-trailing_ones-ones}
use Rattle.buffer_holds.proofs.page.raise_counts.Goals as goal

-- how many zeros come first
abbrev zeros : After-trailing_ones-ones → ℕ
zeros c = trailing_zeros w64 c.loop-rest.rest

-- the lowest bit of what is left
lowest : (c : After-trailing_ones-ones) → (zeros c < 64) × (bit_at c.loop-rest.rest (zeros c) ≡ 1)
    × ((i : ℕ) → i < zeros c → bit_at c.loop-rest.rest i ≡ 0)
lowest c =
    let some : 0 < c.loop-rest.rest = omega (arith, c.loop-rest-test.true) in
    bit_at-trailing_zeros w64 c.loop-rest.rest some (omega (arith, c.loop-rest.auto.rest-fits))

-- the run that begins there
ones : (c : After-trailing_ones-ones) → (0 < c.trailing_ones-ones.result) × (c.trailing_ones-ones.result ≤ 64)
    × ((i : ℕ) → i < c.trailing_ones-ones.result → bit_at (c.loop-rest.rest / 2 ^ zeros c) i ≡ 1)
ones c =
    let low = c.loop-rest.rest / 2 ^ zeros c in
    let fits : low < 2 ^ 64 = omega (arith, shr_le c.loop-rest.rest (zeros c), c.loop-rest.auto.rest-fits) in
    subst (λ n. (0 < n) × (n ≤ 64) × ((i : ℕ) → i < n → bit_at low i ≡ 1)) (sym c.trailing_ones-ones.ensures)
    (low_ones low fits (bit_at_lowest low ∙ (lowest c).1))

-- its cells are of the set
of_set : (c : After-trailing_ones-ones) → (i : ℕ) → c.loop-rest.at + zeros c ≤ i →
    i < c.loop-rest.at + zeros c + c.trailing_ones-ones.result → is_in c.args.first c.args.set i ≡ true
of_set c =
    in_all c.args.first c.args.set c.loop-rest.at (zeros c) c.trailing_ones-ones.result c.loop-rest.rest c.loop-rest.invariant.from
    c.loop-rest.invariant.rest (lowest c).2 (ones c).2

-- the counts from there on are as they were
later : (c : After-trailing_ones-ones) (i : ℕ) → c.loop-rest.at ≤ i → get_or c.loop-rest.counts i 0 ≡ get_or c.args.counts.now i 0
later c i past =
    let out = le-ltb i c.loop-rest.at past in
    omega (
      arith,
      c.loop-rest.invariant.raised i,
      (λ j. one_if (is_in c.args.first c.args.set i && out j)) ∙ never (is_in c.args.first c.args.set i),
    )
  where
    never : (b : Bool) → one_if (b && false) ≡ 0
    never true = refl
    never false = refl

pub loop-rest-init : goal.loop-rest-init
loop-rest-init c =
    let first : c.args.first - c.args.first ≡ 0 = omega arith in
    let whole : c.args.set ≡ c.args.set / 2 ^ 0 = omega arith in
    record {
      size = c.told-counts;
      from = omega arith;
      near = omega arith;
      rest = whole ∙ ap (λ n. c.args.set / 2 ^ n) (sym first);
      raised = done_none c.args.counts.now c.args.first c.args.set;
      most = λ i is less. absurd (false≢true (sym (ap (λ b. not b && bit_at c.args.set (i - c.args.first) == 1) (lt-ltb i
          c.args.first less)) ∙ is));
      least = λ bound all. omega arith;
    }

pub raise_run-greatest-requires-clause-there : goal.raise_run-greatest-requires-clause-there
raise_run-greatest-requires-clause-there c =
    let at = (goal.at.raise_run-greatest-requires-clause-there c).After-trailing_ones-ones in
    let size = c.trailing_ones-ones.result in
    let last = of_set at (c.loop-rest.at + zeros at + (size - 1)) (omega arith) (omega (arith, (ones at).0)) in
    omega (arith, c.requires.there (c.loop-rest.at + zeros at + (size - 1)) last, (ones at).0)

pub raise_run-greatest-requires-clause-fits : goal.raise_run-greatest-requires-clause-fits
raise_run-greatest-requires-clause-fits c = λ i from less.
    let at = (goal.at.raise_run-greatest-requires-clause-fits c).After-trailing_ones-ones in
    omega (arith, c.requires.fits i (of_set at i from less), later at i (omega (arith, from)))

pub overflow_sub-rest : goal.overflow_sub-rest
overflow_sub-rest c = omega (arith, (ones (goal.at.overflow_sub-rest c).After-trailing_ones-ones).0)

-- one run more
pub loop-rest-preserved : goal.loop-rest-preserved
loop-rest-preserved c =
    let d = goal.at.loop-rest-preserved c in
    let at = d.After-trailing_ones-ones in
    let inv = c.loop-rest.invariant in
    let first = c.args.first in
    let size = c.trailing_ones-ones.result in
    let start = c.loop-rest.at in
    let new = c.raise_run-greatest.new.counts in
    let more : done c.args.counts.now new first c.args.set (start + zeros at + size) =
    done_more first c.args.set start (zeros at) size c.loop-rest.rest inv.from inv.rest (lowest at).2 (ones at).2 c.args.counts.now
    c.loop-rest.counts new inv.raised c.raise_run-greatest.ensures.raised in
    record {
      size = c.raise_run-greatest.ensures.size;
      from = omega (arith, inv.from);
      near = ends_within first c.args.set start (zeros at) size c.loop-rest.rest inv.from inv.rest (lowest at).2 (ones at).2 (ones at).0
          (omega (arith, c.ranges.set.fits));
      rest = rest_after first c.args.set start (zeros at) size c.loop-rest.rest inv.from inv.rest (lowest at).2 (ones at).2 (ones at).0;
      raised = more;
      most = λ i is less. ⊎_elim {C = get_or new i 0 ≤ c.max-most.result} (λ before.
          let out = lt-ltb i (start + zeros at) (omega (arith, before)) in
          let same : get_or new i 0 ≡ get_or c.loop-rest.counts i 0 + 0 = c.raise_run-greatest.ensures.raised i
          ∙ (λ j. get_or c.loop-rest.counts i 0 + one_if (not (out j) && nat_lt i (start + zeros at + size))) in
          omega (arith, c.max-most.ensures, same, inv.most i is before))
          (λ past. ⊎_elim {C = get_or new i 0 ≤ c.max-most.result} (λ before.
          let out = in_none first c.args.set start (zeros at) size c.loop-rest.rest inv.from inv.rest (lowest at).2 (ones at).2 i past
          before in
          absurd (false≢true (sym out ∙ is)))
          (λ from. omega (arith, c.max-most.ensures, c.raise_run-greatest.ensures.most i from less)) (cases_lt i (start + zeros at)))
          (cases_lt i start);
      least = λ bound all. omega (
        arith,
        c.max-most.ensures,
        inv.least bound all,
        c.raise_run-greatest.ensures.least bound (λ i from less.
            let is = of_set at i from less in
            let one : one_if (is_in first c.args.set i && nat_lt i (start + zeros at + size)) ≡ 1 =
            λ j. one_if (is j && lt-ltb i (start + zeros at + size) less j) in
            omega (arith, more i, all i is, one)),
      );
    }

-- all cells of the set were gone through
pub returns-clause-raised : goal.returns-clause-raised
returns-clause-raised c = λ i.
    c.loop-rest.invariant.raised i ∙ ap (λ n. get_or c.args.counts.now i 0 + n) (by i (is_in c.args.first c.args.set i) refl)
  where
    by : (i : ℕ) (b : Bool) → is_in c.args.first c.args.set i ≡ b → one_if (is_in c.args.first c.args.set i && nat_lt i c.loop-rest.at)
        ≡ one_if (is_in c.args.first c.args.set i)
    by i true is =
        let less = lt-ltb i c.loop-rest.at (all i is) in
        (λ j. one_if (is j && less j)) ∙ ap one_if (sym is)
      where
        all : (i : ℕ) → is_in c.args.first c.args.set i ≡ true → i < c.loop-rest.at
        all =
            none_left c.args.first c.args.set c.loop-rest.at 0 0 c.loop-rest.rest c.loop-rest.invariant.from c.loop-rest.invariant.rest
            (λ k few. absurd (omega (arith, few))) (λ k few. absurd (omega (arith, few))) (omega (arith, c.loop-rest-test.false))
    by i false is = (λ j. one_if (is j && nat_lt i c.loop-rest.at)) ∙ ap one_if (sym is)

pub returns-clause-most : goal.returns-clause-most
returns-clause-most c = λ i is.
    c.loop-rest.invariant.most i is (none_left c.args.first c.args.set c.loop-rest.at 0 0 c.loop-rest.rest c.loop-rest.invariant.from
    c.loop-rest.invariant.rest (λ k few. absurd (omega (arith, few))) (λ k few. absurd (omega (arith, few)))
    (omega (arith, c.loop-rest-test.false)) i is)

pub returns-clause-least : goal.returns-clause-least
returns-clause-least c = λ bound all.
    c.loop-rest.invariant.least bound (λ i is. omega (
      arith,
      all i is,
      returns-clause-raised c i,
      ap one_if is,
    ))
