use Rattle.buffer_holds.proofs.Common.{Bool, ap, arith, cases_eq, false, get_or, get_or-set_other, get_or-set_same, length, nat_lt, not}
use Rattle.buffer_holds.proofs.Common.{set, true, ℕ, ⊎_elim, ◌&&◌, ◌+◌, ◌<◌, ◌∙◌, ◌≡◌, ◌≢◌}
use Rattle.buffer_holds.proofs.Masks.{set_length}
use Rattle.buffer_holds.proofs.Runs.{one_if, run_next}
use Rattle.buffer_holds.proofs.page.raise_run.Goals as goal

-- no count is of a run of none
none_yet : (n : ℕ) (t : Bool) → n ≡ n + one_if (not t && t)
none_yet n true = omega arith
none_yet n false = omega arith

pub loop-at-init : goal.loop-at-init
loop-at-init c = record {
  size = c.told-counts;
  from = omega arith;
  upto = omega arith;
  raised = λ i. none_yet (get_or c.args.counts.now i 0) (nat_lt i c.args.first);
  most = λ i from less. absurd (omega (arith, from, less));
  least = λ bound all. omega arith;
}

-- one count more
pub loop-at-preserved : goal.loop-at-preserved
loop-at-preserved c =
    let inv = c.loop-at.invariant in
    let at = c.loop-at.at in
    let counts = c.loop-at.counts in
    let within : at < length counts = omega (arith, c.loop-at-test.true, c.requires.there, inv.size) in
    let here = get_or-set_same counts at (get_or counts at 0 + 1) 0 within in
    record {
      size = set_length counts at (get_or counts at 0 + 1) ∙ inv.size;
      from = omega (arith, inv.from);
      upto = omega (arith, c.loop-at-test.true);
      raised = run_next c.args.counts.now counts c.args.first at inv.from within inv.raised;
      most = λ i from less. ⊎_elim (λ same. omega (
        arith,
        c.max-most.ensures,
        here,
        ap (λ k. get_or (set counts at (get_or counts at 0 + 1)) k 0) same,
      )) (λ apart. omega (
        arith,
        c.max-most.ensures,
        get_or-set_other counts at i (get_or counts at 0 + 1) 0 apart,
        inv.most i from (omega (arith, less, apart)),
      )) (cases_eq i at);
      least = λ bound all. omega (
        arith,
        c.max-most.ensures,
        here,
        all at inv.from (omega arith),
        inv.least bound (λ i from less.
            let apart : i ≢ at = λ same. omega (arith, same, less) in
            omega (arith, all i from (omega (arith, less)), get_or-set_other counts at i (get_or counts at 0 + 1) 0 apart)),
      );
    }
