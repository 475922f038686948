use Rattle.core_vanish.proofs.Common.{Collecting, Phase, arith, subst, ℕ, ◌+◌, ◌≡◌, ◌≤◌}
use Rattle.core_vanish.proofs.PhaseLemmas.{on_fault, phase_same}
use Rattle.core_vanish.proofs.PhaseSteps.{collect_more, collect_none}
use Rattle.core_vanish.proofs.vanishing.collect_all.Goals as goal

pub loop-left-init : goal.loop-left-init
loop-left-init c = (0, omega arith, collect_none c.args.core.now c.args.client c.args.waiting)

pub loop-left-preserved : goal.loop-left-preserved
loop-left-preserved c =
    let so = c.loop-left.invariant in (
      so.0 + 1,
      omega (arith, so.1, c.loop-left-test.true),
      collect_more c.args.core.now c.loop-left.core c.make.new.core c.args.client c.args.waiting
          so.0 c.loop-left.left c.in_ok-make.field-0 so.1
          c.loop-left-test.true so.2 c.in_ok-make.ensures.made,
    )

pub returns-in_err-make-clause-err : goal.returns-in_err-make-clause-err
returns-in_err-make-clause-err c =
    let so = c.loop-left.invariant in
    on_fault c.from_residual.result ((count : ℕ) × (count ≤ c.args.waiting) ×
    Phase c.args.core.now c.make.new.core (Collecting c.args.client c.args.waiting count)) (
      so.0,
      omega (arith, so.1),
      phase_same c.args.core.now c.loop-left.core c.make.new.core (Collecting c.args.client c.args.waiting so.0) so.2
          c.in_err-make.ensures.none,
    )

pub returns-clause-ok : goal.returns-clause-ok
returns-clause-ok c =
    let so = c.loop-left.invariant in
    let all : so.0 ≡ c.args.waiting = omega (arith, so.1, c.loop-left-test.false) in
    subst (λ (n : ℕ). Phase c.args.core.now c.loop-left.core (Collecting c.args.client c.args.waiting n)) all so.2
