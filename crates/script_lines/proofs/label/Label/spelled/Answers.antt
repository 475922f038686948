use Rattle.std.proofs.Common.{◌≡◌, ◌∙◌, ap, arith, drop, ◌+◌, ◌-◌, ◌%◌, length-set}
use Rattle.script_lines.specs.Labels.{spelled}
use Rattle.script_lines.proofs.Digits.{spelled-more}
use Rattle.script_lines.proofs.label.Label.spelled.Goals as goal

pub loop-start-preserved : goal.loop-start-preserved
loop-start-preserved c =
    let back : c.loop-start.start - 1 + 1 ≡ c.loop-start.start = omega (arith, c.loop-start-test.true) in (
      omega (arith, c.loop-start.invariant.0),
      length-set c.loop-start.bytes (c.loop-start.start - 1) (c.loop-start.code % 256) ∙ c.loop-start.invariant.1,
      spelled-more (c.loop-start.start - 1) c.loop-start.code c.loop-start.bytes
          (omega (arith, c.loop-start.invariant.0, c.loop-start.invariant.1, c.loop-start-test.true)) (grind (arith, c.if-code-ne0.true))
          ∙ ap (λ start. spelled start c.loop-start.code (drop start c.loop-start.bytes)) back
          ∙ c.loop-start.invariant.2,
    )
