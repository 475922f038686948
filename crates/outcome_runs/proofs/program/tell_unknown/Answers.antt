use Rattle.std.proofs.Common.{ℕ, List, inl, ◌∙◌, subst}
use Rattle.script_lines.specs.Written.{WritesPart}
use Rattle.script_lines.proofs.Telling.{tells}
use Rattle.outcome_runs.proofs.program.tell_unknown.Goals as goal

pub returns-in-Ok : goal.returns-in-Ok
returns-in-Ok g c =
    inl (subst (λ (line : List ℕ). WritesPart (g.F.Write.contents c.args.faults.now) (g.F.Write.contents c.write_out.new.writer) line)
    (c.deref.ensures.value ∙ c.in-Ok.ensures) (tells _ _ _ c.write_out.result c.write_out.ensures.ok c.write_out.ensures.part))
