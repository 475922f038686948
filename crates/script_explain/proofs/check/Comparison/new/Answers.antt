use Rattle.std.proofs.Common.{refl}
use Rattle.script_explain.proofs.Comparing.{compared-none}
use Rattle.script_explain.proofs.check.Comparison.new.Goals as goal

pub returns-clause-start : goal.returns-clause-start
returns-clause-start c = (
  refl,
  compared-none _ c.in_ok-event_writer.ensures.knows c.in_ok-event_writer.ensures.recalls refl c.new-line.ensures.items
      c.new-reply.ensures.items c.new-facts.ensures.items refl refl,
)
