use Rattle.std.proofs.Common.{refl, sym, subst, ◌∙◌}
use Rattle.script_draw.proofs.Playing.{far-none}
use Rattle.script_draw.proofs.draw.Scroll.new.Goals as goal

pub returns-clause-start : goal.returns-clause-start
returns-clause-start c = λ some.
    far-none _ (sym c.in_ok-event_writer.ensures.limits) c.in_ok-event_writer.ensures.knows c.new-line.ensures.items refl
    c.new-picture_state.ensures some
