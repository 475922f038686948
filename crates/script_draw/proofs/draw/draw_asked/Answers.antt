use Rattle.std.proofs.Common.{Bool, ap, sym, subst, ◌∙◌}
use Rattle.report_io.specs.Takings.{IsTaken}
use Rattle.script_draw.specs.Played.{none_wanted, wanted}
use Rattle.script_draw.specs.Reached.{PlayedFrom}
use Rattle.script_draw.proofs.Outcomes.{drawn-found, drawn-last, none-reached}
use Rattle.script_draw.proofs.draw.draw_asked.Goals as goal

pub returns-then-more : goal.returns-then-more
returns-then-more g c = λ first old script same some taken.
    none-reached c.args.view.format first c.args.scroll.now old _ script
    (subst (λ (b : Bool). IsTaken (PlayedFrom first) c.args.scroll.now old (g.W.Write.contents c.args.writer.now) script b) c.if-more.true
    taken) _ _ (ap wanted same ∙ sym c.wanted.ensures ∙ c.in-Some.is)

pub returns-else-more : goal.returns-else-more
returns-else-more g c = λ first old script same some taken.
    drawn-found c.args.view.format first c.args.scroll.now old _ script _ c.write_picture.result c.args.more taken
    (c.write_picture.ensures _ _ _ taken.out.is.2) c.if-more.false _ _ (ap wanted same ∙ sym c.wanted.ensures ∙ c.in-Some.is)
    (ap none_wanted same ∙ some)

pub returns-in-None : goal.returns-in-None
returns-in-None g c = λ first old script same some taken.
    drawn-last c.args.view.format first c.args.scroll.now old _ script _ c.write_picture-in-None.result c.args.more taken
    (c.write_picture-in-None.ensures _ _ _ taken.out.is.2) (ap wanted same ∙ sym c.wanted.ensures ∙ c.in-None.is)
