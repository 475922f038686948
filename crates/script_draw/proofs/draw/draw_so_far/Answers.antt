use Rattle.std.proofs.Common.{ap, sym, ◌∙◌}
use Rattle.script_draw.specs.Played.{wanted}
use Rattle.script_draw.proofs.Outcomes.{stops-asked}
use Rattle.script_draw.proofs.draw.draw_so_far.Goals as goal

pub returns-in-Some : goal.returns-in-Some
returns-in-Some g c = λ first old script same stops.
    stops-asked c.args.view.format first c.args.scroll.now old _ script c.args.fault stops _
    (ap wanted same ∙ sym c.wanted.ensures ∙ c.in-Some.is)

pub returns-in-None : goal.returns-in-None
returns-in-None g c = λ first old script same.
    c.draw_last.ensures first old script (ap wanted same ∙ sym c.wanted.ensures ∙ c.in-None.is)
