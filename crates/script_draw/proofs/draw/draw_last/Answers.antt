use Rattle.std.proofs.Common.{sym, ◌∙◌}
use Rattle.script_draw.proofs.Outcomes.{stops-drawn, stops-failed, stops-refused}
use Rattle.script_draw.proofs.draw.draw_last.Goals as goal

pub returns-then-not-is_line_fault : goal.returns-then-not-is_line_fault
returns-then-not-is_line_fault g c = λ first old script none stops.
    stops-refused c.args.view.format first c.args.scroll.now old _ script c.args.fault stops
    (sym c.is_line_fault.ensures ∙ c.if-not-is_line_fault.true)

pub returns-in-Ok : goal.returns-in-Ok
returns-in-Ok g c = λ first old script none stops.
    stops-drawn c.args.view.format first c.args.scroll.now old _ script c.args.fault stops
    (sym c.is_line_fault.ensures ∙ c.if-not-is_line_fault.false) _ tt none c.in-Ok.ensures

pub returns-in-Err : goal.returns-in-Err
returns-in-Err g c = λ first old script none stops.
    stops-failed c.args.view.format first c.args.scroll.now old _ script c.args.fault stops
    (sym c.is_line_fault.ensures ∙ c.if-not-is_line_fault.false) _ c.in-Err.other c.in-Err.ensures
