use Rattle.std.proofs.Common.{ap, ◌∙◌}
use Rattle.sm_names.specs.Timelines.{timeline}
use Rattle.event_texts.specs.Failing.{failures}
use Rattle.script_draw.proofs.Playing.{at-event, at-failure, at-last, at-line}
use Rattle.script_draw.proofs.draw.Scroll.is_at.Goals as goal

pub returns-in-Last : goal.returns-in-Last
returns-in-Last c = λ setting lines far numbered. at-last c.args.self.now.until 0 setting.pool lines far.scene c.in-Last.is

pub returns-in-Event : goal.returns-in-Event
returns-in-Event c = λ setting lines far numbered.
    at-event c.args.self.now.until c.in-Event.number setting.pool lines far.scene c.in-Event.is _
    (c.events.ensures.shown far.scene.history far.knows.is_at.shows)

pub returns-in-Line : goal.returns-in-Line
returns-in-Line c = λ setting lines far numbered.
    at-line c.args.self.now.until c.in-Line.number setting.pool lines far.scene c.in-Line.is _ numbered

pub returns-in-Failure : goal.returns-in-Failure
returns-in-Failure c = λ setting lines far numbered.
    at-failure c.args.self.now.until c.in-Failure.number setting.pool lines far.scene c.in-Failure.is _
    (far.knows.failed ∙ ap (λ p. failures (timeline p far.scene.history)) far.pool)
