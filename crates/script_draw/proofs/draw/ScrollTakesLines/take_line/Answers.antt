use Rattle.std.proofs.Common.{◌∙◌}
use Rattle.script_draw.proofs.Playing.{play-on, play-stop}
use Rattle.script_draw.proofs.draw.ScrollTakesLines.take_line.Goals as goal

-- the line was played
pub returns-in-Ok-clause-ok : goal.returns-in-Ok-clause-ok
returns-in-Ok-clause-ok c = λ first lines whole played numbered.
    play-on first c.args.self.now c.play_line.new.self lines whole _ c.args.line.now played c.in-Ok.ensures.ok c.play_line.ensures.until
    c.is_at.result (λ setting played far count. c.is_at.ensures setting played far (numbered ∙ count))

-- or was not
pub returns-in-Err-clause-err : goal.returns-in-Err-clause-err
returns-in-Err-clause-err c =
    play-stop c.args.self.now c.play_line.new.self c.args.line.now c.in-Err.stop c.in-Err.ensures.same c.in-Err.ensures.err
    c.args.number c.fault_of.result c.fault_of.ensures.line c.fault_of.ensures.known
