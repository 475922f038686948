use Rattle.std.proofs.Common.{◌++◌, ap, inr, refl, ◌∙◌}
use Rattle.sm_script.proofs.Playing.{answer-stop, answered-more}
use Rattle.sm_script.proofs.player.PlayerTakesLines.take_line.Goals as goal

-- the line was not answered
pub returns-in-Err-clause-err : goal.returns-in-Err-clause-err
returns-in-Err-clause-err c = inr (answer-stop c.args.self.now (record { session = c.answer.new.self; reply = c.answer.new.reply }) c.args.line.now c.in-Err.stop c.args.number c.fault_of.result
    c.in-Err.ensures.err c.in-Err.ensures.same c.fault_of.ensures.line c.fault_of.ensures.known)

-- its text is the reply
pub returns-in-Ok-extend_from_slice-clause-ok : goal.returns-in-Ok-extend_from_slice-clause-ok
returns-in-Ok-extend_from_slice-clause-ok c = λ first lines whole took numbered. (
  c.answer.new.reply.items,
  c.in-Ok-extend_from_slice.ensures.items ∙ ap (λ back. c.args.text.now.items ++ back) c.deref.ensures.value,
  answered-more first c.args.self.now _ lines whole c.args.line.now c.answer.new.reply.items took c.in-Ok.ensures.ok,
)
