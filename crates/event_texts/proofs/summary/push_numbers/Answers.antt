use Rattle.event_texts.proofs.Common.{arith, number_text}
use Rattle.event_texts.proofs.Loops.{one-read}
use Rattle.event_texts.proofs.summary.push_numbers.Goals as goal

-- one more comes last
pub loop-number-preserved : goal.loop-number-preserved
loop-number-preserved c =
    one-read number_text c.args.numbers.now c.loop-number.number-index _ c.args.text.now.items c.loop-number.text.items
    c.push_spaced.new.text.items (omega arith) c.loop-number.invariant c.in_ok-push_spaced.ensures
