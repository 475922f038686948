use Rattle.event_texts.proofs.Common.{arith, next_holder}
use Rattle.event_texts.proofs.Loops.{one-read}
use Rattle.event_texts.proofs.keepers.push_others.Goals as goal

-- one more comes last
pub loop-holder-preserved : goal.loop-holder-preserved
loop-holder-preserved c = λ names calls.
    one-read (next_holder names) c.args.others.now c.loop-holder.holder-index _ c.args.text.now.items c.loop-holder.text.items
    c.push_next.new.text.items (omega arith) (c.loop-holder.invariant names calls) (c.in_ok-push_next.ensures names calls)
