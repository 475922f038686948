use Rattle.event_texts.proofs.Common.{ap, arith, handed_by, handing_text, sym, values_at, ◌++◌, ◌∙◌}
use Rattle.event_texts.proofs.Loops.{one-more}
use Rattle.event_texts.proofs.losses.push_handings.Goals as goal

-- one more comes last
pub loop-above-preserved : goal.loop-above-preserved
loop-above-preserved c = λ names keeps.
    one-more (handed_by names (values_at c.args.rows.now)) c.args.taken.now c.loop-above.above-index
    c.above-item.result c.args.text.now.items
    c.loop-above.text.items c.push_handing.new.text.items (omega arith) (sym c.above-item.is) (c.loop-above.invariant names keeps)
    (c.in_ok-push_handing.ensures names keeps
    ∙ ap (λ below. c.loop-above.text.items ++ handing_text names c.above-item.result.key below) c.row.ensures)
