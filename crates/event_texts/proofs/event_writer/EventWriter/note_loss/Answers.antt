use Rattle.event_texts.proofs.Common.{ap, kept_line, option_map, same_key, ◌∙◌}
use Rattle.event_texts.proofs.Losing.{mapped-cond}
use Rattle.event_texts.proofs.event_writer.EventWriter.note_loss.Goals as goal

-- the line stands in the place of an earlier one
pub returns-clause-recalls : goal.returns-clause-recalls
returns-clause-recalls c = λ lines recalls node.
    ap (option_map kept_line) (c.in_ok-insert.ensures.updates.0 node)
    ∙ mapped-cond kept_line (same_key c.args.origin node) c.in_ok-told.told (c.args.number, c.args.line.now) _ _ c.in_ok-told.ensures
    (recalls node)
