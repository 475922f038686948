use Rattle.event_texts.proofs.Common.{ap, kept_line, option_map, same_deed, ◌∙◌}
use Rattle.event_texts.proofs.Losing.{mapped-cond}
use Rattle.event_texts.proofs.event_writer.EventWriter.note_done.Goals as goal

-- the line stands in the place of an earlier one
pub returns-clause-recalls : goal.returns-clause-recalls
returns-clause-recalls c = λ lines recalls deed.
    ap (option_map kept_line) (c.in_ok-insert.ensures.updates.0 deed)
    ∙ mapped-cond kept_line (same_deed c.args.deed deed) c.in_ok-done.done (c.args.number, c.args.line.now) _ _ c.in_ok-done.ensures
    (recalls deed)
