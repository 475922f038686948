use Rattle.event_texts.proofs.Common.{ap, kept_line, lookup, option_map, same_deed, same_key, sym}
use Rattle.event_texts.proofs.event_writer.EventWriter.new.Goals as goal

-- no line is kept
pub returns-clause-recalls : goal.returns-clause-recalls
returns-clause-recalls c = record {
  losses = λ node. ap (λ entries. option_map kept_line (lookup (same_key node) entries)) c.new-3.ensures.empty;
  deeds = λ deed. ap (λ entries. option_map kept_line (lookup (same_deed deed) entries)) c.new-4.ensures.empty;
  limits = sym c.in_ok-new.ensures.limits;
}
