use Rattle.event_texts.proofs.Common.{Calls, Keeps, Labels, Session, TellsFacts, on_ok_weaker, subst, sym, with_event}
use Rattle.event_texts.proofs.event_writer.EventWriter.tell.Goals as goal

-- the line was noted
pub returns-clause-recalls : goal.returns-clause-recalls
returns-clause-recalls c = on_ok_weaker c.push_facts.result
    (λ put lines recalls. c.in_ok-note_event.ensures.recalls lines recalls)
    c.push_facts.ensures.text

-- and then the facts told, for which session and labels are the same
pub returns-clause-facts : goal.returns-clause-facts
returns-clause-facts c = on_ok_weaker c.push_facts.result
    (λ put names lines keeps calls recalls empty.
    let later = with_event (c.args.number, c.args.line.now) c.args.event.now lines in
    subst (λ (s : Session). TellsFacts names later s.core c.args.event.now c.push_facts.new.facts.items) c.note_event.ensures.session
    (put names later (subst (λ (s : Session). Keeps s.tables names) (sym c.note_event.ensures.session) keeps)
    (subst (λ (l : Labels). Calls l names) (sym c.note_event.ensures.labels) calls)
    (c.in_ok-note_event.ensures.recalls lines recalls) empty))
    c.push_facts.ensures.text
