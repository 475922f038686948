use Rattle.event_texts.proofs.Common.{Deed, List, Moment, NumberedLine, Option, RecallsDeeds, RecallsLosses, Session, ap, on_ok_weaker}
use Rattle.event_texts.proofs.Common.{subst, sym, with_losses, ◌∙◌}
use Rattle.event_texts.specs.Deeds.{with_deed}
use Rattle.event_texts.proofs.Losing.{deeds-same, losses-same}
use Rattle.event_texts.proofs.event_writer.EventWriter.note_event.Goals as goal

-- the line was kept with its losses, and then with its deed
pub returns-clause-recalls : goal.returns-clause-recalls
returns-clause-recalls c = on_ok_weaker c.note_deed.result
    (λ put lines recalls.
    let line : NumberedLine = (c.args.number, c.args.line.now) in
    record {
      losses = losses-same c.note_losses.new.self c.note_deed.new.self
          (with_losses line c.args.event.now.moments.items lines.losses) c.note_deed.ensures.losses
          (subst (λ (ms : List Moment). RecallsLosses c.note_losses.new.self (with_losses line ms lines.losses)) c.deref.ensures.value
          (c.in_ok-note_losses.ensures.recalls lines.losses recalls.losses));
      deeds = subst (λ (d : Option Deed). RecallsDeeds c.note_deed.new.self (with_deed line d lines.deeds)) c.deed_of-deed.ensures
          (put lines.deeds (deeds-same c.args.self.now c.note_losses.new.self lines.deeds c.note_losses.ensures.deeds recalls.deeds));
      limits = c.note_deed.ensures.limits ∙ (c.note_losses.ensures.limits ∙ (recalls.limits
          ∙ sym (ap (λ (s : Session). s.core.limits) (c.note_deed.ensures.session ∙ c.note_losses.ensures.session))));
    })
    c.note_deed.ensures.recalls
