use Rattle.event_texts.proofs.Common.{List, Moment, NumberedLine, RecallsLosses, ap, nil_from_length, refl, subst, sym, with_losses, ◌∙◌}
use Rattle.event_texts.specs.LostLines.{with_loss}
use Rattle.event_texts.proofs.event_writer.EventWriter.note_losses.Goals as goal

-- no mark was noted
pub marks-init : goal.marks-init
marks-init c = record {
  session = refl;
  labels = refl;
  failures = refl;
  deeds = refl;
  limits = refl;
  notes = λ lines recalls. record { so_far = lines; recalls = recalls; rest = refl };
}

-- one more was
pub marks-preserved : goal.marks-preserved
marks-preserved c = record {
  session = c.note_mark.ensures.session ∙ c.marks.invariant.session;
  labels = c.note_mark.ensures.labels ∙ c.marks.invariant.labels;
  failures = c.note_mark.ensures.failures ∙ c.marks.invariant.failures;
  deeds = c.note_mark.ensures.deeds ∙ c.marks.invariant.deeds;
  limits = c.note_mark.ensures.limits ∙ c.marks.invariant.limits;
  notes = λ lines recalls.
      let line : NumberedLine = (c.args.number, c.args.line.now) in
      let so = c.marks.invariant.notes lines recalls in
      record {
        so_far = with_loss line c.in-Some.moment.now.mark so.so_far;
        recalls = c.in_ok-note_mark.ensures.recalls so.so_far so.recalls;
        rest = ap (λ (ms : List Moment). with_losses line ms so.so_far) (sym c.in-Some.ensures.cases.0) ∙ so.rest;
      };
}

-- no mark is left
pub returns-clause-recalls : goal.returns-clause-recalls
returns-clause-recalls c = λ lines recalls.
    let line : NumberedLine = (c.args.number, c.args.line.now) in
    let so = c.marks.invariant.notes lines recalls in
    subst (RecallsLosses c.marks.self)
    (ap (λ (ms : List Moment). with_losses line ms so.so_far) (sym (nil_from_length c.marks.rest.now c.in_default.ensures.cases)) ∙ so.rest)
    so.recalls
