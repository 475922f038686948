use Rattle.event_texts.proofs.Common.{Called, Event, IfSome, List, Mark, ap, as_line, failures, failures_with, laid_on, length, map}
use Rattle.event_texts.proofs.Common.{next_scene, refl, reply_text, subst, sym, timeline, ℕ, ◌++◌, ◌∙◌, ◌∷◌, ◌≡◌}
use Rattle.std.specs.Prelude.{Ok, Result, IfOk}
use Rattle.core_state.specs.State.{State}
use Rattle.forced_marks.specs.Marks.{AreStages}
use Rattle.forced_marks.specs.Moments.{stage_of}
use Rattle.forced_marks.proofs.EventTold.{told_of_stages}
use Rattle.forced_marks.proofs.Staged.{marks_of_moments}
use Rattle.event_facts.specs.Events.{IsCopiedAfter, IsSetOf, IsSnapshot, concerned_by, is_doomed_in}
use Rattle.sm_names.specs.declared.outcomes.StepFault.{StepFault}
use Rattle.core_state.specs.Theorem.{Stepped}
use Rattle.event_texts.proofs.Failing.{failures-more}
use Rattle.event_texts.proofs.event_writer.EventWriter.take.Goals as goal

-- an event that was made
abbrev whole : Event → Result Event StepFault
whole event = Ok event

pub returns-clause-ok : goal.returns-clause-ok
returns-clause-ok c = λ scene at.
    let reply = c.in_ok-made.made.reply in
    let notes = c.in_ok-made.ensures.notes in
    let step = subst
    (λ (r : Result Event StepFault). IfOk r (λ e. Stepped c.args.self.now.session.core c.take_event.new.core c.args.client
    c.args.call (Ok e.reply))) (c.in_ok-event.ensures.ok ∙ ap whole (sym c.in_ok-made.ensures.same)) c.take_event.ensures.stepped in
    record {
      setting = record {
        pool = notes.pool ∙ step.after.pool;
        limits = notes.limits ∙ step.after.limits;
      };
      text = as_line (reply_text scene.names c.args.binds reply);
      gained = notes.text scene.names at.keeps
          ∙ ap (λ front. front ++ as_line (reply_text scene.names c.args.binds reply)) c.clear.ensures.items;
      next = next_scene scene c.args.client c.args.call c.args.binds reply;
      gives = (reply, refl, refl);
      is_at = record {
        shows = notes.shows (next_scene scene c.args.client c.args.call c.args.binds reply).history
            (step.goes_on scene.history at.shows);
        keeps = notes.keeps scene.names at.keeps;
      };
    }

pub returns-clause-knows : goal.returns-clause-knows
returns-clause-knows c = λ scene knows.
    let reply = c.in_ok-made.made.reply in
    let notes = c.in_ok-made.ensures.notes in
    let step = subst
    (λ (r : Result Event StepFault). IfOk r (λ e. Stepped c.args.self.now.session.core c.take_event.new.core c.args.client
    c.args.call (Ok e.reply))) (c.in_ok-event.ensures.ok ∙ ap whole (sym c.in_ok-made.ensures.same)) c.take_event.ensures.stepped in
    record {
      is_at = record {
        shows = notes.shows (next_scene scene c.args.client c.args.call c.args.binds reply).history
            (step.goes_on scene.history knows.is_at.shows);
        keeps = notes.keeps scene.names knows.is_at.keeps;
      };
      calls = notes.calls scene.names knows.calls;
      failed =
          let old : State = c.args.self.now.session.core in
          let made : Event = c.in_ok-made.made in
          let next = next_scene scene c.args.client c.args.call c.args.binds reply in
          let is : c.take_event.result ≡ whole made = c.in_ok-event.ensures.ok ∙ ap whole (sym c.in_ok-made.ensures.same) in
          let stages : AreStages old c.take_event.new.core c.args.client c.args.call reply (map stage_of made.moments.items) =
          subst (λ (r : Result Event StepFault). IfOk r (λ e. AreStages old c.take_event.new.core c.args.client c.args.call e.reply
          (map stage_of e.moments.items))) is c.take_event.ensures.stages in
          let marks =
          told_of_stages old c.take_event.new.core scene.history c.args.client c.args.call reply knows.is_at.shows step.answer step.after
          (map stage_of made.moments.items) stages
          ∙ ap (λ (l : List Mark). laid_on l (Called c.args.client reply c.args.call ∷ timeline old.pool scene.history))
          (marks_of_moments made.moments.items) in
          let counted : c.failures_with-self.result ≡ failures_with c.args.self.now.failures c.events-events.result made.moments.items =
          c.failures_with-self.ensures.value ∙ ap (failures_with c.args.self.now.failures c.events-events.result)
          (c.deref.ensures.value ∙ ap (λ (e : Event). e.moments.items) (sym c.in_ok-made.ensures.same)) in
          c.in_ok-made.ensures.failures
          ∙ (failures-more old.pool scene.history c.args.client c.args.call reply made.moments.items marks c.args.self.now.failures
          c.events-events.result c.failures_with-self.result knows.failed
          (c.events-events.ensures.shown next.history (step.goes_on scene.history knows.is_at.shows)) counted
          ∙ ap (λ (p : ℕ). failures (timeline p next.history)) (sym (notes.pool ∙ step.after.pool)));
    }

pub returns-clause-failures : goal.returns-clause-failures
returns-clause-failures c = rw c.in_ok-made.ensures.failures c.failures_with-self.ensures.few

pub returns-clause-text : goal.returns-clause-text
returns-clause-text c = λ names keeps.
    c.in_ok-made.ensures.notes.text names keeps
    ∙ ap (λ front. front ++ as_line (reply_text names c.args.binds c.in_ok-made.made.reply)) c.clear.ensures.items

-- it is the event that was taken, whose stages have its marks
pub returns-clause-event : goal.returns-clause-event
returns-clause-event c =
    let made : Event = c.in_ok-made.made in
    let old : State = c.args.self.now.session.core in
    let is : c.take_event.result ≡ whole made = c.in_ok-event.ensures.ok ∙ ap whole (sym c.in_ok-made.ensures.same) in
    let step : Stepped old c.take_event.new.core c.args.client c.args.call (Ok made.reply) =
    subst (λ (r : Result Event StepFault). IfOk r (λ e. Stepped old c.take_event.new.core c.args.client c.args.call (Ok e.reply))) is
    c.take_event.ensures.stepped in
    let stages : AreStages old c.take_event.new.core c.args.client c.args.call made.reply (map stage_of made.moments.items) =
    subst (λ (r : Result Event StepFault). IfOk r (λ e. AreStages old c.take_event.new.core c.args.client c.args.call e.reply
    (map stage_of e.moments.items))) is c.take_event.ensures.stages in
    record {
      stepped = c.take_event.new.core;
      step = step;
      asked = subst (λ (r : Result Event StepFault). IfOk r (λ e. e.call ≡ c.args.call)) is c.take_event.ensures.call;
      stages = stages;
      marks = λ history shows.
          told_of_stages old c.take_event.new.core history c.args.client c.args.call made.reply shows step.answer step.after
          (map stage_of made.moments.items) stages
          ∙ ap (λ (l : List Mark). laid_on l (Called c.args.client made.reply c.args.call ∷ timeline old.pool history))
          (marks_of_moments made.moments.items);
      before = subst
          (λ (r : Result Event StepFault). IfOk r (λ e. IsSnapshot old (concerned_by old c.args.client c.args.call e.reply) e.before))
          is c.take_event.ensures.before;
      doomed = subst (λ (r : Result Event StepFault). IfOk r (λ e. IfSome e.before (λ b. IsSetOf
          (is_doomed_in old.holds b.copied.id b.copied.nodes.items b.copied.buffers) b.doomed)))
          is c.take_event.ensures.doomed;
      copied = subst (λ (r : Result Event StepFault). IfOk r (λ e. IsCopiedAfter c.take_event.new.core e.before e.after))
          is c.take_event.ensures.after;
      fired = subst (λ (r : Result Event StepFault). IfOk r (λ e. e.fired ≡ length old.trackers.fired)) is c.take_event.ensures.fired;
    }
