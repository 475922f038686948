use Rattle.std.proofs.Common.{◌≡◌, ◌∙◌, ℕ, ap, sym, subst, refl, Option}
use Rattle.std.specs.Option.{IfSome}
use Rattle.event_facts.specs.declared.event.Event.{Event}
use Rattle.picture_model.specs.PictureStates.{known_after, known_in}
use Rattle.picture_model.specs.Seen.{named_in}
use Rattle.script_draw.proofs.draw.Scroll.take_call.Goals as goal

-- the setting is that of the event writer
pub returns-clause-setting : goal.returns-clause-setting
returns-clause-setting c = λ scene at. (c.in_ok-event.ensures.ok scene at).setting

pub returns-clause-limits : goal.returns-clause-limits
returns-clause-limits c = refl

-- the event is the last
pub returns-clause-made : goal.returns-clause-made
returns-clause-made c = record {
  event = c.in_ok-event.event;
  is = c.in_ok-event.ensures.event;
  kept = c.in_ok-keep.ensures.last;
  knows = c.in_ok-event.ensures.knows;
}

-- the picture state took the event in, whose call named this collection
pub returns-clause-seen : goal.returns-clause-seen
returns-clause-seen c =
    let core = c.args.self.now.event_writer.session.core in
    let kept = c.take.new.self.session.core in
    let known = λ (named : Option ℕ) (id : ℕ). known_after kept named c.in_ok-event.event id (known_in c.args.self.now.picture_state id) in
    let taken : (id : ℕ) → known_in c.keep.new.picture_state id ≡ known (named_in core c.args.call) id =
    λ id. c.in_ok-keep.ensures.known id ∙ ap (λ (named : Option ℕ). known named id) c.named_collection-named.ensures in
    subst (λ (last : Option Event). IfSome last (λ event. (id : ℕ) →
    known_in c.keep.new.picture_state id
    ≡ known_after kept (named_in core c.args.call) event id (known_in c.args.self.now.picture_state id)))
    (sym c.in_ok-keep.ensures.last) taken

-- the picture state knows what is kept
pub returns-clause-kept : goal.returns-clause-kept
returns-clause-kept c = λ scene knows kept.
    c.in_ok-keep.ensures.kept c.args.self.now.event_writer.session.core c.args.client c.args.call scene.history knows.is_at.shows
    c.in_ok-event.ensures.event (c.in_ok-event.ensures.ok scene knows.is_at).setting.pool
    (c.in_ok-event.ensures.knows scene knows).is_at.shows kept

-- the event writer counts one more at most
pub returns-clause-failures : goal.returns-clause-failures
returns-clause-failures c = c.in_ok-event.ensures.failures
