-- Each legal history that a state shows, extended by an answered event, is legal, and the next state shows it.
use Rattle.core_state.proofs.Common.{Birth, Bound, Call, Called, Entry, Follows, Forest, GoesOn, Grows, HandleCounts, Handles, In-any}
use Rattle.core_state.proofs.Common.{In-filter, In-list_any, IsAfter, IsAnswer, List, NodeKey, None, Option, Reply, Shows, Some, State}
use Rattle.core_state.proofs.Common.{Timeline, Work, Worked, [], after, ap, arith, birth_at, births, clients_by, collection_after}
use Rattle.core_state.proofs.Common.{cons_option, counts_of, empty_state, end_by, events, events_after, every_rests, false, given}
use Rattle.core_state.proofs.Common.{handles_after, handles_by, inl, inr, kept_ids, legal_grows, length, map, new_key, next_forced, not}
use Rattle.core_state.proofs.Common.{option_map_or, or_cases, or_left, or_right, readings, readings_of, refl, same_key, subst, sym}
use Rattle.core_state.proofs.Common.{timeline, timeline-push, total, true, was_born, with_place, without_id, without_unkept, work_of, ℕ}
use Rattle.core_state.proofs.Common.{◌++◌, ◌+◌, ◌<◌, ◌==◌, ◌||◌, ◌∙◌, ◌∷◌, ◌≡◌}
use Rattle.sm_names.specs.Legality.{IsLegal}
use Rattle.sm_names.specs.Views.{views}
use Rattle.history_laws.proofs.HistoryLaws.{legal_on}
use Rattle.core_state.proofs.forced.CallStep.{IsIdle}
use Rattle.core_state.proofs.answers.Changes.{idle, starts}
use Rattle.core_state.proofs.joined.Joining.{clients_event}
use Rattle.core_state.proofs.theorem.EventCount.{events-timeline}
use Rattle.core_state.proofs.nodes.Answered.{no_birth}
use Rattle.core_state.proofs.collections.Elsewhere.{came}
use Rattle.core_state.proofs.handles.Counts.{handles_called, handles_event}
use Rattle.core_state.proofs.forced.NothingForced.{idle_after, idle_collections}
use Rattle.core_state.proofs.theorem.Follows.{Counts}
use Rattle.core_state.proofs.views.SameAnswers.{answer_is}
use Rattle.core_state.proofs.views.AfterEvents.{idle_seen, work_seen}
use Rattle.core_state.proofs.views.ForTrackers.{IsSeen}
use Rattle.core_state.proofs.firing.NextTrackers.{trackers_follow}
use Rattle.core_state.proofs.forced.Work.{births_later, worked_collections}

module _ (s : State) (marks : Timeline) (shown : IsAfter s marks) (limits : Bound) (grown : Grows s.pool limits [] marks) (client : ℕ)
    (reply : Reply) (call : Call)
    (answer : IsAnswer limits (readings marks) client call reply) (rests : (collection : ℕ) →
    next_forced s.pool collection marks ≡ None) where
  -- the marks with that of the call
  abbrev called : Timeline
  called = Called client reply call ∷ marks

  -- with all that it forces
  abbrev later : Timeline
  later = after s.pool marks (client, call, reply)

  -- ---- the work

  module _ (handles : Handles) (counts : Counts handles (Called client reply call ∷ marks)) (worked : Forest)
      (work : Worked s handles (work_of s client call reply) (new_key reply) worked) where
    -- the collections that are left are those that the marks keep
    left_collections : without_unkept (with_place (end_by client call reply) worked).collections ≡ map
        (collection_after s.pool (after s.pool marks (client, call, reply))) (kept_ids (after s.pool marks (client, call, reply)))
    left_collections = from (work_of s client call reply) refl work
      where
        -- the collections agree, whether or not the event does work on one of them
        from : (o : Option Work) → work_of s client call reply ≡ o → Worked s handles o (new_key reply) worked →
            without_unkept (with_place (end_by client call reply) worked).collections ≡ map
            (collection_after s.pool (after s.pool marks (client, call, reply))) (kept_ids (after s.pool marks (client, call, reply)))
        from None e same =
            let i : IsIdle marks client reply call = idle s marks shown limits grown client reply call answer e in
            let now : after s.pool marks (client, call, reply) ≡ called =
            idle_after s marks shown limits grown client reply call answer i rests in
            ap (λ (f : Forest). without_unkept (with_place (end_by client call reply) f).collections) same
            ∙ (idle_collections s marks shown limits grown client reply call answer i rests
            ∙ ap (λ (t : Timeline). map (collection_after s.pool t) (kept_ids t)) (sym now))
        from (Some w) e settled =
            worked_collections s marks shown limits grown client reply call answer w (starts s marks shown limits grown client reply call
            answer w e) handles counts worked settled

    -- trackers see what the marks tell
    pub seen_later : IsSeen worked handles marks (after s.pool marks (client, call, reply))
    seen_later = from (work_of s client call reply) refl work
      where
        from : (o : Option Work) → work_of s client call reply ≡ o → Worked s handles o (new_key reply) worked →
            IsSeen worked handles marks (after s.pool marks (client, call, reply))
        from None e same =
            let i : IsIdle marks client reply call = idle s marks shown limits grown client reply call answer e in
            subst (λ (f : Forest). IsSeen f handles marks later) (sym same) (idle_seen s marks shown limits grown client reply call answer i
            rests handles counts)
        from (Some w) e settled =
            work_seen s marks shown limits grown client reply call answer w (starts s marks shown limits grown client reply call answer w e)
            handles counts worked settled

    -- a key that was born is given
    given_later : (key : NodeKey) → was_born (births (Called client reply call ∷ marks)) key ≡ true → given worked key ≡ true
    given_later key born = from (work_of s client call reply) refl work
      where
        told : (b : Birth) → birth_at (events marks + 1) (Called client reply call) ≡ Some b → new_key reply ≡ Some b.node
        told b e = ap new_key (came s.pool limits marks grown client reply call answer b e).told

        new_or_old : (o : Option Birth) → birth_at (events marks + 1) (Called client reply call) ≡ o →
            was_born (cons_option o (births marks)) key ≡ true →
            (option_map_or (λ new. same_key new key) (new_key reply) false || given s.forest key) ≡ true
        new_or_old None e h = or_right (option_map_or (λ new. same_key new key) (new_key reply) false) _ (shown.given key h)
        new_or_old (Some b) e h = elim (or_cases (same_key b.node key) _ h) [
          | inl now ↦ or_left _ _ (ap (λ (k : Option NodeKey). option_map_or (λ new. same_key new key) k false) (told b e) ∙ now)
          | inr old ↦ or_right (option_map_or (λ new. same_key new key) (new_key reply) false) _ (shown.given key old)
        ]

        from : (o : Option Work) → work_of s client call reply ≡ o → Worked s handles o (new_key reply) worked → given worked key ≡ true
        from None e same =
            let i : IsIdle marks client reply call = idle s marks shown limits grown client reply call answer e in
            let none : birth_at (events marks + 1) (Called client reply call) ≡ None =
            no_birth 0 (events marks + 1) (Called client reply call) i.bears_none in
            let was : was_born (births marks) key ≡ true =
            ap (λ (o : Option Birth). was_born (cons_option o (births marks)) key) (sym none) ∙ born in
            ap (λ (f : Forest). given f key) same ∙ shown.given key was
        from (Some w) e settled = settled.keys key ∙ new_or_old (birth_at (events marks + 1) (Called client reply call)) refl born

  -- ---- the state

  module _ (new : State) (f : Follows s new client call reply) where
    -- the handles go by the mark of the call
    handles_new : counts_of new.holds ≡ handles_by (Called client reply call) (handles_after marks)
    handles_new = f.handles ∙ ap (handles_by (Called client reply call)) shown.handles

    -- so as many are open as the marks tell
    counts_new : Counts (total new.holds) (Called client reply call ∷ marks)
    counts_new buffer strength = ap (λ (h : HandleCounts). h.total buffer strength) (handles_new
        ∙ sym (handles_called s.pool limits marks grown client reply call answer))

    -- the next state is what the marks make of it
    pub after_event : IsAfter new (after s.pool marks (client, call, reply))
    after_event = record {
      events = f.events ∙ (ap (λ (n : ℕ). n + 1) shown.events ∙ sym (events_after s.pool marks (client, call, reply)));
      clients = f.clients ∙ (ap (clients_by (Called client reply call)) shown.clients
          ∙ sym (clients_event s.pool limits marks grown client reply call answer));
      collections = f.collections ∙ (left_collections (total new.holds) counts_new f.worked f.work
          ∙ ap (λ (p : ℕ). map (collection_after p later) (kept_ids later)) (sym f.pool));
      given = λ key born. f.keys.keys key ∙ given_later (total new.holds) counts_new f.worked f.work key (ap (λ (bs : List Birth).
          was_born bs key) (sym (births_later s marks shown limits grown client reply call answer)) ∙ born);
      handles = handles_new ∙ sym (handles_event s.pool limits marks grown client reply call answer);
      trackers = trackers_follow s marks shown limits grown client reply call answer new f (seen_later (total new.holds) counts_new f.worked
          f.work);
    }

-- ---- histories

-- a call that is answered, and whose event the next state follows, extends each history that the old state shows
pub goes_on : (old new : State) (client : ℕ) (call : Call) (reply : Reply) → IsAnswer old.limits (readings_of old) client call reply →
    Follows old new client call reply →
    old.events < old.limits.events → GoesOn old new ((client, call, reply) ∷ [])
goes_on old new client call reply told f room history shows =
    let marks : Timeline = timeline old.pool history in
    let grown : Grows old.pool old.limits [] marks = legal_grows old.pool old.limits history shows.legal in
    let answer : IsAnswer old.limits (readings marks) client call reply =
    answer_is old marks shows.shown old.limits grown old.limits client call reply told in
    let rests : (collection : ℕ) → next_forced old.pool collection marks ≡ None =
    every_rests old.pool old.limits history shows.legal.answers in
    let less : length history < old.limits.events = (let count : events marks ≡ length history = events-timeline old.pool history in
    let same : old.events ≡ events marks = shows.shown.events in omega (arith, count, same, room)) in
    let legal : IsLegal old.pool old.limits (history ++ (client, call, reply) ∷ []) =
    legal_on old.pool old.limits history (readings marks) (views old.pool marks) (client, call, reply) shows.legal
    (record { read_is = refl; seen_is = refl }) less answer in
    let now : IsAfter new (after old.pool marks (client, call, reply)) =
    after_event old marks shows.shown old.limits grown client reply call answer rests new f in
    let there : timeline new.pool (history ++ (client, call, reply) ∷ []) ≡ after old.pool marks (client, call, reply) =
    ap (λ (p : ℕ). timeline p (history ++ (client, call, reply) ∷ [])) f.pool ∙ timeline-push old.pool history (client, call, reply) in
    record {
      legal = subst (λ (p : ℕ). IsLegal p new.limits (history ++ (client, call, reply) ∷ [])) (sym f.pool)
          (subst (λ (l : Bound). IsLegal old.pool l (history ++ (client, call, reply) ∷ [])) (sym f.limits) legal);
      shown = subst (λ (t : Timeline). IsAfter new t) (sym there) now;
    }

-- the state of a core that saw nothing shows the empty history
pub shows_nothing : (pool : ℕ) (limits : Bound) → Shows (empty_state pool limits 0) []
shows_nothing pool limits = record {
  legal = record { answers = tt; within = omega arith };
  shown = record {
    events = refl;
    clients = refl;
    collections = refl;
    given = λ key born. (let no : false ≡ true = born in cc);
    handles = refl;
    trackers = record { fired = refl; waiting = refl; untaken = λ id on. (let no : false ≡ true = on in cc) };
  };
}

-- ---- changes that no event makes

-- and so does a state once a tracker was taken
pub take_shows : (s : State) (id : ℕ) (history : List Entry) → Shows s history →
    Shows (record s { trackers = record s.trackers { untaken = without_id s.trackers.untaken id } }) history
take_shows s id history shows = record {
  legal = shows.legal;
  shown = record {
    events = shows.shown.events;
    clients = shows.shown.clients;
    collections = shows.shown.collections;
    given = shows.shown.given;
    handles = shows.shown.handles;
    trackers = record {
      fired = shows.shown.trackers.fired;
      waiting = shows.shown.trackers.waiting;
      untaken = λ other on.
          let left = In-list_any (λ i. i == other) (without_id s.trackers.untaken id) on in
          let was = In-filter (λ i. not (i == id)) s.trackers.untaken left.0 left.1 in
          shows.shown.trackers.untaken other (In-any (λ i. i == other) s.trackers.untaken left.0 was.0 left.2);
    };
  };
}
