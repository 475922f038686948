-- When a tracker fires, as one more event comes.
use Rattle.event_laws.proofs.Common.{Bool, Bound, Called, Entry, Grows, In, In-any, In-list_any, IsAnswer, List, None, Option, Some}
use Rattle.event_laws.proofs.Common.{Timeline, Tracked, [], after, and_left, ap, arith, cond, earlier_after, earlier_moments, eq-eqb}
use Rattle.event_laws.proofs.Common.{eqb-true, events, false, false_if, fired_at, holds, is_none, is_tracked_met, last_match, list_any}
use Rattle.event_laws.proofs.Common.{moments, not, option_map, option_map_or, readings, refl, sym, tracked, tracked_at, true, world, ℕ}
use Rattle.event_laws.proofs.Common.{◌&&◌, ◌+◌, ◌==◌, ◌∙◌, ◌∷◌, ◌≡◌, ◌≤◌}
use Rattle.sm_names.specs.Trackers.{fires_at}
use Rattle.event_laws.proofs.MomentLaws.{moment_earlier, last_match-kept, events_after}
use Rattle.event_laws.proofs.NumberLaws.{numbered, made_id}
use Rattle.history_laws.proofs.FiredLaws.{fired_early}

-- ---- after any marks

-- a tracker with an id that none has has not fired
pub none_fired : (marks : Timeline) (t : Tracked) → ((u : Tracked) → In u (tracked marks) → u.id == t.id ≡ false) → fired_at marks t ≡ None
none_fired marks t other = from (last_match (fires_at t) (moments marks)) refl
  where
    -- since a tracker that fires was attached with its own id, which none has
    never : (m : Timeline) → In m (moments marks) → fires_at t m ≡ true → ⊥
    never m on h =
        let attached : list_any (λ (u : Tracked). u.id == t.id) (tracked m) ≡ true = and_left _ (holds (world m) t.condition) h in
        let u = In-list_any (λ (u : Tracked). u.id == t.id) (tracked m) attached in
        let no : true ≡ false = sym u.2 ∙ other u.0 ((moment_earlier marks m on).among u.0 u.1) in
        cc

    -- by cases: a last match would be a moment at which it fires, and there is none
    from : (o : Option Timeline) → last_match (fires_at t) (moments marks) ≡ o → option_map events o ≡ None
    from None e = refl
    from (Some moment) e = absurd (last_match-kept (λ m. ⊥) (fires_at t) (moments marks) never moment e)

-- a tracker that was attached passes where what it waits for holds
passes : (marks : Timeline) (t : Tracked) → In t (tracked marks) → fires_at t marks ≡ is_tracked_met (world marks) t
passes marks t on =
    let attached : list_any (λ (u : Tracked). u.id == t.id) (tracked marks) ≡ true =
    In-any (λ (u : Tracked). u.id == t.id) (tracked marks) t on (eq-eqb t.id t.id refl) in
    rw attached refl

-- so what a tracker that has not fired waits for does not hold
pub not_due : (marks : Timeline) (t : Tracked) → In t (tracked marks) → fired_at marks t ≡ None → is_tracked_met (world marks) t ≡ false
not_due marks t on h = sym (passes marks t on) ∙ from (last_match (fires_at t) (earlier_moments marks)) (fires_at t marks) h
  where
    -- by cases on both: it would have fired now, if what it waits for held
    from : (o : Option Timeline) (b : Bool) → option_map events (option_map_or Some o (cond b (Some marks) None)) ≡ None → b ≡ false
    from None true h = cc
    from None false h = refl
    from (Some m) b h = cc

-- ---- one more event

-- it fired before, or fires now if what it waits for holds
pub fired_next : (pool : ℕ) (marks : Timeline) (entry : Entry) (t : Tracked) → In t (tracked (after pool marks entry)) →
    fired_at (after pool marks entry) t ≡ option_map_or Some (fired_at marks t) (cond (is_tracked_met (world (after pool marks entry)) t)
    (Some (events (after pool marks entry))) None)
fired_next pool marks entry t on =
    ap (λ (ms : List Timeline). option_map events (last_match (fires_at t) (after pool marks entry ∷ ms))) (earlier_after pool marks entry)
    ∙ (from (last_match (fires_at t) (moments marks)) (fires_at t (after pool marks entry))
    ∙ ap (λ (b : Bool). option_map_or Some (fired_at marks t) (cond b (Some (events (after pool marks entry))) None))
    (passes (after pool marks entry) t on))
  where
    -- by cases on the earlier match and on whether it fires now
    from : (o : Option Timeline) (b : Bool) →
        option_map events (option_map_or Some o (cond b (Some (after pool marks entry)) None)) ≡ option_map_or Some (option_map events o)
        (cond b (Some (events (after pool marks entry))) None)
    from (Some m) b = refl
    from None true = refl
    from None false = refl

-- it waits on if it waited, and is not due
pub waits_next : (pool : ℕ) (marks : Timeline) (entry : Entry) (t : Tracked) → In t (tracked (after pool marks entry)) →
    is_none (fired_at (after pool marks entry) t) ≡ (is_none (fired_at marks t) && not (is_tracked_met (world (after pool marks entry)) t))
waits_next pool marks entry t on =
    ap is_none (fired_next pool marks entry t on) ∙ from (fired_at marks t) (is_tracked_met (world (after pool marks entry)) t)
  where
    -- by cases on the earlier firing and on whether it fires now
    from : (o : Option ℕ) (b : Bool) → is_none (option_map_or Some o (cond b (Some (events (after pool marks entry))) None)) ≡ (is_none
        o && not b)
    from (Some event) b = refl
    from None true = refl
    from None false = refl

-- it fires at this event if it waited, and is due
pub fires_now : (pool : ℕ) (marks : Timeline) (entry : Entry) (t : Tracked) → In t (tracked (after pool marks entry)) →
    option_map_or (λ e. e == events (after pool marks entry)) (fired_at (after pool marks entry) t)
    false ≡ (is_none (fired_at marks t) && is_tracked_met (world (after pool marks entry)) t)
fires_now pool marks entry t on =
    ap (λ (o : Option ℕ). option_map_or (λ e. e == events (after pool marks entry)) o false) (fired_next pool marks entry t on)
    ∙ from (fired_at marks t) refl (is_tracked_met (world (after pool marks entry)) t)
  where
    -- the number of this event
    now : ℕ
    now = events (after pool marks entry)

    -- by cases: an earlier firing has the number of an event before this one, so it is not this
    from : (o : Option ℕ) → fired_at marks t ≡ o → (b : Bool) →
        option_map_or (λ e. e == now) (option_map_or Some o (cond b (Some now) None)) false ≡ (is_none o && b)
    from (Some event) e b = false_if (event == now) (λ h.
        (let is : event ≡ now = eqb-true event now h in
        let early : event ≤ events marks = fired_early marks t event e in
        let next : now ≡ events marks + 1 = events_after pool marks entry in
        omega (arith, is, early, next)))
    from None e true = eq-eqb now now refl
    from None e false = refl

-- and it fired at an earlier event if it did
pub fired_then : (pool : ℕ) (marks : Timeline) (entry : Entry) (event : ℕ) → event ≤ events marks → (t : Tracked) →
    In t (tracked (after pool marks entry)) →
    option_map_or (λ e. e == event) (fired_at (after pool marks entry) t) false ≡ option_map_or (λ e. e == event) (fired_at marks t) false
fired_then pool marks entry event early t on =
    ap (λ (o : Option ℕ). option_map_or (λ e. e == event) o false) (fired_next pool marks entry t on)
    ∙ from (fired_at marks t) (is_tracked_met (world (after pool marks entry)) t)
  where
    -- the number of this event
    now : ℕ
    now = events (after pool marks entry)

    -- by cases: a firing now has a later number than an event before
    from : (o : Option ℕ) (b : Bool) → option_map_or (λ e. e == event) (option_map_or Some o (cond b (Some now) None)) false ≡ option_map_or
        (λ e. e == event) o false
    from (Some e) b = refl
    from None true = false_if (now == event) (λ h.
        (let is : now ≡ event = eqb-true now event h in
        let next : now ≡ events marks + 1 = events_after pool marks entry in
        omega (arith, is, early, next)))
    from None false = refl

-- ---- the tracker that the event attaches

-- it has not fired before
pub made_waits : (pool : ℕ) (limits : Bound) (marks : Timeline) (entry : Entry) (t : Tracked) → Grows pool limits [] marks →
    IsAnswer limits (readings marks) entry.0 entry.1 entry.2 →
    tracked_at marks (Called entry.0 entry.2 entry.1) ≡ Some t → fired_at marks t ≡ None
made_waits pool limits marks entry t g answer h =
    let is : t.id ≡ events marks + 1 = made_id limits marks entry.0 entry.2 entry.1 t answer h in
    none_fired marks t (λ u on. false_if (u.id == t.id) (λ e.
    (let same : u.id ≡ t.id = eqb-true u.id t.id e in
    let early : u.id ≤ events marks = (numbered pool limits marks g).early u on in
    omega (arith, is, same, early))))
