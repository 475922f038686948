-- What an event adds to the moments, and what was so at an earlier one.
use Rattle.event_laws.proofs.Common.{Allocated, Bool, Called, Ended, Entry, In, In_old, List, Loss, Mark, None, Option, Some, Timeline}
use Rattle.event_laws.proofs.Common.{Tracked, [], after, arith, cond, earlier_moments, either_way, events, false, fold, inl, inr}
use Rattle.event_laws.proofs.Common.{is_event, kept-after, last_match, length, moments, option_map_or, refl, times-cons, tracked}
use Rattle.event_laws.proofs.Common.{tracked_at, true, ℕ, ◌+◌, ◌∙◌, ◌∷◌, ◌≡◌, ◌≤◌}

-- what holds of each element that passes, holds of the last one
pub last_match-kept : {A : Type 0} (P : A → Type 0) (test : A → Bool) (xs : List A) → ((x : A) → In x xs → test x ≡ true → P x) → (y : A) →
    last_match test xs ≡ Some y → P y
last_match-kept P test [] each y h = cc
last_match-kept {A} P test (x ∷ xs) each y h =
    from (last_match test xs) (last_match-kept P test xs (λ z on. each z (inr on)) y) (test x) (each x (inl refl)) h
  where
    -- by cases: the last match is behind, where it is known, or it is the first element
    from : (o : Option A) → (o ≡ Some y → P y) → (b : Bool) → (b ≡ true → P x) → option_map_or Some o (cond b (Some x) None) ≡ Some y → P y
    from (Some z) later b here h = later h
    from None later true here h = let is : x ≡ y = cc in rw (← is) (here refl)
    from None later false here h = cc

-- ---- earlier moments

-- at the moment there were no more events, and no other trackers
pub record IsEarlier (marks moment : Timeline) : Type 0 where
  pub few : events moment ≤ events marks
  pub among : (t : Tracked) → In t (tracked moment) → In t (tracked marks)

-- so it is as the marks go on
earlier_on : (marks moment : Timeline) (mark : Mark) → IsEarlier marks moment → IsEarlier (mark ∷ marks) moment
earlier_on marks moment mark e =
    record {
      few = (let x : events moment ≤ events marks = e.few in omega (arith, times-cons is_event mark marks));
      among = λ t on. In_old (tracked_at marks mark) (tracked marks) t (e.among t on);
    }

-- the marks are no later than themselves
earlier_here : (marks moment : Timeline) → moment ≡ marks → IsEarlier marks moment
earlier_here marks moment is = rw is (record { few = omega arith; among = λ t on. on })

-- each moment before the last event is an earlier one
earlier_moment : (marks moment : Timeline) → In moment (earlier_moments marks) → IsEarlier marks moment
earlier_moment [] moment on = absurd on
earlier_moment (mark ∷ before) moment on =
    elim (either_way (is_event mark)) [
      | inl e ↦ elim (at_event (rw e at on)) [
        | inl is ↦ earlier_on before moment mark (earlier_here before moment is)
        | inr there ↦ earlier_on before moment mark (earlier_moment before moment there)
      ]
      | inr e ↦ earlier_on before moment mark (earlier_moment before moment (rw e at on))
    ]
  where
    -- restates the hypothesis with `In`, so that it can be split
    at_event : In moment (before ∷ earlier_moments before) → In moment (before ∷ earlier_moments before)
    at_event h = h

-- so is each moment
pub moment_earlier : (marks moment : Timeline) → In moment (moments marks) → IsEarlier marks moment
moment_earlier marks moment (inl is) = earlier_here marks moment is
moment_earlier marks moment (inr there) = earlier_moment marks moment there

-- ---- one more event

-- only an event attaches a tracker
pub only_events : (marks : Timeline) (mark : Mark) → is_event mark ≡ false → tracked (mark ∷ marks) ≡ tracked marks
only_events marks (Called client reply call) h = cc
only_events marks (Loss origin cause) h = refl
only_events marks (Allocated head) h = refl
only_events marks (Ended top) h = refl

-- what an event forces attaches no tracker
pub tracked_after : (pool : ℕ) (marks : Timeline) (entry : Entry) →
    tracked (after pool marks entry) ≡ tracked (Called entry.0 entry.2 entry.1 ∷ marks)
tracked_after pool marks entry =
    kept-after (λ m. tracked m ≡ tracked (Called entry.0 entry.2 entry.1 ∷ marks)) (λ m mark quiet e. only_events m mark quiet
    ∙ e) pool marks entry refl

-- only events are counted
uncounted : (marks : Timeline) (mark : Mark) → is_event mark ≡ false → events (mark ∷ marks) ≡ events marks
uncounted marks mark h = rw h refl

-- an event counts once
pub events_after : (pool : ℕ) (marks : Timeline) (entry : Entry) → events (after pool marks entry) ≡ events marks + 1
events_after pool marks entry =
    kept-after (λ m. events m ≡ events marks + 1) (λ m mark quiet e. uncounted m mark quiet ∙ e) pool marks entry refl

-- and so does each of more
pub events-fold : (pool : ℕ) (marks : Timeline) (history : List Entry) →
    events (fold (after pool) marks history) ≡ events marks + length history
events-fold pool marks [] = omega arith
events-fold pool marks (entry ∷ more) = omega (arith, events-fold pool (after pool marks entry) more, events_after pool marks entry)
