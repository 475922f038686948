-- Which trackers wait after one more event, and which fired.
use Rattle.event_laws.proofs.Common.{Bool, Bound, Called, Condition, Entry, Grows, In, In-reverse, IsAnswer, IsWaitedFor, List, None}
use Rattle.event_laws.proofs.Common.{Option, Some, Timeline, Tracked, [], after, allocated, ap, arith, cond, cons_option, earlier_after}
use Rattle.event_laws.proofs.Common.{either_way, events, false, filter, fired, fired_at, gone, holds, inl, inr, is_none, is_tracked_met}
use Rattle.event_laws.proofs.Common.{length, length-filter, map, moments, nat_le, not, option_map_or, readings, refl, reverse}
use Rattle.event_laws.proofs.Common.{reverse-append, sum_by, sum_by-append, sum_by-cons, sym, tracked, tracked_at, tracked_firing}
use Rattle.event_laws.proofs.Common.{tracker_made, trackers_to_test, true, unfired_trackers, world, ℕ, ◌&&◌, ◌++◌, ◌==◌, ◌∙◌, ◌∷◌, ◌≡◌}
use Rattle.event_laws.proofs.Common.{◌≤◌}
use Rattle.std.proofs.lemmas.List.{append-nil}
use Rattle.std.proofs.lemmas.List.Concat.{flat_map-append}
use Rattle.std.proofs.lemmas.List.Elements.{filter-append}
use Rattle.std.specs.List.{flat_map, count_by}
use Rattle.sm_names.specs.declared.tracking.Fired.{Fired}
use Rattle.sm_names.specs.Handles.{left}
use Rattle.sm_names.specs.Trackers.{fired_in, unfired}
use Rattle.event_laws.proofs.FiringLaws.{not_due, waits_next, fires_now, fired_then, made_waits}
use Rattle.sm_names.proofs.ListLaws.{In-filter, filter-In}
use Rattle.event_laws.proofs.MomentLaws.{moment_earlier, tracked_after}

-- ---- lists

-- what passes both tests passes one among those that pass the other
filter-both : {A : Type 0} (p q : A → Bool) (xs : List A) → filter (λ x. p x && q x) xs ≡ filter q (filter p xs)
filter-both p q [] = refl
filter-both {A} p q (x ∷ xs) =
    elim (either_way (p x)) [
      | inl e ↦ elim (either_way (q x)) [
        | inl f ↦ rw (e, f) (ap (λ (l : List A). x ∷ l) (filter-both p q xs))
        | inr f ↦ rw (e, f) (filter-both p q xs)
      ]
      | inr e ↦ rw e (filter-both p q xs)
    ]

-- lists of lists agree where each of them does
flat_map-In : {A B : Type 0} (f g : A → List B) (xs : List A) → ((x : A) → In x xs → f x ≡ g x) → flat_map f xs ≡ flat_map g xs
flat_map-In f g [] same = refl
flat_map-In f g (x ∷ xs) same = λ i. same x (inl refl) i ++ flat_map-In f g xs (λ y on. same y (inr on)) i

-- as many pass in either order
count_by-reverse : {A : Type 0} (p : A → Bool) (xs : List A) → count_by p (reverse xs) ≡ count_by p xs
count_by-reverse p [] = refl
count_by-reverse {A} p (x ∷ xs) =
    let one_each : A → ℕ = λ y. cond (p y) 1 0 in
    let turned : sum_by one_each (reverse (x ∷ xs)) ≡ sum_by one_each (reverse xs ++ x ∷ []) =
    ap (sum_by one_each) (reverse-append (x ∷ []) xs) in
    let rest : sum_by one_each (reverse xs) ≡ sum_by one_each xs = count_by-reverse p xs in
    omega (arith, turned, rest, sum_by-append one_each (reverse xs) (x ∷ []), sum_by-cons one_each x [], sum_by-cons one_each x xs)

-- ---- any marks

-- as many have not fired as wait
pub counted : (marks : Timeline) → unfired marks ≡ length (unfired_trackers marks)
counted marks =
    sym (length-filter (λ t. is_none (fired_at marks t)) (reverse (tracked marks))
    ∙ count_by-reverse (λ t. is_none (fired_at marks t)) (tracked marks))

-- a tracker that waits was attached, and has not fired
pub In-waiting : (marks : Timeline) (t : Tracked) → In t (unfired_trackers marks) → In t (tracked marks) × (fired_at marks t ≡ None)
In-waiting marks t on =
    let r = In-filter (λ (u : Tracked). is_none (fired_at marks u)) (reverse (tracked marks)) t on in
    (In-reverse (tracked marks) t r.0, none (fired_at marks t) r.1)
  where
    -- since an event would not be none
    none : (o : Option ℕ) → is_none o ≡ true → o ≡ None
    none None h = refl
    none (Some event) h = cc

-- of one that waits it does not hold
pub waiting_not_due : (marks : Timeline) (t : Tracked) → In t (unfired_trackers marks) → is_tracked_met (world marks) t ≡ false
waiting_not_due marks t on = let w = In-waiting marks t on in not_due marks t w.0 w.1

-- so its node is not gone, or was allocated, and its buffer is not doomed
pub waited_for : (marks : Timeline) (t : Tracked) → In t (unfired_trackers marks) → IsWaitedFor marks t.condition
waited_for marks t on = from t.condition (waiting_not_due marks t on)
  where
    -- by cases: a node that is gone without being allocated would make the tracker due
    or_allocated : (a g : Bool) (few : Bool) → cond a few g ≡ false → g ≡ true → a ≡ true
    or_allocated true g few h e = refl
    or_allocated false true few h e = cc
    or_allocated false false few h e = cc

    -- by cases on the condition: each was false at the last moment
    from : (condition : Condition) → holds (world marks) condition ≡ false → IsWaitedFor marks condition
    from (Condition.Node key) h = h
    from (Condition.Lifetime key collection most) h =
        or_allocated (allocated marks key) (gone marks key) (nat_le (left marks collection) most) h
    from (Condition.Weak buffer) h = h

-- ---- one more event

module _ (pool : ℕ) (limits : Bound) (marks : Timeline) (entry : Entry) (g : Grows pool limits [] marks)
    (answer : IsAnswer limits (readings marks) entry.0 entry.1 entry.2) where
  -- the marks after it
  abbrev then : Timeline
  then = after pool marks entry

  -- the trackers after it are those before, and the one that it attaches
  tracked_on : reverse (tracked (after pool marks entry)) ≡ reverse (tracked marks) ++ tracker_made marks entry
  tracked_on = ap reverse (tracked_after pool marks entry) ∙ from (tracked_at marks (Called entry.0 entry.2 entry.1))
    where
      from : (o : Option Tracked) → reverse (cons_option o (tracked marks)) ≡ reverse (tracked marks) ++ cons_option o []
      from None = sym (append-nil (reverse (tracked marks)))
      from (Some t) = reverse-append (t ∷ []) (tracked marks)

  -- of all of them those are asked that have not fired before
  unfired_on : filter (λ t. is_none (fired_at marks t)) (reverse (tracked (after pool marks entry))) ≡ trackers_to_test marks entry
  unfired_on =
      ap (filter (λ t. is_none (fired_at marks t))) tracked_on
      ∙ (filter-append (λ t. is_none (fired_at marks t)) (reverse (tracked marks)) (tracker_made marks entry)
      ∙ ap (λ (l : List Tracked). unfired_trackers marks ++ l) (from (tracked_at marks (Called entry.0 entry.2 entry.1)) refl))
    where
      from : (o : Option Tracked) → tracked_at marks (Called entry.0 entry.2 entry.1) ≡ o →
          filter (λ t. is_none (fired_at marks t)) (cons_option o []) ≡ cons_option o []
      from None e = refl
      from (Some t) e = rw (made_waits pool limits marks entry t g answer e) refl

  -- those of them that pass one more test
  asked_of : (test : Tracked → Bool) →
      filter (λ t. is_none (fired_at marks t) && test t) (reverse (tracked (after pool marks entry)))
      ≡ filter test (trackers_to_test marks entry)
  asked_of test = filter-both (λ t. is_none (fired_at marks t)) test (reverse (tracked (after pool marks entry)))
      ∙ ap (filter test) unfired_on

  -- those that are not due wait on
  pub waiting_next : unfired_trackers (after pool marks entry)
      ≡ filter (λ t. not (is_tracked_met (world (after pool marks entry)) t)) (trackers_to_test marks entry)
  waiting_next =
      filter-In (λ t. is_none (fired_at then t)) (λ t. is_none (fired_at marks t) && not (is_tracked_met (world then) t))
      (reverse (tracked then))
      (λ t on. waits_next pool marks entry t (In-reverse (tracked then) t on))
      ∙ asked_of (λ t. not (is_tracked_met (world then) t))

  -- those that are due fire at the event
  fired_now : fired_in (after pool marks entry) (events (after pool marks entry)) ≡ map (tracked_firing (events (after pool marks entry)))
      (filter (is_tracked_met (world (after pool marks entry))) (trackers_to_test marks entry))
  fired_now =
      ap (map (tracked_firing (events then)))
      (filter-In (λ t. option_map_or (λ e. e == events then) (fired_at then t) false) (λ t.
      is_none (fired_at marks t) && is_tracked_met (world then) t) (reverse (tracked then))
      (λ t on. fires_now pool marks entry t (In-reverse (tracked then) t on))
      ∙ asked_of (is_tracked_met (world then)))

  -- and at each earlier event those fired that did
  fired_before : (event : ℕ) → event ≤ events marks → fired_in (after pool marks entry) event ≡ fired_in marks event
  fired_before event early =
      ap (map (tracked_firing event))
      (filter-In (at then) (at marks) (reverse (tracked then)) (λ t on.
      fired_then pool marks entry event early t (In-reverse (tracked then) t on))
      ∙ (ap (filter (at marks)) tracked_on
      ∙ (filter-append (at marks) (reverse (tracked marks)) (tracker_made marks entry)
      ∙ (ap (λ (l : List Tracked). filter (at marks) (reverse (tracked marks)) ++ l)
      (from (tracked_at marks (Called entry.0 entry.2 entry.1)) refl)
      ∙ append-nil (filter (at marks) (reverse (tracked marks)))))))
    where
      at : Timeline → Tracked → Bool
      at m t = option_map_or (λ e. e == event) (fired_at m t) false

      from : (o : Option Tracked) → tracked_at marks (Called entry.0 entry.2 entry.1) ≡ o →
          filter (λ t. option_map_or (λ e. e == event) (fired_at marks t) false) (cons_option o []) ≡ []
      from None e = refl
      from (Some t) e = rw (made_waits pool limits marks entry t g answer e) refl

  -- so the firings go on by those that are due
  pub fired_next : fired (after pool marks entry) ≡ fired marks ++ map (tracked_firing (events (after pool marks entry)))
      (filter (is_tracked_met (world (after pool marks entry))) (trackers_to_test marks entry))
  fired_next =
      let at : Timeline → List Fired = λ moment. fired_in then (events moment) in
      ap (λ (ms : List Timeline). flat_map at (reverse (then ∷ ms))) (earlier_after pool marks entry)
      ∙ (ap (flat_map at) (reverse-append (then ∷ []) (moments marks))
      ∙ (flat_map-append at (reverse (moments marks)) (then ∷ [])
      ∙ ((λ i. flat_map-In at (λ moment. fired_in marks (events moment)) (reverse (moments marks))
      (λ m on. fired_before (events m) (moment_earlier marks m (In-reverse (moments marks) m on)).few) i ++ (fired_now i ++ []))
      ∙ ap (λ (l : List Fired). fired marks ++ l)
      (append-nil (map (tracked_firing (events then)) (filter (is_tracked_met (world then)) (trackers_to_test marks entry)))))))
