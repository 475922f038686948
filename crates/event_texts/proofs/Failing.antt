-- The events in which nodes failed are counted.
use Rattle.event_texts.proofs.Common.{Bool, Call, Called, List, Mark, Moment, Reply, [], ap, arith, failures, failures_with, false}
use Rattle.event_texts.proofs.Common.{if◌then◌else◌, laid_on, length, map, refl, subst, sym, timeline, true, ℕ, ◌++◌, ◌+◌, ◌∙◌, ◌∷◌, ◌≡◌}
use Rattle.std.proofs.Common.{◌≤◌, min, ◌||◌, length-append}
use Rattle.std.proofs.lemmas.List.Sums.{fold-append}
use Rattle.sm_names.specs.Marks.{Entry, Timeline, Loss, Allocated, Ended, events}
use Rattle.sm_names.specs.Timelines.{after}
use Rattle.core_state.proofs.theorem.EventCount.{events-timeline}
use Rattle.forced_marks.specs.declared.decision.Forced.{Forced}
use Rattle.forced_marks.specs.Steps.{mark_told}
use Rattle.event_texts.specs.Failing.{failures_from, has_failure, is_failure}

-- the marks of moments
abbrev marks_in : List Moment → List Mark
marks_in ms = map (λ (m : Moment). mark_told m.mark) ms

-- no forced mark is a call, and each failure is a loss
told-from : (failed : Bool) (f : Forced) (before : Timeline) →
    failures_from failed (mark_told f ∷ before) ≡ failures_from (is_failure f || failed) before
told-from failed (Forced.Loss fault) before = refl
told-from failed (Forced.Allocated head) before = refl
told-from failed (Forced.Ended top) before = refl

-- the marks of an event say whether a node failed in it, by induction on them
laid-from : (failed : Bool) (ms : List Moment) (before : Timeline) →
    failures_from failed (laid_on (marks_in ms) before) ≡ failures_from (has_failure ms || failed) before
laid-from failed [] before = refl
laid-from failed (m ∷ ms) before =
    laid-from failed ms (mark_told m.mark ∷ before)
    ∙ (told-from (has_failure ms || failed) m.mark before
    ∙ ap (λ (b : Bool). failures_from b before) (or-assoc (is_failure m.mark) (has_failure ms) failed))
  where
    -- by cases on the first two switches
    or-assoc : (a b c : Bool) → (a || (b || c)) ≡ ((a || b) || c)
    or-assoc true b c = refl
    or-assoc false b c = refl

-- one more event, which has these marks
failures-laid : (ms : List Moment) (client : ℕ) (reply : Reply) (call : Call) (before : Timeline) →
    failures (laid_on (marks_in ms) (Called client reply call ∷ before)) ≡ failures before + (if has_failure ms then 1 else 0)
failures-laid ms client reply call before = laid-from false ms (Called client reply call ∷ before) ∙ by (has_failure ms)
  where
    -- by cases on the switch
    by : (b : Bool) → failures_from (b || false) (Called client reply call ∷ before) ≡ failures before + (if b then 1 else 0)
    by true = refl
    by false = refl

-- a call counts as an event, and at most once as a failure
few-called : (failed : Bool) (more most : ℕ) → more ≤ most → more + (if failed then 1 else 0) ≤ most + 1
few-called true more most few = omega (arith, few)
few-called false more most few = omega (arith, few)

-- a mark counts at most once, and only where it is an event
few-from : (failed : Bool) (marks : Timeline) → failures_from failed marks ≤ events marks
few-from failed [] = omega arith
few-from failed (mark ∷ before) = by mark (λ known. few-from known before)
  where
    -- by cases on the mark: an event is counted, and a loss counts in it once
    by : (m : Mark) → ((known : Bool) → failures_from known before ≤ events before) →
        failures_from failed (m ∷ before) ≤ events (m ∷ before)
    by (Called client reply call) rest = few-called failed (failures_from false before) (events before) (rest false)
    by (Loss key cause) rest = rest true
    by (Allocated head) rest = rest failed
    by (Ended top) rest = rest failed

-- one more event, with these marks, is counted: there were no more failures than events
pub failures-more : (pool : ℕ) (history : List Entry) (client : ℕ) (call : Call) (reply : Reply) (ms : List Moment) →
    after pool (timeline pool history) (client, call, reply) ≡ laid_on (marks_in ms) (Called client reply call ∷ timeline pool history) →
    (f made next : ℕ) → f ≡ failures (timeline pool history) → made ≡ length (history ++ (client, call, reply) ∷ []) →
    next ≡ failures_with f made ms → next ≡ failures (timeline pool (history ++ (client, call, reply) ∷ []))
failures-more pool history client call reply ms marks f made next counted number is =
    is ∙ (by (has_failure ms) ∙ sym whole)
  where
    -- the new event
    entry : Entry
    entry = (client, call, reply)

    -- since the timeline has this event and its marks more
    whole : failures (timeline pool (history ++ entry ∷ [])) ≡ failures (timeline pool history) + (if has_failure ms then 1 else 0)
    whole = ap failures (fold-append (after pool) [] history (entry ∷ []) ∙ marks)
        ∙ failures-laid ms client reply call (timeline pool history)

    -- since each failure is in an event
    few : failures (timeline pool history) ≤ length history
    few = subst (λ (n : ℕ). failures (timeline pool history) ≤ n) (events-timeline pool history) (few-from false (timeline pool history))

    -- by cases: a failure in this event counts once, and there is room for it
    by : (b : Bool) → (if b then min (f + 1) made else f) ≡ failures (timeline pool history) + (if b then 1 else 0)
    by true = let count = length-append history (entry ∷ []) in omega (arith, counted, number, few, count)
    by false = omega (arith, counted)
