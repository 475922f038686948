-- What an event does to the counts of handles.
use Rattle.core_state.proofs.Common.{Answers, Bool, Bound, BufferName, Call, Called, Grows, IsAnswer, Mark, Reply, SameHands, Some}
use Rattle.core_state.proofs.Common.{Strength, Timeline, [], after, and_left, and_right, anyone, ap, arith, caller_joined}
use Rattle.core_state.proofs.Common.{client-le-total, collection_of, counted, drops, either_way, eqb-true, false, false_if, gains}
use Rattle.core_state.proofs.Common.{handles_after, handles_by, inl, inr, lands, lifts, loses, one_if, only, open_of, open_total, opens}
use Rattle.core_state.proofs.Common.{readings, refl, same_after, same_buffer, same_buffer-true, subst, sym, times, true, ℕ, ◌+◌, ◌-◌, ◌<◌}
use Rattle.core_state.proofs.Common.{◌==◌, ◌∙◌, ◌∷◌, ◌≡◌, ◌≤◌}
use Rattle.sm_names.specs.Handles.{moving}
use Rattle.history_laws.proofs.CountLaws.{IsCounted, drops-le-opens, lands-le-lifts}
use Rattle.history_laws.proofs.EventLaws.{same_after as same_in}
use Rattle.sm_names.proofs.SamenessLaws.{same_strength-true}
use Rattle.history_laws.proofs.HandleLaws.{dup_was_open}
use Rattle.history_laws.proofs.SumLaws.{times-cons}
use Rattle.event_laws.proofs.HandleEventLaws.{open_of_mark}

-- the call leaves each buffer with open handles, or without any: it may give one, take one or open one where one was open
abbrev pub opens_alike : Call → Reply → Bool
opens_alike (Call.DropHandle buffer strength) Reply.Done = false
opens_alike (Call.Take key) (Reply.Taken collection strength set) = false
opens_alike _ _ = true

-- such a call drops none
alike_drops : (client : ℕ) (reply : Reply) (call : Call) → opens_alike call reply ≡ true → (buffer : BufferName) (strength : Strength) →
    drops anyone buffer strength (Called client reply call) ≡ false
alike_drops client Reply.Done (Call.DropHandle name dropped) alike buffer strength = cc
alike_drops client reply call alike buffer strength = refl

-- and opens one where its caller had one
alike_opens : (pool : ℕ) (limits : Bound) (marks : Timeline) → Grows pool limits [] marks → (client : ℕ) (reply : Reply) (call : Call) →
    IsAnswer limits (readings marks) client call reply → opens_alike call reply ≡ true →
    (buffer : BufferName) (strength : Strength) → opens anyone buffer strength (Called client reply call) ≡ true →
    0 < open_total marks buffer strength
alike_opens pool limits marks g client (Reply.Taken collection taken set) (Call.Take key) answer alike buffer strength h = cc
alike_opens pool limits marks g client Reply.Done (Call.DupHandle name dup) answer alike buffer strength h =
    let which : name ≡ buffer = same_buffer-true name buffer (and_left _ _ h) in
    let how : dup ≡ strength = same_strength-true dup strength (and_right (same_buffer name buffer) _ h) in
    let had : 0 < open_of marks client name dup = dup_was_open limits marks client name dup answer in
    let all : open_of marks client name dup ≤ open_total marks name dup =
    client-le-total marks (counted pool limits marks g) client name dup (caller_joined limits marks client Reply.Done
    (Call.DupHandle name dup) answer refl) in
    let some : 0 < open_total marks name dup = omega (arith, had, all) in
    subst (λ (s : Strength). 0 < open_total marks buffer s) how (subst (λ (b : BufferName). 0 < open_total marks b dup) which some)
alike_opens pool limits marks g client reply call answer alike buffer strength h = cc

-- ---- counts

-- there are some
some_is : (n : ℕ) → 0 < n → (n == 0) ≡ false
some_is n some = false_if (n == 0) (λ e. let none : n ≡ 0 = eqb-true n 0 e in omega (arith, some, none))

-- a count that was not overdrawn, once something is added and taken
counted_on : (added taken more less : ℕ) → taken ≤ added → (added + more) - (taken + less) ≡ ((added - taken) + more) - less
counted_on added taken more less paid = omega (arith, paid)

module _ (pool : ℕ) (limits : Bound) (marks : Timeline) (grown : Grows pool limits [] marks) (client : ℕ) (reply : Reply) (call : Call)
    (answer : IsAnswer limits (readings marks) client call reply) where
  -- the mark of the call
  abbrev mark : Mark
  mark = Called client reply call

  -- the handles were counted
  were : IsCounted marks
  were = counted pool limits marks grown

  -- and are
  are : IsCounted (Called client reply call ∷ marks)
  are = counted pool limits (mark ∷ marks) (Answers marks client reply call grown answer)

  -- ---- elsewhere

  -- of a collection that is not that of the call as many handles are open
  pub open_elsewhere : (buffer : BufferName) → (collection_of (Called client reply call ∷ marks) call reply ≡ Some buffer.collection → ⊥) →
      (strength : Strength) →
      open_total (Called client reply call ∷ marks) buffer strength ≡ open_total marks buffer strength
  open_elsewhere buffer away strength =
      sym (λ i. (same_after pool marks (client, call, reply)).in_all i buffer strength)
      ∙ (same_in pool limits marks client buffer.collection reply call grown answer away).handles buffer refl strength

  -- ---- the counts go by the mark

  -- those of a client
  open_of_by : (c : ℕ) (buffer : BufferName) (strength : Strength) → open_of (Called client reply call ∷ marks) c buffer strength
      ≡ (open_of marks c buffer strength + one_if (gains (only c) buffer strength (Called client reply call))) - one_if
      (loses (only c) buffer strength (Called client reply call))
  open_of_by c buffer strength = omega (arith, (open_of_mark marks mark were are buffer strength c).adds_up)

  -- those in parcels
  moving_by : (buffer : BufferName) (strength : Strength) → moving (Called client reply call ∷ marks) buffer strength
      ≡ (moving marks buffer strength + one_if (lifts anyone buffer strength (Called client reply call))) - one_if
      (lands anyone buffer strength (Called client reply call))
  moving_by buffer strength =
      (λ i. times-cons (lifts anyone buffer strength) mark marks i - times-cons (lands anyone buffer strength) mark marks i)
      ∙ counted_on (times (lifts anyone buffer strength) marks) (times (lands anyone buffer strength) marks)
      (one_if (lifts anyone buffer strength mark)) (one_if (lands anyone buffer strength mark))
      (lands-le-lifts marks were buffer strength)

  -- and all that are open
  total_by : (buffer : BufferName) (strength : Strength) → open_total (Called client reply call ∷ marks) buffer strength
      ≡ (open_total marks buffer strength + one_if (opens anyone buffer strength (Called client reply call))) - one_if
      (drops anyone buffer strength (Called client reply call))
  total_by buffer strength =
      (λ i. times-cons (opens anyone buffer strength) mark marks i - times-cons (drops anyone buffer strength) mark marks i)
      ∙ counted_on (times (opens anyone buffer strength) marks) (times (drops anyone buffer strength) marks)
      (one_if (opens anyone buffer strength mark)) (one_if (drops anyone buffer strength mark))
      (drops-le-opens marks were buffer strength)

  -- so the mark of the call tells them
  pub handles_called : handles_after (Called client reply call ∷ marks) ≡ handles_by (Called client reply call) (handles_after marks)
  handles_called = λ i. record {
    of = λ c buffer strength. open_of_by c buffer strength i;
    moving = λ buffer strength. moving_by buffer strength i;
    total = λ buffer strength. total_by buffer strength i;
  }

  -- and what the event forces leaves them
  pub handles_event : handles_after (after pool marks (client, call, reply)) ≡ handles_by (Called client reply call) (handles_after marks)
  handles_event =
      let s : SameHands (mark ∷ marks) (after pool marks (client, call, reply)) = same_after pool marks (client, call, reply) in
      (λ i. record { of = s.had i; moving = s.in_parcels i; total = s.in_all i }) ∙ handles_called

  -- ---- where some are open

  -- one is open where one was
  pub alike_called : opens_alike call reply ≡ true → (buffer : BufferName) (strength : Strength) →
      (open_total (Called client reply call ∷ marks) buffer strength == 0) ≡ (open_total marks buffer strength == 0)
  alike_called alike buffer strength =
      let by : _ = total_by buffer strength in
      let none : one_if (drops anyone buffer strength mark) ≡ 0 = ap one_if (alike_drops client reply call alike buffer strength) in
      elim (either_way (opens anyone buffer strength mark)) [
        | inl e ↦
            let was : 0 < open_total marks buffer strength =
            alike_opens pool limits marks grown client reply call answer alike buffer strength e in
            some_is (open_total (mark ∷ marks) buffer strength) (omega (arith, by, none, was))
            ∙ sym (some_is (open_total marks buffer strength) was)
        | inr e ↦
            let still : one_if (opens anyone buffer strength mark) ≡ 0 = ap one_if e in
            let same : open_total (mark ∷ marks) buffer strength ≡ open_total marks buffer strength = omega (arith, by, none, still) in
            ap (λ (n : ℕ). n == 0) same
      ]

-- so it is where another handle stays open beside one that is dropped
pub alike_dropped : (pool : ℕ) (limits : Bound) (marks : Timeline) → Grows pool limits [] marks → (client : ℕ) (name : BufferName)
    (dropped : Strength) → IsAnswer limits (readings marks) client (Call.DropHandle name dropped) Reply.Done →
    2 ≤ open_total marks name dropped → (buffer : BufferName) (strength : Strength) →
    (open_total (Called client Reply.Done (Call.DropHandle name dropped) ∷ marks) buffer strength == 0)
    ≡ (open_total marks buffer strength == 0)
alike_dropped pool limits marks grown client name dropped answer more buffer strength =
    let mark : Mark = Called client Reply.Done (Call.DropHandle name dropped) in
    let by : _ = total_by pool limits marks grown client Reply.Done (Call.DropHandle name dropped) answer buffer strength in
    elim (either_way (drops anyone buffer strength mark)) [
      | inl e ↦
          let which : name ≡ buffer = same_buffer-true name buffer (and_left _ _ e) in
          let how : dropped ≡ strength = same_strength-true dropped strength (and_right (same_buffer name buffer) _ e) in
          let some : 2 ≤ open_total marks buffer strength =
          subst (λ (s : Strength). 2 ≤ open_total marks buffer s) how
          (subst (λ (b : BufferName). 2 ≤ open_total marks b dropped) which more) in
          let one : one_if (drops anyone buffer strength mark) ≡ 1 = ap one_if e in
          some_is (open_total (mark ∷ marks) buffer strength) (omega (arith, by, one, some))
          ∙ sym (some_is (open_total marks buffer strength) (omega (arith, some)))
      | inr e ↦
          let none : one_if (drops anyone buffer strength mark) ≡ 0 = ap one_if e in
          let same : open_total (mark ∷ marks) buffer strength ≡ open_total marks buffer strength = omega (arith, by, none) in
          ap (λ (n : ℕ). n == 0) same
    ]
