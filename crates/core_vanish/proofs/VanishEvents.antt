-- One event after a client vanished, and many: the client has nothing still.
use Rattle.core_vanish.proofs.Common.{Birth, Bool, Bound, BufferName, Call, Called, Entry, FreeEnd, GoesBy, HasVanished, IsAnswer}
use Rattle.core_vanish.proofs.Common.{IsLegal, List, NextEvent, NodeKey, None, Option, Parcel, Refusal, Reply, Some, Strength, Timeline}
use Rattle.core_vanish.proofs.Common.{[], and_left, ap, append-nil, append_assoc, arith, birth_at, births, born_event, both_ways}
use Rattle.core_vanish.proofs.Common.{collected_at, collected_event, collector_at, cond, cons_option, either_way, entry_mark, eq-eqb}
use Rattle.core_vanish.proofs.Common.{eqb-true, events, false, false_if, false≢true, gains, given_at, holder, holder_event, holds_end}
use Rattle.core_vanish.proofs.Common.{idle_event, in_transit, inl, inr, is_shut, is_some, length, length-append, loses, next_event}
use Rattle.core_vanish.proofs.Common.{none_key, not, one_if, only, open_of, open_of_event, option_map_or, or_first, or_right, parcels}
use Rattle.core_vanish.proofs.Common.{passed, readings, refl, same_key, same_key-true, shut_event, shuts, spent, spent_event, subst, sym}
use Rattle.core_vanish.proofs.Common.{timeline, took_effect_all, true, was_born, when-Some, ℕ, ◌&&◌, ◌++◌, ◌+◌, ◌<◌, ◌==◌, ◌||◌, ◌∙◌, ◌∷◌}
use Rattle.core_vanish.proofs.Common.{◌≡◌, ◌≤◌}
use Rattle.std.proofs.Math.Bool.{and-true}
use Rattle.sm_names.specs.Ends.{spends}
use Rattle.sm_names.specs.Handles.{opens}
use Rattle.sm_names.specs.Marks.{Mark}
use Rattle.history_laws.proofs.GrowthLaws.{AreAnswers-append}
use Rattle.history_laws.proofs.HandleLaws.{dup_was_open}
use Rattle.sm_names.proofs.ListLaws.{when-None}
use Rattle.sm_names.proofs.SamenessLaws.{none_or_some, or_none_left, or_none_right}
use Rattle.event_laws.specs.ByEvent.{delivers, sends}
use Rattle.event_laws.proofs.EndEventLaws.{transit_event}
use Rattle.event_laws.proofs.FreeEndLaws.{free_end}
use Rattle.core_vanish.proofs.HeldEnds.{free_holds, holds_free}

-- ---- a client that gets something is not shut, or has an end, a handle or a parcel

-- a client that is given a parcel is not shut
pub given_open : (limits : Bound) (marks : Timeline) (caller : ℕ) (reply : Reply) (call : Call) →
    IsAnswer limits (readings marks) caller call reply → (client : ℕ) (p : Parcel) → given_at client (Called caller reply call) ≡ Some p →
    is_shut marks client ≡ false
given_open limits marks caller Reply.Done (Call.Give key to) answer client p h =
    let t = took_effect_all limits (readings marks) caller none_key (Call.Give key to) Reply.Done refl refl answer.told in
    let is : to ≡ client = eqb-true to client (when-Some (to == client) (Parcel.End key) p h).0 in
    ap (is_shut marks) (sym is) ∙ passed (is_shut marks to) Refusal.ClientShut t.not_shut
given_open limits marks caller Reply.Done (Call.GiveHandle buffer strength to) answer client p h =
    let t = took_effect_all limits (readings marks) caller none_key (Call.GiveHandle buffer strength to) Reply.Done refl refl answer.told in
    let is : to ≡ client = eqb-true to client (when-Some (to == client) (Parcel.Handle buffer strength) p h).0 in
    ap (is_shut marks) (sym is) ∙ passed (is_shut marks to) Refusal.ClientShut t.not_shut
given_open limits marks caller _ _ answer client p h = absurd (false≢true (ap is_some h))

-- nor is the caller to whom a node is born
pub born_open : (limits : Bound) (marks : Timeline) (caller event : ℕ) (reply : Reply) (call : Call) (b : Birth) →
    IsAnswer limits (readings marks) caller call reply → birth_at event (Called caller reply call) ≡ Some b → is_shut marks caller ≡ false
born_open limits marks caller event (Reply.Token key collection) Call.OpenRoot b answer h =
    let t = took_effect_all limits (readings marks) caller key Call.OpenRoot (Reply.Token key collection) refl refl answer.told in
    or_none_left (is_shut marks caller) false (passed _ Refusal.ClientShut t.not_shut)
born_open limits marks caller event (Reply.Token key collection) (Call.Duplicate parent) b answer h =
    let t = took_effect_all limits (readings marks) caller key (Call.Duplicate parent) (Reply.Token key collection) refl refl answer.told in
    or_none_left (is_shut marks caller) false (passed _ Refusal.ClientShut t.not_shut)
born_open limits marks caller event (Reply.Token key collection) (Call.AttachToken parent) b answer h =
    let t = took_effect_all limits (readings marks) caller key (Call.AttachToken parent)
    (Reply.Token key collection) refl refl answer.told in
    or_none_left (is_shut marks caller) false (passed _ Refusal.ClientShut t.not_shut)
born_open limits marks caller event _ _ b answer h = absurd (false≢true (ap is_some h))

-- a client that collects an end gets a parcel
collector_gets : (key : NodeKey) (mark : Mark) (client : ℕ) → collector_at key mark ≡ Some client → collected_at client mark ≡ None → ⊥
collector_gets key (Called caller (Reply.Collected k kind collection) Call.Collect) client h none =
    let w = when-Some (same_key k key) caller client h in
    both_ways (caller == client) (eq-eqb caller client w.1) (when-None (caller == client) (Parcel.End k) none)
collector_gets key _ client h none = cc

-- by what a client gets a handle: an end that it holds, one that it has already, or a parcel
data GetsBy (marks : Timeline) (client : ℕ) (mark : Mark) : Type 0 where
  By_end : (key : NodeKey) → FreeEnd marks client key → GetsBy marks client mark
  By_handle : (buffer : BufferName) (strength : Strength) → 0 < open_of marks client buffer strength → GetsBy marks client mark
  By_parcel : (p : Parcel) → collected_at client mark ≡ Some p → GetsBy marks client mark

-- no handle is got otherwise
gets_by : (limits : Bound) (marks : Timeline) (caller : ℕ) (reply : Reply) (call : Call) →
    IsAnswer limits (readings marks) caller call reply → (client : ℕ) (buffer : BufferName) (strength : Strength) →
    gains (only client) buffer strength (Called caller reply call) ≡ true → GetsBy marks client (Called caller reply call)
gets_by limits marks caller (Reply.Taken collection taken set) (Call.Take key) answer client buffer strength h =
    let o = or_first (opens (only client) buffer strength (Called caller (Reply.Taken collection taken set) (Call.Take key)))
    false h refl in
    let is : caller ≡ client = eqb-true caller client (and_left (caller == client) _ o) in
    By_end key (subst (λ (c : ℕ). FreeEnd marks c key) is
    (free_end limits marks caller (Call.Take key) (Reply.Taken collection taken set) key answer refl refl))
gets_by limits marks caller Reply.Done (Call.DupHandle name dup) answer client buffer strength h =
    let o = or_first (opens (only client) buffer strength (Called caller Reply.Done (Call.DupHandle name dup))) false h refl in
    let is : caller ≡ client = eqb-true caller client (and_left (caller == client) _ o) in
    By_handle name dup (subst (λ (c : ℕ). 0 < open_of marks c name dup) is (dup_was_open limits marks caller name dup answer))
gets_by limits marks caller (Reply.CollectedHandle name given) Call.Collect answer client buffer strength h =
    let is : (caller == client) ≡ true = and_left (caller == client) _ h in
    By_parcel (Parcel.Handle name given) (ap (λ (b : Bool). cond b (Some (Parcel.Handle name given)) None) is)
gets_by limits marks caller _ _ answer client buffer strength h = absurd (false≢true h)

-- ---- one event of a legal history

module _ (pool : ℕ) (limits : Bound) (history : List Entry) (entry : Entry) (legal : IsLegal pool limits (history ++ entry ∷ []))
    (client : ℕ) where
  -- the timeline before the event
  abbrev old : Timeline
  old = timeline pool history

  -- the timeline after the event
  abbrev new : Timeline
  new = timeline pool (history ++ entry ∷ [])

  -- the timeline before the event grows from no marks, and the event's reply answers its call
  next : NextEvent pool limits history entry
  next = next_event pool limits history entry legal

  -- an end that the client holds after an event by which it gets no parcel and no node, it held before
  pub held_before : (key : NodeKey) → collected_at client (entry_mark entry) ≡ None →
      ((b : Birth) → birth_at (events (timeline pool history) + 1) (entry_mark entry) ≡ Some b → entry.0 ≡ client → ⊥) →
      FreeEnd (timeline pool (history ++ entry ∷ [])) client key → FreeEnd (timeline pool history) client key
  held_before key idle strange f = elim (either_way (was_born (births old) key)) [
    | inl born ↦
        let o : (spends key (entry_mark entry) || spent old key) ≡ false = sym (spent_event pool limits history entry legal key)
        ∙ f.unspent in
        let no : collector_at key (entry_mark entry) ≡ None = uncollected born in
        let t : (sends key (entry_mark entry) || (in_transit old key && not (delivers key (entry_mark entry)))) ≡ false =
        sym (transit_event pool limits history entry legal key) ∙ f.resting in
        let r : (in_transit old key && not (delivers key (entry_mark entry))) ≡ false = or_none_right (sends key (entry_mark entry)) _ t in
        record {
          born = born;
          unspent = or_none_right (spends key (entry_mark entry)) (spent old key) o;
          resting = sym (and-true (in_transit old key))
              ∙ (ap (λ (o : Option ℕ). in_transit old key && not (is_some o)) (sym no) ∙ r);
          held = sym (holder_event pool limits history entry legal key born
              ∙ ap (λ (o : Option ℕ). option_map_or (λ c. c) o (holder old key)) no)
              ∙ f.held;
        }
    | inr unborn ↦ absurd (newborn (birth_at (events old + 1) (entry_mark entry)) refl unborn)
  ]
    where
      uncollected : was_born (births (timeline pool history)) key ≡ true → collector_at key (entry_mark entry) ≡ None
      uncollected born = elim (none_or_some (collector_at key (entry_mark entry))) [
        | inl n ↦ n
        | inr c ↦
            let its : c.0 ≡ client = sym (holder_event pool limits history entry legal key born
            ∙ ap (λ (o : Option ℕ). option_map_or (λ c. c) o (holder old key)) c.1)
            ∙ f.held in
            absurd (collector_gets key (entry_mark entry) client (c.1 ∙ ap Some its) idle)
      ]

      newborn : (o : Option Birth) → birth_at (events (timeline pool history) + 1) (entry_mark entry) ≡ o →
          was_born (births (timeline pool history)) key ≡ false → ⊥
      newborn None e unborn =
          let b : births new ≡ births old = next.same.born ∙ ap (λ (o : Option Birth). cons_option o (births old)) e in
          both_ways (was_born (births old) key) (ap (λ (bs : List Birth). was_born bs key) (sym b) ∙ f.born) unborn
      newborn (Some b) e unborn =
          let bs : births new ≡ b ∷ births old = next.same.born ∙ ap (λ (o : Option Birth). cons_option o (births old)) e in
          let there : (same_key b.node key || was_born (births old) key) ≡ true =
          ap (λ (x : List Birth). was_born x key) (sym bs) ∙ f.born in
          let is : b.node ≡ key = same_key-true b.node key (or_first (same_key b.node key) (was_born (births old) key) there unborn) in
          let whose : holder new b.node ≡ entry.0 = (born_event pool limits history entry legal b e).2 in
          strange b e (sym whose ∙ (ap (holder new) is ∙ f.held))

  -- a client that has vanished stays so
  pub vanished_event : HasVanished (readings (timeline pool history)) client →
      HasVanished (readings (timeline pool (history ++ entry ∷ []))) client
  vanished_event x = record {
    shut = shut_event pool limits history entry legal client ∙ or_right (shuts client (entry_mark entry)) (is_shut old client) x.shut;
    parcels = idle_event pool limits history entry legal client idle ungiven ∙ x.parcels;
    ends = λ key. false_if (holds_end (readings new) client key) (λ h. both_ways (holds_end (readings old) client key)
        (free_holds old client key (held_before key idle unborn (holds_free new client key h))) (x.ends key));
    handles = none_open;
  }
    where
      idle : collected_at client (entry_mark entry) ≡ None
      idle = elim (none_or_some (collected_at client (entry_mark entry))) [
        | inl n ↦ n
        | inr p ↦
            let waited : parcels old client ≡ p.0 ∷ parcels new client = collected_event pool limits history entry legal client p.0 p.1 in
            let no : [] ≡ p.0 ∷ parcels new client = sym x.parcels ∙ waited in
            absurd (cc)
      ]

      ungiven : given_at client (entry_mark entry) ≡ None
      ungiven = elim (none_or_some (given_at client (entry_mark entry))) [
        | inl n ↦ n
        | inr p ↦
            let opened : is_shut old client ≡ false =
            given_open limits old entry.0 entry.2 entry.1 next.answer client p.0 p.1 in
            both_ways (is_shut old client) x.shut opened
      ]

      unborn : (b : Birth) → birth_at (events (timeline pool history) + 1) (entry_mark entry) ≡ Some b → entry.0 ≡ client → ⊥
      unborn b h is =
          let opened : is_shut old entry.0 ≡ false =
          born_open limits old entry.0 (events old + 1) entry.2 entry.1 b next.answer h in
          both_ways (is_shut old client) x.shut (ap (is_shut old) (sym is) ∙ opened)

      got_by : GetsBy (timeline pool history) client (entry_mark entry) → ⊥
      got_by (By_end key f) = both_ways (holds_end (readings old) client key) (free_holds old client key f) (x.ends key)
      got_by (By_handle buffer strength h) = let none : open_of old client buffer strength ≡ 0 =
          x.handles buffer strength in omega (arith, h, none)
      got_by (By_parcel p h) = let no : None ≡ Some p = sym idle ∙ h in cc

      none_open : (buffer : BufferName) (strength : Strength) → open_of (timeline pool (history ++ entry ∷ [])) client buffer strength ≡ 0
      none_open buffer strength =
          let goes : GoesBy (open_of old client buffer strength) (open_of new client buffer strength)
          (gains (only client) buffer strength (entry_mark entry)) (loses (only client) buffer strength (entry_mark entry)) =
          open_of_event pool limits history entry legal client buffer strength in
          let none : gains (only client) buffer strength (entry_mark entry) ≡ false =
          false_if (gains (only client) buffer strength (entry_mark entry)) (λ h. absurd (got_by
          (gets_by limits old entry.0 entry.2 entry.1 next.answer client buffer strength h))) in
          let gained : one_if (gains (only client) buffer strength (entry_mark entry)) ≡ 0 = ap one_if none in
          let had : open_of old client buffer strength ≡ 0 = x.handles buffer strength in
          omega (arith, goes.adds_up, gained, had)

-- ---- an extended history

-- the first part of a legal history is legal
pub legal_front : (pool : ℕ) (limits : Bound) (history more : List Entry) → IsLegal pool limits (history ++ more) →
    IsLegal pool limits history
legal_front pool limits history more legal = record {
  answers = (AreAnswers-append pool limits [] history more legal.answers).0;
  within = (let most : length (history ++ more) ≤ limits.events = legal.within in omega (arith, most, length-append history more));
}

-- a fact that each event of a legal history keeps is kept by the events that extend it
pub kept_on : (pool : ℕ) (limits : Bound) (P : List Entry → Type 0) →
    ((history : List Entry) (entry : Entry) → IsLegal pool limits (history ++ entry ∷ []) → P history → P (history ++ entry ∷ [])) →
    (history more : List Entry) → IsLegal pool limits (history ++ more) → P history → P (history ++ more)
kept_on pool limits P each history [] legal p = subst P (sym (append-nil history)) p
kept_on pool limits P each history (entry ∷ more) legal p =
    let same : (history ++ entry ∷ []) ++ more ≡ history ++ (entry ∷ more) = append_assoc history (entry ∷ []) more in
    let on : IsLegal pool limits ((history ++ entry ∷ []) ++ more) = subst (IsLegal pool limits) (sym same) legal in
    let one : P (history ++ entry ∷ []) = each history entry (legal_front pool limits (history ++ entry ∷ []) more on) p in
    subst P same (kept_on pool limits P each (history ++ entry ∷ []) more on one)

-- a vanishing is for good
pub vanished_on : (pool : ℕ) (limits : Bound) (history more : List Entry) → IsLegal pool limits (history ++ more) → (client : ℕ) →
    HasVanished (readings (timeline pool history)) client → HasVanished (readings (timeline pool (history ++ more))) client
vanished_on pool limits history more legal client x =
    kept_on pool limits (λ h. HasVanished (readings (timeline pool h)) client)
    (λ h entry l e. vanished_event pool limits h entry l client e) history more legal x
