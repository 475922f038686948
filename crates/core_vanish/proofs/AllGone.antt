-- Once each client has vanished, every end is spent and no handle is open.
use Rattle.core_vanish.proofs.Common.{Birth, Bool, Bound, BufferName, Call, Called, Entry, FreeEnd, Grows, HasVanished, In-any}
use Rattle.core_vanish.proofs.Common.{In-list_any, IsAnswer, IsLegal, List, NextEvent, NodeKey, None, Option, Refusal, Reply, Some}
use Rattle.core_vanish.proofs.Common.{Strength, Timeline, [], ap, arith, birth_at, births, born_event, both_ways, collector_at}
use Rattle.core_vanish.proofs.Common.{cons_option, counted, either_way, entry_mark, eq-eqb, events, false, false≢true, has_joined, holder}
use Rattle.core_vanish.proofs.Common.{holder_event, holds_end, in_transit, inl, inr, is_end_of, is_some, legal_grows, list_any}
use Rattle.core_vanish.proofs.Common.{next_event, none_key, not, open_of, open_total, option_map_or, or_first, parcels, passed, readings}
use Rattle.core_vanish.proofs.Common.{refl, same_key, same_key-true, spent, still_joined, stranger_has_none, subst, sum_by, sym, timeline}
use Rattle.core_vanish.proofs.Common.{took_effect_all, true, was_born, when-Some, ℕ, ◌++◌, ◌+◌, ◌==◌, ◌||◌, ◌∙◌, ◌∷◌, ◌≡◌}
use Rattle.sm_names.specs.Ends.{clients, is_handle_of}
use Rattle.sm_names.specs.Handles.{moving}
use Rattle.sm_names.specs.Words.{times}
use Rattle.history_laws.proofs.CountLaws.{clients_have, moving_is, total_is}
use Rattle.history_laws.proofs.SumLaws.{sum_by-same, sum_by-zero}
use Rattle.event_laws.proofs.ParcelEventLaws.{stranger_waits_for_none}
use Rattle.core_vanish.specs.Vanishes.{VanishedIn}
use Rattle.core_vanish.proofs.VanishEvents.{vanished_on, kept_on}
use Rattle.core_vanish.proofs.HeldEnds.{free_holds}

-- ---- a client that holds an end has joined

-- a known client has joined
known : (b : Bool) → (not b || false) ≡ false → b ≡ true
known true h = refl
known false h = cc

-- a client that collects an end has joined
collector_joined : (limits : Bound) (marks : Timeline) (caller : ℕ) (reply : Reply) (call : Call) →
    IsAnswer limits (readings marks) caller call reply → (key : NodeKey) (c : ℕ) → collector_at key (Called caller reply call) ≡ Some c →
    has_joined marks c ≡ true
collector_joined limits marks caller (Reply.Collected k kind collection) Call.Collect answer key c h =
    let t = took_effect_all limits (readings marks) caller none_key Call.Collect
    (Reply.Collected k kind collection) refl refl answer.told in
    let is : caller ≡ c = (when-Some (same_key k key) caller c h).1 in
    ap (has_joined marks) (sym is) ∙ known (has_joined marks caller) (passed _ Refusal.NoSuchClient t.known)
collector_joined limits marks caller _ _ answer key c h = absurd (false≢true (ap is_some h))

-- so has a client that gets a node
born_joined : (limits : Bound) (marks : Timeline) (caller event : ℕ) (reply : Reply) (call : Call) (b : Birth) →
    IsAnswer limits (readings marks) caller call reply → birth_at event (Called caller reply call) ≡ Some b → has_joined marks caller ≡ true
born_joined limits marks caller event (Reply.Token key collection) Call.OpenRoot b answer h =
    let t = took_effect_all limits (readings marks) caller key Call.OpenRoot (Reply.Token key collection) refl refl answer.told in
    known (has_joined marks caller) (passed _ Refusal.NoSuchClient t.known)
born_joined limits marks caller event (Reply.Token key collection) (Call.Duplicate parent) b answer h =
    let t = took_effect_all limits (readings marks) caller key (Call.Duplicate parent) (Reply.Token key collection) refl refl answer.told in
    known (has_joined marks caller) (passed _ Refusal.NoSuchClient t.known)
born_joined limits marks caller event (Reply.Token key collection) (Call.AttachToken parent) b answer h =
    let t = took_effect_all limits (readings marks) caller key (Call.AttachToken parent)
    (Reply.Token key collection) refl refl answer.told in
    known (has_joined marks caller) (passed _ Refusal.NoSuchClient t.known)
born_joined limits marks caller event _ _ b answer h = absurd (false≢true (ap is_some h))

-- the holder of each node's end has joined
abbrev HoldersJoined : ℕ → List Entry → Type 0
HoldersJoined pool history = (key : NodeKey) → was_born (births (timeline pool history)) key ≡ true →
    has_joined (timeline pool history) (holder (timeline pool history) key) ≡ true

module _ (pool : ℕ) (limits : Bound) (history : List Entry) (entry : Entry) (legal : IsLegal pool limits (history ++ entry ∷ []))
    (held : HoldersJoined pool history) (key : NodeKey) where
  -- the timeline before the event
  abbrev old : Timeline
  old = timeline pool history

  -- the timeline after the event
  abbrev new : Timeline
  new = timeline pool (history ++ entry ∷ [])

  -- the timeline before the event grows from no marks, and the event's reply answers its call
  next : NextEvent pool limits history entry
  next = next_event pool limits history entry legal

  -- a client that has joined stays joined
  joined_still : (c : ℕ) → has_joined (timeline pool history) c ≡ true → has_joined (timeline pool (history ++ entry ∷ [])) c ≡ true
  joined_still c h = ap (λ (cs : List ℕ). list_any (λ k. k == c) cs) next.same.joined ∙ still_joined old (entry_mark entry) c h

  -- by a Collect of it
  of_old : (o : Option ℕ) → collector_at key (entry_mark entry) ≡ o → was_born (births (timeline pool history)) key ≡ true →
      has_joined (timeline pool (history ++ entry ∷ [])) (holder (timeline pool (history ++ entry ∷ [])) key) ≡ true
  of_old None e born =
      let same : holder new key ≡ holder old key = holder_event pool limits history entry legal key born
      ∙ ap (λ (o : Option ℕ). option_map_or (λ c. c) o (holder old key)) e in
      ap (has_joined new) same ∙ joined_still (holder old key) (held key born)
  of_old (Some c) e born =
      let is : holder new key ≡ c = holder_event pool limits history entry legal key born
      ∙ ap (λ (o : Option ℕ). option_map_or (λ c. c) o (holder old key)) e in
      ap (has_joined new) is
      ∙ joined_still c (collector_joined limits old entry.0 entry.2 entry.1 next.answer key c e)

  -- of a node that is born just now
  of_new : (o : Option Birth) → birth_at (events (timeline pool history) + 1) (entry_mark entry) ≡ o →
      was_born (births (timeline pool history)) key ≡ false → was_born (births (timeline pool (history ++ entry ∷ []))) key ≡ true →
      has_joined (timeline pool (history ++ entry ∷ [])) (holder (timeline pool (history ++ entry ∷ [])) key) ≡ true
  of_new None e unborn born =
      let b : births new ≡ births old = next.same.born ∙ ap (λ (o : Option Birth). cons_option o (births old)) e in
      both_ways (was_born (births old) key) (ap (λ (bs : List Birth). was_born bs key) (sym b) ∙ born) unborn
  of_new (Some b) e unborn born =
      let bs : births new ≡ b ∷ births old = next.same.born ∙ ap (λ (o : Option Birth). cons_option o (births old)) e in
      let there : (same_key b.node key || was_born (births old) key) ≡ true = ap (λ (x : List Birth). was_born x key) (sym bs) ∙ born in
      let is : b.node ≡ key = same_key-true b.node key (or_first (same_key b.node key) (was_born (births old) key) there unborn) in
      let whose : holder new key ≡ entry.0 = ap (holder new) (sym is) ∙ (born_event pool limits history entry legal b e).2 in
      ap (has_joined new) whose
      ∙ joined_still entry.0 (born_joined limits old entry.0 (events old + 1) entry.2 entry.1 b next.answer e)

  -- it is so after an event
  pub holder_next : was_born (births (timeline pool (history ++ entry ∷ []))) key ≡ true →
      has_joined (timeline pool (history ++ entry ∷ [])) (holder (timeline pool (history ++ entry ∷ [])) key) ≡ true
  holder_next born = elim (either_way (was_born (births old) key)) [
    | inl there ↦ of_old (collector_at key (entry_mark entry)) refl there
    | inr unborn ↦ of_new (birth_at (events old + 1) (entry_mark entry)) refl unborn born
  ]

-- so it is in a legal history
pub holder_joined : (pool : ℕ) (limits : Bound) (history : List Entry) → IsLegal pool limits history → HoldersJoined pool history
holder_joined pool limits history legal =
    kept_on pool limits (HoldersJoined pool) (λ h entry l held key born. holder_next pool limits h entry l held key born) [] history legal
    (λ key born. cc)

-- ---- where all have vanished

-- each client that joined has vanished
abbrev pub AllVanished : ℕ → List Entry → Type 0
AllVanished pool history = (client : ℕ) → has_joined (timeline pool history) client ≡ true → VanishedIn pool history client

module _ (pool : ℕ) (limits : Bound) (history : List Entry) (legal : IsLegal pool limits history) (all : AllVanished pool history) where
  -- the timeline of the whole history
  abbrev now : Timeline
  now = timeline pool history

  -- so it has nothing now
  vanished : (client : ℕ) → has_joined (timeline pool history) client ≡ true → HasVanished (readings (timeline pool history)) client
  vanished client joined =
      let e : VanishedIn pool history client = all client joined in
      subst (λ (h : List Entry). HasVanished (readings (timeline pool h)) client) (sym e.2)
      (vanished_on pool limits e.0 e.1 (subst (IsLegal pool limits) e.2 legal) client e.3)

  -- no end is in a parcel
  none_moves : (key : NodeKey) → in_transit (timeline pool history) key ≡ true → ⊥
  none_moves key h =
      let c = In-list_any (λ client. list_any (is_end_of key) (parcels now client)) (clients now) h in
      let joined : has_joined now c.0 ≡ true = In-any (λ k. k == c.0) (clients now) c.0 c.1 (eq-eqb c.0 c.0 refl) in
      let none : parcels now c.0 ≡ [] = (vanished c.0 joined).parcels in
      let no : false ≡ true = ap (list_any (is_end_of key)) (sym none) ∙ c.2 in
      cc

  -- every end is spent
  pub all_spent : (key : NodeKey) → was_born (births (timeline pool history)) key ≡ true → spent (timeline pool history) key ≡ true
  all_spent key born = elim (either_way (spent now key)) [
    | inl s ↦ s
    | inr unspent ↦ elim (either_way (in_transit now key)) [
      | inl moves ↦ absurd (none_moves key moves)
      | inr resting ↦
          let x : HasVanished (readings now) (holder now key) =
          vanished (holder now key) (holder_joined pool limits history legal key born) in
          let f : FreeEnd now (holder now key) key = record { born = born; unspent = unspent; resting = resting; held = refl } in
          both_ways (holds_end (readings now) (holder now key) key) (free_holds now (holder now key) key f) (x.ends key)
    ]
  ]

  -- the timeline of a legal history grows from no marks
  grown : Grows pool limits [] (timeline pool history)
  grown = legal_grows pool limits history legal

  -- no client has a handle open
  has_none : (buffer : BufferName) (strength : Strength) (client : ℕ) → open_of (timeline pool history) client buffer strength ≡ 0
  has_none buffer strength client = elim (either_way (has_joined now client)) [
    | inl joined ↦ (vanished client joined).handles buffer strength
    | inr stranger ↦ stranger_has_none pool limits now grown client buffer strength stranger
  ]

  -- nor does one wait for it
  awaits_none : (buffer : BufferName) (strength : Strength) (client : ℕ) →
      times (is_handle_of buffer strength) (parcels (timeline pool history) client) ≡ 0
  awaits_none buffer strength client = elim (either_way (has_joined now client)) [
    | inl joined ↦ ap (times (is_handle_of buffer strength)) (vanished client joined).parcels
    | inr stranger ↦ ap (times (is_handle_of buffer strength)) (stranger_waits_for_none pool limits now grown client stranger)
  ]

  -- so none is open
  pub none_open : (buffer : BufferName) (strength : Strength) → open_total (timeline pool history) buffer strength ≡ 0
  none_open buffer strength =
      let had : clients_have now buffer strength ≡ 0 =
      sum_by-same (λ client. open_of now client buffer strength) (λ client. 0) (clients now) (has_none buffer strength)
      ∙ sum_by-zero (clients now) in
      let waited : sum_by (λ client. times (is_handle_of buffer strength) (parcels now client)) (clients now) ≡ 0 =
      sum_by-same (λ client. times (is_handle_of buffer strength) (parcels now client)) (λ client. 0) (clients now)
      (awaits_none buffer strength)
      ∙ sum_by-zero (clients now) in
      let m : moving now buffer strength ≡ 0 = moving_is now (counted pool limits now grown) buffer strength ∙ waited in
      omega (arith, total_is now (counted pool limits now grown) buffer strength, had, m)
