-- The handles that an event may move.
use Rattle.core_state.proofs.Common.{Bool, Bound, BufferName, Buffers, Call, Client, Collection, In, In-find, In-le-sum_by, In-list_any}
use Rattle.core_state.proofs.Common.{List, MayMove, Node, NodeKey, None, OpenEnd, Option, Parcel, Readings, Refusal, Reply, Some, State}
use Rattle.core_state.proofs.Common.{Strength, Strong, TookEffect, Weak, [], and_left, and_right, and_then-Some, answer, ap, arith}
use Rattle.core_state.proofs.Common.{bit_at-zero, bit_of_set, buffers_in, closing, collected, collection_at, cond, count_by, counts_of}
use Rattle.core_state.proofs.Common.{either_way, end_in, eq-eqb, eqb-true, false, filter, if◌then◌else◌, inl, inr, is_doomed}
use Rattle.core_state.proofs.Common.{is_handle_of, is_spent, joined_client, leb-false, list_any, members_of, moving_count, named_below}
use Rattle.core_state.proofs.Common.{names, nat_lt, no_key, node_at, not, one, open_end_of, option_map_or, passed, readings_of, refl}
use Rattle.core_state.proofs.Common.{same_buffer, same_buffer-true, set_of, some_open, some_strong_live, strength_of, subst, sum_by-cons}
use Rattle.core_state.proofs.Common.{sym, to_open_in, took_effect, took_effect_all, total, true, ℕ, ◌&&◌, ◌+◌, ◌<◌, ◌==◌, ◌∙◌, ◌∷◌, ◌≡◌}
use Rattle.sm_names.specs.Answers.{is_at_limit}
use Rattle.history_laws.proofs.BitLaws.{one_is}
use Rattle.sm_names.proofs.ListLaws.{none-In}
use Rattle.forest_store.specs.Settling.{buffer_names}
use Rattle.core_state.specs.Hands.{CanOpen}
use Rattle.core_state.proofs.forced.Known.{AreSent, waiting_in}

-- ---- the set of a Take

-- an index below the count is that of a buffer
named_in : (id n index : ℕ) → nat_lt index n ≡ true → In (record { collection = id; index = index }) (names id n)
named_in id n index below =
    let x : BufferName = record { collection = id; index = index } in
    let found = In-list_any (λ b. same_buffer b x) (names id n) (named_below id n x ∙ rw (eq-eqb id id refl, below) refl) in
    subst (λ (y : BufferName). In y (names id n)) (same_buffer-true found.0 x found.2) found.1

-- those of this many buffers that pass, where none that passes is full
opens_some : (limits : Bound) (s : State) (id : ℕ) (strength : Strength) (p : BufferName → Bool) (o : Option Buffers) →
    s.holds.limit ≡ limits.handles →
    list_any (is_at_limit limits (readings_of s) strength) (filter p (option_map_or (λ (b : Buffers). names id b.count) o [])) ≡ false →
    CanOpen s.holds id strength (set_of (filter p (option_map_or (λ (b : Buffers). names id b.count) o [])))
opens_some limits s id strength p None limit free index is = let none : 0 ≡ 1 = sym (bit_at-zero index) ∙ is in absurd (omega (arith, none))
opens_some limits s id strength p (Some b) limit free index is =
    let name : BufferName = record { collection = id; index = index } in
    let both : (nat_lt index b.count && p name) ≡ true = sym (one_is (nat_lt index b.count && p name))
    ∙ eq-eqb (one (nat_lt index b.count && p name)) 1 (sym (bit_of_set p id b.count index) ∙ is) in
    let full : is_at_limit limits (readings_of s) strength name ≡ false =
    none-In p (is_at_limit limits (readings_of s) strength) (names id b.count) name free (named_in id b.count index (and_left _ _ both))
    (and_right (nat_lt index b.count) _ both) in
    rw limit (leb-false limits.handles (total s.holds name strength) full)

-- the buffers of the collection that may be opened
may_open : (limits : Bound) (s : State) (id : ℕ) (strength : Strength) → s.holds.limit ≡ limits.handles →
    list_any (is_at_limit limits (readings_of s) strength) (to_open_in s id) ≡ false →
    CanOpen s.holds id strength (set_of (to_open_in s id))
may_open limits s id strength limit none =
    by (collection_at s.forest id) (λ c is. eqb-true c.id id (In-find (λ (x : Collection). x.id == id) s.forest.collections c is).1) none
  where
    -- the buffers of the collection that are not doomed
    opened : Option Collection → List BufferName
    opened o = option_map_or (λ (c : Collection).
        filter (λ b. not (is_doomed (total s.holds b Strength.Strong) (some_strong_live (members_of c.nodes)))) (buffer_names c)) o []

    -- by cases: without a collection the set is empty
    by : (o : Option Collection) → ((c : Collection) → o ≡ Some c → c.id ≡ id) →
        list_any (is_at_limit limits (readings_of s) strength) (opened o) ≡ false →
        CanOpen s.holds id strength (set_of (opened o))
    by None found free = opens_some limits s id strength (λ b. false) None limit refl
    by (Some c) found free =
        subst (λ (k : ℕ). CanOpen s.holds k strength (set_of (opened (Some c)))) (found c refl)
        (opens_some limits s c.id strength (λ b. not (is_doomed (total s.holds b Strength.Strong) (some_strong_live (members_of c.nodes))))
        c.buffers limit free)

-- ---- what waits for a client

-- a parcel is a handle of its own
is_itself : (buffer : BufferName) (strength : Strength) → is_handle_of buffer strength (Parcel.Handle buffer strength) ≡ true
is_itself buffer Strong = rw (eq-eqb buffer.collection buffer.collection refl, eq-eqb buffer.index buffer.index refl) refl
is_itself buffer Weak = rw (eq-eqb buffer.collection buffer.collection refl, eq-eqb buffer.index buffer.index refl) refl

-- a handle that is collected was the first parcel
pub first_handle : (r : Readings) (waiting : List Parcel) (buffer : BufferName) (strength : Strength) →
    Reply.CollectedHandle buffer strength ≡ collected r waiting →
    (more : List Parcel) × (waiting ≡ Parcel.Handle buffer strength ∷ more)
first_handle r [] buffer strength is = cc
first_handle r (Parcel.Handle name given ∷ more) buffer strength is = (more, cc)
first_handle r (Parcel.End key ∷ more) buffer strength is = by (r.end_of key) is
  where
    -- by cases: an end is collected as such, or the reply is Empty
    by : (o : Option OpenEnd) → Reply.CollectedHandle buffer strength ≡ option_map_or (λ (e : OpenEnd).
        Reply.Collected key e.kind e.collection) o Reply.Empty →
        (rest : List Parcel) × (Parcel.End key ∷ more ≡ Parcel.Handle buffer strength ∷ rest)
    by None h = cc
    by (Some e) h = cc

-- the client of whom parcels are read
pub client_of : (s : State) (client : ℕ) (p : Parcel) (more : List Parcel) → (readings_of s).waiting client ≡ p ∷ more →
    (c : Client) × In c s.clients × (c.id ≡ client) × (c.waiting ≡ p ∷ more)
client_of s client p more is = by (joined_client s client) refl is
  where
    -- by cases: a client that is not there has no parcels, and one that is found has the id by which it was looked up
    by : (o : Option Client) → joined_client s client ≡ o → option_map_or (λ (c : Client). c.waiting) o [] ≡ p ∷ more →
        (c : Client) × In c s.clients × (c.id ≡ client) × (c.waiting ≡ p ∷ more)
    by None found h = cc
    by (Some c) found h = let at = In-find (λ (c : Client). c.id == client) s.clients c found in (c, at.0, eqb-true c.id client at.1, h)

-- ---- what may be moved

module _ (limits : Bound) (s : State) (client : ℕ) (sent : AreSent s.clients (counts_of s.holds))
    (limit : s.holds.limit ≡ limits.handles) where
  -- a call that took effect
  took : (call : Call) (asked : Reply) → took_effect asked ≡ true → closing call ≡ None →
      asked ≡ answer limits (readings_of s) client no_key call →
      TookEffect limits (readings_of s) client no_key call asked
  took call asked effective going told = took_effect_all limits (readings_of s) client no_key call asked effective going told

  -- a handle that is collected was in a parcel
  was_moving : (buffer : BufferName) (strength : Strength) →
      Reply.CollectedHandle buffer strength ≡ answer limits (readings_of s) client no_key Call.Collect →
      0 < moving_count s.holds buffer strength
  was_moving buffer strength told =
      let head = first_handle (readings_of s) ((readings_of s).waiting client) buffer strength
      (took Call.Collect (Reply.CollectedHandle buffer strength) refl refl told).answered in
      let c = client_of s client (Parcel.Handle buffer strength) head.0 head.1 in
      let here : waiting_in buffer strength c.0 ≡ 1 + count_by (is_handle_of buffer strength) head.0 =
      ap (count_by (is_handle_of buffer strength)) c.3
      ∙ (sum_by-cons (λ p. cond (is_handle_of buffer strength p) 1 0) (Parcel.Handle buffer strength) head.0
      ∙ ap (λ (b : Bool). one b + count_by (is_handle_of buffer strength) head.0) (is_itself buffer strength)) in
      omega (arith, sent buffer strength, In-le-sum_by (waiting_in buffer strength) s.clients c.0 c.1, here)

  -- what is taken may be opened
  may_take : (key : NodeKey) (collection : ℕ) (strength : Strength) (set : ℕ) →
      Reply.Taken collection strength set ≡ answer limits (readings_of s) client no_key (Call.Take key) →
      CanOpen s.holds collection strength set
  may_take key collection strength set told =
      let t = took (Call.Take key) (Reply.Taken collection strength set) refl refl told in
      by (end_in s key) refl t.answered (passed _ _ t.handles_fit)
    where
      parts : (c d : ℕ) (x y : Strength) (a b : ℕ) → Reply.Taken c x a ≡ Reply.Taken d y b → (c ≡ d) × (x ≡ y) × (a ≡ b)
      parts c d x y a b is = (cc, cc, cc)

      given : (n : Node) (o : Option Buffers) → Reply.Taken collection strength set ≡ option_map_or (λ b.
          Reply.Taken n.collection (strength_of n.weak) (set_of (to_open_in s n.collection))) o Reply.Pending →
          list_any (is_at_limit limits (readings_of s) (strength_of n.weak)) (to_open_in s n.collection) ≡ false →
          CanOpen s.holds collection strength set
      given n None is free = cc
      given n (Some b) is free =
          let p = parts collection n.collection strength (strength_of n.weak) set (set_of (to_open_in s n.collection)) is in
          rw (p.0, p.1, p.2) (may_open limits s n.collection (strength_of n.weak) limit free)

      at : (n : Node) (allocated : Bool) →
          Reply.Taken collection strength set ≡ option_map_or (λ b.
          Reply.Taken n.collection (strength_of n.weak) (set_of (if allocated then to_open_in s n.collection else [])))
          (if allocated then buffers_in s n.collection else None) Reply.Pending →
          list_any (is_at_limit limits (readings_of s) (strength_of n.weak)) (if allocated then to_open_in s n.collection else []) ≡ false →
          CanOpen s.holds collection strength set
      at n true is free = given n (buffers_in s n.collection) is free
      at n false is free = cc

      by : (o : Option OpenEnd) → end_in s key ≡ o →
          Reply.Taken collection strength set ≡ option_map_or (λ (e : OpenEnd).
          option_map_or (λ b. Reply.Taken e.collection (strength_of e.weak) (set_of e.to_open)) e.buffers Reply.Pending) o
          (Reply.Refused Refusal.NoSuchEnd) →
          option_map_or (λ (e : OpenEnd). list_any (is_at_limit limits (readings_of s) (strength_of e.weak)) e.to_open) o false ≡ false →
          CanOpen s.holds collection strength set
      by None end is free = cc
      by (Some e) end is free =
          let n = and_then-Some (λ (n : Node). if is_spent n.end then None else Some (open_end_of s n)) (node_at s.forest key) e end in
          elim (either_way (is_spent n.0.end)) [
            | inl spent ↦ let none : None ≡ Some e = rw spent at n.2 in cc
            | inr here ↦
                let some : Some (open_end_of s n.0) ≡ Some e = rw here at n.2 in
                let same : e ≡ open_end_of s n.0 = cc in
                at n.0 n.0.allocated (rw same at is) (rw same at free)
          ]

  -- the handles of the call may be moved
  pub may_move : (call : Call) (asked : Reply) → asked ≡ answer limits (readings_of s) client no_key call →
      MayMove s.holds client call asked
  may_move (Call.Take key) (Reply.Taken collection strength set) told = may_take key collection strength set told
  may_move (Call.DupHandle buffer strength) Reply.Done told =
      rw limit (leb-false limits.handles (total s.holds buffer strength) (passed _ _ (took (Call.DupHandle buffer strength) Reply.Done refl
      refl told).handles_fit))
  may_move (Call.DropHandle buffer strength) Reply.Done told =
      some_open _ (took (Call.DropHandle buffer strength) Reply.Done refl refl told).has_handle
  may_move (Call.GiveHandle buffer strength to) Reply.Done told =
      some_open _ (took (Call.GiveHandle buffer strength to) Reply.Done refl refl told).has_handle
  may_move Call.Collect (Reply.CollectedHandle buffer strength) told = was_moving buffer strength told
  may_move call asked told = tt
