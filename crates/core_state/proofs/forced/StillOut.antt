-- No held buffer is home between events, and each is one of its collection.
use Rattle.core_state.proofs.Common.{Bool, BufferName, Call, Called, Change, Collection, Counts, EventTask, Forest, HeldBuffer, IfSome}
use Rattle.core_state.proofs.Common.{In, In-find, List, Mark, MayChange, MayDo, MovesHandles, NoBufferHome, None, Option, Reply, Some}
use Rattle.core_state.proofs.Common.{State, Strength, Work, [], and_both, anyone, ap, arith, both_ways, collection_at, drops, either_way}
use Rattle.core_state.proofs.Common.{eq-eqb, false, false_if, if◌then◌else◌, inl, inr, is_home, is_home_in, is_some, members_of, one_if}
use Rattle.core_state.proofs.Common.{opens, option_map, option_map_or, refl, same_buffer, same_buffer-true, some_strong_live, subst, sym}
use Rattle.core_state.proofs.Common.{total, true, work_in, work_of, ℕ, ◌+◌, ◌==◌, ◌∙◌, ◌∷◌, ◌≡◌}
use Rattle.std.specs.List.{list_all}
use Rattle.forest_store.specs.Dropped.{are_others_out}
use Rattle.forest_store.specs.Settling.{fits}
use Rattle.core_state.specs.Tasks.{AsksOnly, OthersStay}

-- ---- each is one of its collection

-- ---- none is home

-- ---- the event

-- ---- a handle that is dropped

-- it changes nothing but the question what follows
asked_by : (s : State) (client : ℕ) (buffer : BufferName) (strength : Strength) (asked : Reply) →
    IfSome (work_of s client (Call.DropHandle buffer strength) asked) (λ (w : Work). (w.change ≡ Change.Nothing)
    × (w.collection ≡ buffer.collection))
asked_by s client buffer strength Reply.Done = from _ (collection_at s.forest buffer.collection)
  where
    -- by cases: nothing is asked of a collection that is not there, or of one where nothing came home
    from : (b : Bool) (o : Option Collection) →
        IfSome (if b then None else option_map (λ (c : Collection). record { collection = buffer.collection; change = Change.Nothing }) o)
        (λ (w : Work). (w.change ≡ Change.Nothing) × (w.collection ≡ buffer.collection))
    from true o = tt
    from false None = tt
    from false (Some c) = (refl, refl)
asked_by s client buffer strength (Reply.Token key collection) = tt
asked_by s client buffer strength (Reply.Misused misuse) = tt
asked_by s client buffer strength (Reply.Taken collection taken set) = tt
asked_by s client buffer strength (Reply.Tracker id) = tt
asked_by s client buffer strength _ = tt

-- the task of a dropped handle has no change or the empty one, in the collection of the buffer
pub asks_only : (s : State) (client : ℕ) (call : Call) (asked : Reply) (task : Option EventTask) →
    work_in task ≡ work_of s client call asked →
    AsksOnly call task
asks_only s client (Call.DropHandle buffer strength) asked task work =
    by task (subst (λ (o : Option Work). IfSome o (λ (w : Work). (w.change ≡ Change.Nothing) × (w.collection ≡ buffer.collection)))
    (sym work) (asked_by s client buffer strength asked))
  where
    -- by cases: without a change there is nothing to say
    at : (t : EventTask) (o : Option Change) →
        IfSome (option_map (λ x. record { collection = t.collection; change = x }) o) (λ (w : Work). (w.change ≡ Change.Nothing)
        × (w.collection ≡ buffer.collection)) → IfSome o (λ change. (change ≡ Change.Nothing) × (t.collection ≡ buffer.collection))
    at t None is = tt
    at t (Some change) is = is

    -- by cases: without a task there is nothing to say
    by : (task : Option EventTask) → IfSome (work_in task) (λ (w : Work). (w.change ≡ Change.Nothing)
        × (w.collection ≡ buffer.collection)) →
        IfSome task (λ (t : EventTask). IfSome t.change (λ change. (change ≡ Change.Nothing) × (t.collection ≡ buffer.collection)))
    by None is = tt
    by (Some t) is = at t t.change is
asks_only s client _ asked task work = tt

-- where all pass one by one, the list passes
all_of : (test : HeldBuffer → Bool) (hs : List HeldBuffer) → ((h : HeldBuffer) → In h hs → test h ≡ true) → list_all test hs ≡ true
all_of test [] each = refl
all_of test (h ∷ hs) each =
    and_both (test h) (list_all test hs) (each h (inl refl)) (all_of test hs (λ x on. each x (inr on)))

-- and no other buffer of its collection is home
pub others_stay : (old new : Counts) (f : Forest) (client : ℕ) (call : Call) (asked : Reply) (task : Option EventTask) →
    NoBufferHome (total old) f → MovesHandles old new (Called client asked call) → IfSome task (MayDo f) → AsksOnly call task →
    OthersStay (total new) f call task
others_stay old new f client (Call.DropHandle buffer strength) asked task out moves may asks = by task may asks
  where
    -- by the other direction of the comparison
    apart : (b : BufferName) → same_buffer b buffer ≡ false → same_buffer buffer b ≡ false
    apart b other = false_if (same_buffer buffer b) (λ e.
        let same : buffer ≡ b = same_buffer-true buffer b e in
        both_ways (same_buffer b buffer) (ap (λ (x : BufferName). same_buffer x buffer) (sym same)
        ∙ and_both (buffer.collection == buffer.collection) (buffer.index == buffer.index) (eq-eqb buffer.collection buffer.collection refl)
        (eq-eqb buffer.index buffer.index refl)) other)

    -- by cases: only a Drop that is Done drops a handle, and that of its own buffer
    not_dropped : (b : BufferName) (s : Strength) (asked : Reply) → same_buffer buffer b ≡ false →
        drops anyone b s (Called client asked (Call.DropHandle buffer strength)) ≡ false
    not_dropped b s Reply.Done other = rw other refl
    not_dropped b s _ other = refl

    -- by cases: no reply to a Drop opens a handle
    not_opened : (b : BufferName) (s : Strength) (asked : Reply) →
        opens anyone b s (Called client asked (Call.DropHandle buffer strength)) ≡ false
    not_opened b s Reply.Done = refl
    not_opened b s (Reply.Taken collection taken set) = refl
    not_opened b s _ = refl

    -- by arithmetic: nothing of another buffer was dropped or opened
    still : (b : BufferName) (s : Strength) → same_buffer b buffer ≡ false → total new b s ≡ total old b s
    still b s other =
        let mark : Mark = Called client asked (Call.DropHandle buffer strength) in
        let sum : total new b s + one_if (drops anyone b s mark) ≡ total old b s + one_if (opens anyone b s mark) =
        (moves.in_all b s).adds_up in
        let lost : one_if (drops anyone b s mark) ≡ 0 = ap one_if (not_dropped b s asked (apart b other)) in
        let won : one_if (opens anyone b s mark) ≡ 0 = ap one_if (not_opened b s asked) in
        omega (arith, sum, lost, won)

    -- each other buffer has as many open handles as before, so it is out as before
    others : (c : Collection) → In c f.collections → are_others_out (total new) buffer c ≡ true
    others c on = all_of _ c.held (λ h held. elim (either_way (same_buffer h.buffer buffer)) [
      | inl e ↦ rw e refl
      | inr e ↦
          let away : is_home_in (total new) c h.buffer ≡ false =
          (λ i. is_home (still h.buffer Strength.Strong e i) (still h.buffer Strength.Weak e i) (some_strong_live (members_of c.nodes)))
          ∙ (out c on h held).1 in
          rw (e, away) refl
    ])

    -- by cases: a collection that is found is one of all
    found : (o : Option Collection) → collection_at f buffer.collection ≡ o → is_some o ≡ true →
        option_map_or (are_others_out (total new) buffer) o false ≡ true
    found None is there = cc
    found (Some c) is there = others c (In-find (λ (x : Collection). x.id == buffer.collection) f.collections c is).0

    -- by cases: a change is in the collection of the buffer, which is there
    at : (t : EventTask) (o : Option Change) → IfSome o (MayChange f t.collection) →
        IfSome o (λ change. (change ≡ Change.Nothing) × (t.collection ≡ buffer.collection)) → is_some o ≡ true →
        option_map_or (are_others_out (total new) buffer) (collection_at f buffer.collection) false ≡ true
    at t None may asks there = cc
    at t (Some change) may asks there =
        let here : is_some (collection_at f t.collection) ≡ true =
        subst (λ (x : Change). fits f t.collection x ≡ true) asks.0 may.named in
        found (collection_at f buffer.collection) refl (ap (λ (id : ℕ). is_some (collection_at f id)) (sym asks.1) ∙ here)

    -- by cases: without a task there is nothing to say
    by : (task : Option EventTask) → IfSome task (MayDo f) → AsksOnly (Call.DropHandle buffer strength) task →
        OthersStay (total new) f (Call.DropHandle buffer strength) task
    by None may asks = tt
    by (Some t) may asks = at t t.change may.change asks
others_stay old new f client _ asked task out moves may asks = tt
