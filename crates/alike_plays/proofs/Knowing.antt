-- What actors that are alike know after a reply.
use Rattle.alike_plays.proofs.Common.{ActorObject, AreAlikeKnown, Bool, BufferName, Call, KeepsIds, KeepsKeys, Kind, Known, List}
use Rattle.alike_plays.proofs.Common.{MAX_BUFFERS, NodeKey, None, Option, Reply, Some, Step, StepCall, Strength, [], ap, asked_renamed}
use Rattle.alike_plays.proofs.Common.{bit_at, bound, buffer_renamed, call_renamed, cond, drop, false, handle_of, handles_from, length}
use Rattle.alike_plays.proofs.Common.{map, map-append, new_objects, new_place, new_tracker, node_label, object_renamed, on_of, option_map}
use Rattle.alike_plays.proofs.Common.{place_renamed, refl, reply_renamed, row_for, same_buffer, set, spends_object, state_after, subst}
use Rattle.alike_plays.proofs.Common.{suc, sym, tracker_label, true, with_first_gone, with_new, with_node_label, with_object}
use Rattle.alike_plays.proofs.Common.{with_objects, with_queues, with_slot_last, with_spot, with_tracker_label, without_handle}
use Rattle.alike_plays.proofs.Common.{without_object, without_spent, zero, ℕ, ◌&&◌, ◌++◌, ◌+◌, ◌==◌, ◌∙◌, ◌∷◌, ◌≡◌}
use Rattle.std.proofs.lemmas.List.{map-set}
use Rattle.sm_names.specs.declared.call_parts.Spends.{Spends}
use Rattle.actor_scripts.specs.ActorStates.{spends_by}
use Rattle.alike_cores.proofs.Answering.{length-renamed}
use Rattle.alike_plays.proofs.Asking.{object-alike}

-- ---- what a reply tells

-- By the reply.
place-renamed : (to : NodeKey → NodeKey) (id number : ℕ → ℕ) (reply : Reply) →
    new_place (reply_renamed to id number reply) ≡ option_map (place_renamed to id) (new_place reply)
place-renamed to id number Reply.Done = refl
place-renamed to id number _ = refl

-- By the reply.
tracker-renamed : (to : NodeKey → NodeKey) (id number : ℕ → ℕ) (reply : Reply) →
    new_tracker (reply_renamed to id number reply) ≡ option_map number (new_tracker reply)
tracker-renamed to id number Reply.Done = refl
tracker-renamed to id number _ = refl

-- By the reply, and when such a call spends.
spent_by-renamed : (to : NodeKey → NodeKey) (id number : ℕ → ℕ) (reply : Reply) (spends : Spends) →
    spends_by spends (reply_renamed to id number reply) ≡ spends_by spends reply
spent_by-renamed to id number Reply.Done spends = refl
spent_by-renamed to id number (Reply.PeerClosed cause origin) Spends.IfMet = refl
spent_by-renamed to id number _ Spends.IfDone = refl
spent_by-renamed to id number _ Spends.IfMet = refl
spent_by-renamed to id number _ _ = refl

-- By the call: its kind stays.
row-renamed : (to : NodeKey → NodeKey) (id : ℕ → ℕ) (call : Call) → row_for (call_renamed to id call) ≡ row_for call
row-renamed to id Call.Join = refl
row-renamed to id _ = refl

-- The call spends its object or not under any names.
spends-renamed : (to : NodeKey → NodeKey) (id number : ℕ → ℕ) (call : Call) (reply : Reply) →
    spends_object (call_renamed to id call) (reply_renamed to id number reply) ≡ spends_object call reply
spends-renamed to id number call reply =
    ap (λ row. spends_by row.spends (reply_renamed to id number reply)) (row-renamed to id call)
    ∙ spent_by-renamed to id number reply (row_for call).spends

-- By the call.
let_go-renamed : (to : NodeKey → NodeKey) (id : ℕ → ℕ) (call : Call) →
    handle_of (call_renamed to id call)
    ≡ option_map (λ (h : BufferName × Strength). (buffer_renamed id h.0, h.1)) (handle_of call)
let_go-renamed to id Call.Join = refl
let_go-renamed to id _ = refl

-- Index by index.
handles-renamed : (to : NodeKey → NodeKey) (id : ℕ → ℕ) (collection : ℕ) (strength : Strength) (set index count : ℕ) →
    handles_from (id collection) strength set index count
    ≡ map (object_renamed to id) (handles_from collection strength set index count)
unfolding handles_from
handles-renamed to id collection strength set index zero = refl
handles-renamed to id collection strength set index (suc count) =
    (λ i. cond (bit_at set index == 1)
    (ActorObject.Handle (record { collection = id collection; index = index }) strength
    ∷ handles-renamed to id collection strength set (index + 1) count i)
    (handles-renamed to id collection strength set (index + 1) count i))
    ∙ from (bit_at set index == 1) (handles_from collection strength set (index + 1) count)
  where
    -- by cases: the set has the buffer or not
    from : (b : Bool) (more : List ActorObject) →
        cond b (ActorObject.Handle (record { collection = id collection; index = index }) strength ∷ map (object_renamed to id) more)
        (map (object_renamed to id) more)
        ≡ map (object_renamed to id) (cond b (ActorObject.Handle (record { collection = collection; index = index }) strength ∷ more) more)
    from true more = refl
    from false more = refl

-- By the call and the reply.
pub gives-renamed : (to : NodeKey → NodeKey) (id number : ℕ → ℕ) (on : Option ActorObject) (call : Call) (reply : Reply) →
    new_objects (option_map (object_renamed to id) on) (call_renamed to id call) (reply_renamed to id number reply)
    ≡ map (object_renamed to id) (new_objects on call reply)
gives-renamed to id number on Call.OpenRoot (Reply.Token key collection) = refl
gives-renamed to id number on (Call.Duplicate parent) (Reply.Token key collection) = refl
gives-renamed to id number on (Call.AttachToken parent) (Reply.Token key collection) = refl
gives-renamed to id number on Call.Collect (Reply.Collected key Kind.Token collection) = refl
gives-renamed to id number on Call.Collect (Reply.Collected key Kind.Collection collection) = refl
gives-renamed to id number on Call.Collect (Reply.CollectedHandle buffer strength) = refl
gives-renamed to id number on (Call.Take key) (Reply.Taken collection strength set) =
    handles-renamed to id collection strength set 0 MAX_BUFFERS
gives-renamed to id number on (Call.DupHandle buffer strength) Reply.Done = refl
gives-renamed to id number on (Call.Bind key) Reply.Done = by on
  where
    -- by cases: only a token is bound
    by : (o : Option ActorObject) → bound (option_map (object_renamed to id) o) ≡ map (object_renamed to id) (bound o)
    by None = refl
    by (Some (ActorObject.Token token collection)) = refl
    by (Some (ActorObject.Collection token collection)) = refl
    by (Some (ActorObject.Handle buffer strength)) = refl
gives-renamed to id number on _ _ = refl

-- ---- labels

-- By cases: a label is bound to what the reply tells of, or all stay.
label-alike : {A : Type 0} (f : A → A) (one other : ℕ → Option A) → ((label : ℕ) → other label ≡ option_map f (one label)) →
    (binds : Option ℕ) (told again : Option A) → again ≡ option_map f told → (label : ℕ) →
    with_new other binds again label ≡ option_map f (with_new one binds told label)
label-alike {A = A} f one other alike binds told again same label =
    ap (λ (o : Option A). with_new other binds o label) same ∙ from binds told
  where
    -- by whether it is this label
    bind : (b : Bool) (value : A) → cond b (Some (f value)) (other label) ≡ option_map f (cond b (Some value) (one label))
    bind true value = refl
    bind false value = alike label

    -- by what is bound to what
    from : (b : Option ℕ) (o : Option A) → with_new other b (option_map f o) label ≡ option_map f (with_new one b o label)
    from None None = alike label
    from None (Some value) = alike label
    from (Some name) None = alike label
    from (Some name) (Some value) = bind (name == label) value

-- ---- objects

module _ (to : NodeKey → NodeKey) (id number : ℕ → ℕ) (keeps : KeepsKeys to) (kept : KeepsIds id) where
  -- By the index, which stays.
  same_buffer-renamed : (a b : BufferName) → same_buffer (buffer_renamed id a) (buffer_renamed id b) ≡ same_buffer a b
  same_buffer-renamed a b = ap (λ (c : Bool). c && a.index == b.index) (kept a.collection b.collection)

  -- The queues of the other strength stay.
  queues-alike : (strength : Strength) (one other : Strength → BufferName → List ℕ) (first later : BufferName → List ℕ) →
      ((s : Strength) (b : BufferName) → other s (buffer_renamed id b) ≡ one s b) →
      ((b : BufferName) → later (buffer_renamed id b) ≡ first b) → (s : Strength) (b : BufferName) →
      with_queues other strength later s (buffer_renamed id b) ≡ with_queues one strength first s b
  queues-alike Strength.Strong one other first later alike same Strength.Strong b = same b
  queues-alike Strength.Strong one other first later alike same Strength.Weak b = alike Strength.Weak b
  queues-alike Strength.Weak one other first later alike same Strength.Strong b = alike Strength.Strong b
  queues-alike Strength.Weak one other first later alike same Strength.Weak b = same b

  module _ (one other : Known) (alike : AreAlikeKnown to id number one other) where
    -- As many objects came.
    same_length : length other.objects ≡ length one.objects
    same_length = ap length alike.objects ∙ length-renamed (option_map (object_renamed to id)) one.objects

    -- One more lies in the next slot.
    more_objects : (object : ActorObject) →
        other.objects ++ Some (object_renamed to id object) ∷ []
        ≡ map (option_map (object_renamed to id)) (one.objects ++ Some object ∷ [])
    more_objects object = ap (λ (l : List (Option ActorObject)). l ++ Some (object_renamed to id object) ∷ []) alike.objects
        ∙ sym (map-append (option_map (object_renamed to id)) one.objects (Some object ∷ []))

    -- The newest object of the node lies there.
    spot-alike : (key node : NodeKey) →
        with_spot other.spots (to key) (length other.objects) (to node) ≡ with_spot one.spots key (length one.objects) node
    spot-alike key node = λ i. cond (keeps key node i) (Some (same_length i)) (alike.spots node i)

    -- By the object.
    pub object_more : (object : ActorObject) →
        AreAlikeKnown to id number (with_object one object) (with_object other (object_renamed to id object))
    object_more (ActorObject.Token key collection) = record {
      nodes = alike.nodes;
      trackers = alike.trackers;
      objects = more_objects (ActorObject.Token key collection);
      spots = spot-alike key;
      handles = alike.handles;
    }
    object_more (ActorObject.Collection key collection) = record {
      nodes = alike.nodes;
      trackers = alike.trackers;
      objects = more_objects (ActorObject.Collection key collection);
      spots = spot-alike key;
      handles = alike.handles;
    }
    object_more (ActorObject.Handle buffer strength) = record {
      nodes = alike.nodes;
      trackers = alike.trackers;
      objects = more_objects (ActorObject.Handle buffer strength);
      spots = alike.spots;
      handles = queues-alike strength one.handles other.handles
          (with_slot_last (one.handles strength) buffer (length one.objects))
          (with_slot_last (other.handles strength) (buffer_renamed id buffer) (length other.objects)) alike.handles
          (λ b i. cond (same_buffer-renamed buffer b i) (alike.handles strength buffer i ++ same_length i ∷ [])
          (alike.handles strength b i));
    }

    -- By the handle that is let go: its first slot goes.
    handle_gone : (o : Option (BufferName × Strength)) → AreAlikeKnown to id number (without_handle one o)
        (without_handle other (option_map (λ (h : BufferName × Strength). (buffer_renamed id h.0, h.1)) o))
    handle_gone None = alike
    handle_gone (Some h) = record {
      nodes = alike.nodes;
      trackers = alike.trackers;
      objects = alike.objects;
      spots = alike.spots;
      handles = queues-alike h.1 one.handles other.handles (with_first_gone (one.handles h.1) h.0)
          (with_first_gone (other.handles h.1) (buffer_renamed id h.0)) alike.handles
          (λ b i. cond (same_buffer-renamed h.0 b i) (drop 1 (alike.handles h.1 h.0 i)) (alike.handles h.1 b i));
    }

    -- By the slot: nothing lies there any more.
    object_gone : (slot : Option ℕ) → AreAlikeKnown to id number (without_object one slot) (without_object other slot)
    object_gone None = alike
    object_gone (Some slot) = record {
      nodes = alike.nodes;
      trackers = alike.trackers;
      objects = ap (λ (l : List (Option ActorObject)). set l slot None) alike.objects
          ∙ sym (map-set (option_map (object_renamed to id)) one.objects slot None);
      spots = alike.spots;
      handles = alike.handles;
    }

  -- Object by object.
  objects_more : (objects : List ActorObject) (one other : Known) → AreAlikeKnown to id number one other →
      AreAlikeKnown to id number (with_objects one objects) (with_objects other (map (object_renamed to id) objects))
  objects_more [] one other alike = alike
  objects_more (object ∷ objects) one other alike =
      objects_more objects (with_object one object) (with_object other (object_renamed to id object)) (object_more one other alike object)

  module _ (one other : Known) (alike : AreAlikeKnown to id number one other) (step : Step) (asked : StepCall) (reply : Reply) where
    -- the labels that the step binds stand for what the reply tells of
    labelled : AreAlikeKnown to id number (with_tracker_label (with_node_label one step reply) step reply)
        (with_tracker_label (with_node_label other step (reply_renamed to id number reply)) step (reply_renamed to id number reply))
    labelled = record {
      nodes = label-alike (place_renamed to id) one.nodes other.nodes alike.nodes (node_label step) (new_place reply)
          (new_place (reply_renamed to id number reply)) (place-renamed to id number reply);
      trackers = label-alike number one.trackers other.trackers alike.trackers (tracker_label step) (new_tracker reply)
          (new_tracker (reply_renamed to id number reply)) (tracker-renamed to id number reply);
      objects = alike.objects;
      spots = alike.spots;
      handles = alike.handles;
    }

    -- what the call spends is gone
    spent : (first later : Known) → AreAlikeKnown to id number first later →
        AreAlikeKnown to id number (without_spent first asked reply)
        (without_spent later (asked_renamed to id asked) (reply_renamed to id number reply))
    spent first later same = rw (spends-renamed to id number asked.call reply) (from (spends_object asked.call reply))
      where
        -- by cases: it is spent or not
        from : (b : Bool) → AreAlikeKnown to id number
            (cond b (without_handle (without_object first asked.slot) (handle_of asked.call)) first)
            (cond b (without_handle (without_object later asked.slot) (handle_of (call_renamed to id asked.call))) later)
        from true = rw (let_go-renamed to id asked.call)
            (handle_gone (without_object first asked.slot) (without_object later asked.slot) (object_gone first later same asked.slot)
            (handle_of asked.call))
        from false = same

    -- By the slot.
    on-alike : (slot : Option ℕ) → on_of other.objects slot ≡ option_map (object_renamed to id) (on_of one.objects slot)
    on-alike None = refl
    on-alike (Some slot) = object-alike to id number one other alike slot

    -- the actors know alike after the reply
    pub knows-alike : AreAlikeKnown to id number (state_after one step asked reply)
        (state_after other step (asked_renamed to id asked) (reply_renamed to id number reply))
    knows-alike = subst
        (λ (l : List ActorObject). AreAlikeKnown to id number (state_after one step asked reply)
        (with_objects (without_spent (with_tracker_label (with_node_label other step (reply_renamed to id number reply)) step
        (reply_renamed to id number reply)) (asked_renamed to id asked) (reply_renamed to id number reply)) l))
        (sym (ap (λ (o : Option ActorObject). new_objects o (call_renamed to id asked.call) (reply_renamed to id number reply))
        (on-alike asked.slot) ∙ gives-renamed to id number (on_of one.objects asked.slot) asked.call reply))
        (objects_more (new_objects (on_of one.objects asked.slot) asked.call reply)
        (without_spent (with_tracker_label (with_node_label one step reply) step reply) asked reply)
        (without_spent (with_tracker_label (with_node_label other step (reply_renamed to id number reply)) step
        (reply_renamed to id number reply)) (asked_renamed to id asked) (reply_renamed to id number reply))
        (spent (with_tracker_label (with_node_label one step reply) step reply)
        (with_tracker_label (with_node_label other step (reply_renamed to id number reply)) step (reply_renamed to id number reply))
        labelled))
