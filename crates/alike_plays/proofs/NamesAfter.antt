-- Which names an actor knows after a reply.
use Rattle.alike_plays.proofs.Common.{ActorObject, Bool, BufferName, Call, In, In-append, Kind, Known, KnownActor, KnownCall, KnownObject}
use Rattle.alike_plays.proofs.Common.{KnownReply, List, MAX_BUFFERS, NodeKey, None, Option, Reply, Some, Step, StepCall, Strength, [], ap}
use Rattle.alike_plays.proofs.Common.{bit_at, bound, cond, drop, either_way, false, handle_of, handles_from, inl, inr, length}
use Rattle.alike_plays.proofs.Common.{new_objects, new_place, new_tracker, node_label, on_of, refl, same_buffer, same_key, same_key-true}
use Rattle.alike_plays.proofs.Common.{set, some-injective, spends_object, state_after, subst, suc, sym, tracker_label, true}
use Rattle.alike_plays.proofs.Common.{with_first_gone, with_new, with_node_label, with_object, with_objects, with_queues, with_slot_last}
use Rattle.alike_plays.proofs.Common.{with_spot, with_tracker_label, without_handle, without_object, without_spent, zero, ℕ, ◌++◌, ◌+◌}
use Rattle.alike_plays.proofs.Common.{◌==◌, ◌∙◌, ◌∷◌, ◌≡◌, ◌⊎◌}
use Rattle.sm_names.proofs.SamenessLaws.{same_buffer-true}
use Rattle.alike_plays.proofs.Names.{lying_in}

-- What is put at a place is the only new element.
pub In-set : {A : Type 0} (xs : List A) (i : ℕ) (z y : A) → In y (set xs i z) → (y ≡ z) ⊎ In y xs
In-set [] i z y there = absurd there
In-set (x ∷ xs) zero z y (inl is) = inl is
In-set (x ∷ xs) zero z y (inr on) = inr (inr on)
In-set (x ∷ xs) (suc i) z y (inl is) = inr (inl is)
In-set (x ∷ xs) (suc i) z y (inr on) = elim (In-set xs i z y on) [ inl is ↦ inl is | inr there ↦ inr (inr there) ]

-- By cases: the label stands for what the reply tells of, or for what it stood for.
label_known : {A : Type 0} (P : A → Type 0) (labels : ℕ → Option A) → ((label : ℕ) (v : A) → labels label ≡ Some v → P v) →
    (binds : Option ℕ) (told : Option A) → ((v : A) → told ≡ Some v → P v) → (label : ℕ) (v : A) →
    with_new labels binds told label ≡ Some v → P v
label_known P labels old None told new label v is = old label v is
label_known P labels old (Some name) None new label v is = old label v is
label_known {A = A} P labels old (Some name) (Some value) new label v is = by (name == label) is
  where
    -- by whether it is this label
    by : (b : Bool) → cond b (Some value) (labels label) ≡ Some v → P v
    by true now = new v now
    by false before = old label v before

module _ (Key : NodeKey → Type 0) (Id Num : ℕ → Type 0) where
  -- ---- labels

  -- By the reply.
  place_known : (reply : Reply) → KnownReply Key Id Num reply → (place : NodeKey × ℕ) → new_place reply ≡ Some place →
      Key place.0 × Id place.1
  place_known (Reply.Token key collection) known place is =
      subst (λ (p : NodeKey × ℕ). Key p.0 × Id p.1) (some-injective (key, collection) place is) known
  place_known (Reply.Collected key kind collection) known place is =
      subst (λ (p : NodeKey × ℕ). Key p.0 × Id p.1) (some-injective (key, collection) place is) known
  place_known _ known place is = cc

  -- By the reply.
  tracker_known : (reply : Reply) → KnownReply Key Id Num reply → (tracker : ℕ) → new_tracker reply ≡ Some tracker → Num tracker
  tracker_known (Reply.Tracker n) known tracker is = subst Num (some-injective n tracker is) known
  tracker_known _ known tracker is = cc

  -- The labels that a step binds stand for what is known.
  labelled_known : (k : Known) → KnownActor Key Id Num k → (step : Step) (reply : Reply) → KnownReply Key Id Num reply →
      KnownActor Key Id Num (with_tracker_label (with_node_label k step reply) step reply)
  labelled_known k known step reply told = record {
    nodes = label_known (λ (p : NodeKey × ℕ). Key p.0 × Id p.1) k.nodes known.nodes (node_label step) (new_place reply)
        (place_known reply told);
    trackers = label_known Num k.trackers known.trackers (tracker_label step) (new_tracker reply) (tracker_known reply told);
    objects = known.objects;
    spots = known.spots;
    handles = known.handles;
  }

  -- ---- objects

  -- An object more is one of those.
  object_in : (objects : List (Option ActorObject)) → ((o : ActorObject) → In (Some o) objects → KnownObject Key Id o) →
      (object : ActorObject) → KnownObject Key Id object → (o : ActorObject) → In (Some o) (objects ++ Some object ∷ []) →
      KnownObject Key Id o
  object_in objects old object new o there = elim (In-append objects (Some object ∷ []) (Some o) there) [
    | inl before ↦ old o before
    | inr now ↦ elim now [
      | inl is ↦ subst (KnownObject Key Id) (sym (some-injective o object is)) new
      | inr none ↦ absurd none
    ]
  ]

  -- The spot of a node that is known is that of no other.
  spot_known : (spots : NodeKey → Option ℕ) → ((key : NodeKey) → (Key key → ⊥) → spots key ≡ None) → (key : NodeKey) (slot : ℕ) →
      Key key → (other : NodeKey) → (Key other → ⊥) → with_spot spots key slot other ≡ None
  spot_known spots old key slot here other unknown = by (either_way (same_key key other))
    where
      -- by whether it is this node
      by : (same_key key other ≡ true) ⊎ (same_key key other ≡ false) → with_spot spots key slot other ≡ None
      by (inl e) = absurd (unknown (subst Key (same_key-true key other e) here))
      by (inr e) = rw e (old other unknown)

  -- The queues of the other strength stay.
  queues_known : (strength : Strength) (handles : Strength → BufferName → List ℕ) (queues : BufferName → List ℕ) →
      ((s : Strength) (b : BufferName) → (Id b.collection → ⊥) → handles s b ≡ []) →
      ((b : BufferName) → (Id b.collection → ⊥) → queues b ≡ []) → (s : Strength) (b : BufferName) → (Id b.collection → ⊥) →
      with_queues handles strength queues s b ≡ []
  queues_known Strength.Strong handles queues old new Strength.Strong b unknown = new b unknown
  queues_known Strength.Strong handles queues old new Strength.Weak b unknown = old Strength.Weak b unknown
  queues_known Strength.Weak handles queues old new Strength.Strong b unknown = old Strength.Strong b unknown
  queues_known Strength.Weak handles queues old new Strength.Weak b unknown = new b unknown

  -- By whether it is this buffer.
  last_known : (queues : BufferName → List ℕ) → ((b : BufferName) → (Id b.collection → ⊥) → queues b ≡ []) → (buffer : BufferName)
      (slot : ℕ) → Id buffer.collection → (b : BufferName) → (Id b.collection → ⊥) → with_slot_last queues buffer slot b ≡ []
  last_known queues old buffer slot here b unknown = by (either_way (same_buffer buffer b))
    where
      -- by the two cases
      by : (same_buffer buffer b ≡ true) ⊎ (same_buffer buffer b ≡ false) → with_slot_last queues buffer slot b ≡ []
      by (inl e) = absurd (unknown (subst (λ (x : BufferName). Id x.collection) (same_buffer-true buffer b e) here))
      by (inr e) = rw e (old b unknown)

  -- By whether it is this buffer.
  first_known : (queues : BufferName → List ℕ) → ((b : BufferName) → (Id b.collection → ⊥) → queues b ≡ []) → (buffer b : BufferName) →
      (Id b.collection → ⊥) → with_first_gone queues buffer b ≡ []
  first_known queues old buffer b unknown = by (either_way (same_buffer buffer b))
    where
      -- by the two cases
      by : (same_buffer buffer b ≡ true) ⊎ (same_buffer buffer b ≡ false) → with_first_gone queues buffer b ≡ []
      by (inl e) =
          rw e (ap (drop 1) (ap queues (same_buffer-true buffer b e) ∙ old b unknown))
      by (inr e) = rw e (old b unknown)

  -- By the object.
  object_known : (k : Known) → KnownActor Key Id Num k → (object : ActorObject) → KnownObject Key Id object →
      KnownActor Key Id Num (with_object k object)
  object_known k known (ActorObject.Token key collection) new = record {
    nodes = known.nodes;
    trackers = known.trackers;
    objects = object_in k.objects known.objects (ActorObject.Token key collection) new;
    spots = spot_known k.spots known.spots key (length k.objects) new.0;
    handles = known.handles;
  }
  object_known k known (ActorObject.Collection key collection) new = record {
    nodes = known.nodes;
    trackers = known.trackers;
    objects = object_in k.objects known.objects (ActorObject.Collection key collection) new;
    spots = spot_known k.spots known.spots key (length k.objects) new.0;
    handles = known.handles;
  }
  object_known k known (ActorObject.Handle buffer strength) new = record {
    nodes = known.nodes;
    trackers = known.trackers;
    objects = object_in k.objects known.objects (ActorObject.Handle buffer strength) new;
    spots = known.spots;
    handles = queues_known strength k.handles (with_slot_last (k.handles strength) buffer (length k.objects)) known.handles
        (last_known (k.handles strength) (known.handles strength) buffer (length k.objects) new);
  }

  -- Object by object.
  objects_known : (objects : List ActorObject) (k : Known) → KnownActor Key Id Num k →
      ((o : ActorObject) → In o objects → KnownObject Key Id o) → KnownActor Key Id Num (with_objects k objects)
  objects_known [] k known new = known
  objects_known (object ∷ objects) k known new =
      objects_known objects (with_object k object) (object_known k known object (new object (inl refl))) (λ o on. new o (inr on))

  -- ---- what is gone

  -- By the handle.
  handle_gone_known : (k : Known) → KnownActor Key Id Num k → (o : Option (BufferName × Strength)) →
      KnownActor Key Id Num (without_handle k o)
  handle_gone_known k known None = known
  handle_gone_known k known (Some h) = record {
    nodes = known.nodes;
    trackers = known.trackers;
    objects = known.objects;
    spots = known.spots;
    handles = queues_known h.1 k.handles (with_first_gone (k.handles h.1) h.0) known.handles
        (first_known (k.handles h.1) (known.handles h.1) h.0);
  }

  -- By the slot.
  object_gone_known : (k : Known) → KnownActor Key Id Num k → (slot : Option ℕ) → KnownActor Key Id Num (without_object k slot)
  object_gone_known k known None = known
  object_gone_known k known (Some slot) = record {
    nodes = known.nodes;
    trackers = known.trackers;
    objects = λ o there. elim (In-set k.objects slot None (Some o) there) [ inl is ↦ cc | inr on ↦ known.objects o on ];
    spots = known.spots;
    handles = known.handles;
  }

  -- By whether the call spends its object.
  spent_known : (k : Known) → KnownActor Key Id Num k → (asked : StepCall) (reply : Reply) →
      KnownActor Key Id Num (without_spent k asked reply)
  spent_known k known asked reply = by (spends_object asked.call reply)
    where
      -- by the two cases
      by : (b : Bool) → KnownActor Key Id Num (cond b (without_handle (without_object k asked.slot) (handle_of asked.call)) k)
      by true = handle_gone_known (without_object k asked.slot) (object_gone_known k known asked.slot) (handle_of asked.call)
      by false = known

  -- ---- what a reply gives

  -- Index by index.
  handles_known : (collection : ℕ) (strength : Strength) (set index count : ℕ) → Id collection → (o : ActorObject) →
      In o (handles_from collection strength set index count) → KnownObject Key Id o
  unfolding handles_from
  handles_known collection strength set index zero known o there = absurd there
  handles_known collection strength set index (suc count) known o there =
      by (bit_at set index == 1) there (handles_known collection strength set (index + 1) count known o)
    where
      -- by cases: the set has the buffer or not
      by : (b : Bool) → In o (cond b
          (ActorObject.Handle (record { collection = collection; index = index }) strength
          ∷ handles_from collection strength set (index + 1) count)
          (handles_from collection strength set (index + 1) count)) →
          (In o (handles_from collection strength set (index + 1) count) → KnownObject Key Id o) → KnownObject Key Id o
      by true (inl is) on = subst (KnownObject Key Id) (sym is) known
      by true (inr more) on = on more
      by false more on = on more

  -- The only element.
  single : (object : ActorObject) → KnownObject Key Id object → (o : ActorObject) → In o (object ∷ []) → KnownObject Key Id o
  single object known o (inl is) = subst (KnownObject Key Id) (sym is) known
  single object known o (inr none) = absurd none

  -- By the call and the reply.
  pub gives_known : (on : Option ActorObject) → ((object : ActorObject) → on ≡ Some object → KnownObject Key Id object) →
      (call : Call) → KnownCall Key Id call → (reply : Reply) → KnownReply Key Id Num reply → (o : ActorObject) →
      In o (new_objects on call reply) → KnownObject Key Id o
  gives_known on old Call.OpenRoot named (Reply.Token key collection) told o there = single (ActorObject.Token key collection) told o there
  gives_known on old (Call.Duplicate above) named (Reply.Token key collection) told o there =
      single (ActorObject.Token key collection) told o there
  gives_known on old (Call.AttachToken above) named (Reply.Token key collection) told o there =
      single (ActorObject.Token key collection) told o there
  gives_known on old Call.Collect named (Reply.Collected key Kind.Token collection) told o there =
      single (ActorObject.Token key collection) told o there
  gives_known on old Call.Collect named (Reply.Collected key Kind.Collection collection) told o there =
      single (ActorObject.Collection key collection) told o there
  gives_known on old Call.Collect named (Reply.CollectedHandle buffer strength) told o there =
      single (ActorObject.Handle buffer strength) told o there
  gives_known on old (Call.Take key) named (Reply.Taken collection strength set) told o there =
      handles_known collection strength set 0 MAX_BUFFERS told o there
  gives_known on old (Call.DupHandle buffer strength) named Reply.Done told o there =
      single (ActorObject.Handle buffer strength) (named.1 buffer refl) o there
  gives_known on old (Call.Bind key) named Reply.Done told o there = by on old there
    where
      -- by cases: only a token is bound
      by : (p : Option ActorObject) → ((object : ActorObject) → p ≡ Some object → KnownObject Key Id object) → In o (bound p) →
          KnownObject Key Id o
      by None known none = absurd none
      by (Some (ActorObject.Token token collection)) known now =
          single (ActorObject.Collection token collection) (known (ActorObject.Token token collection) refl) o now
      by (Some (ActorObject.Collection token collection)) known none = absurd none
      by (Some (ActorObject.Handle buffer strength)) known none = absurd none
  gives_known on old _ named _ told o there = absurd there

  -- What lies in the slot is known.
  on_known : (k : Known) → KnownActor Key Id Num k → (slot : Option ℕ) (object : ActorObject) → on_of k.objects slot ≡ Some object →
      KnownObject Key Id object
  on_known k known None object is = cc
  on_known k known (Some slot) object is = known.objects object (lying_in k.objects slot object is)

  -- An actor knows no other names after a reply than those of the reply.
  pub after_known : (k : Known) → KnownActor Key Id Num k → (step : Step) (asked : StepCall) → KnownCall Key Id asked.call →
      (reply : Reply) → KnownReply Key Id Num reply → KnownActor Key Id Num (state_after k step asked reply)
  after_known k known step asked named reply told =
      objects_known (new_objects (on_of k.objects asked.slot) asked.call reply)
      (without_spent (with_tracker_label (with_node_label k step reply) step reply) asked reply)
      (spent_known (with_tracker_label (with_node_label k step reply) step reply) (labelled_known k known step reply told) asked reply)
      (gives_known (on_of k.objects asked.slot) (on_known k known asked.slot) asked.call named reply told)
