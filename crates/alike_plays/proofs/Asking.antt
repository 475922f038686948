-- What actors that are alike ask for.
use Rattle.alike_plays.proofs.Common.{ActorObject, AreAlikeKnown, Argument, Bool, BufferName, Call, Known, List, NodeKey, NodePlace, None}
use Rattle.alike_plays.proofs.Common.{Option, Some, Step, Strength, Target, ap, asked_renamed, buffer_renamed, call_at, call_renamed}
use Rattle.alike_plays.proofs.Common.{cond, false, is_bound, is_some, node_label, object_at, object_renamed, option_and_then, option_map}
use Rattle.alike_plays.proofs.Common.{place_renamed, refl, slice_get, slice_get-map, step_call, tracker_label, true, ℕ, ◌∙◌, ◌≡◌}
use Rattle.sm_names.specs.declared.call_parts.Object.{Object as Named}
use Rattle.sm_names.specs.declared.call_rows.CallKind.{CallKind}
use Rattle.sm_names.specs.CallRows.{call_made, call_of, parts, row_of}
use Rattle.script_lines.specs.declared.line.Request.{Request}
use Rattle.actor_scripts.specs.declared.step.StepBuffer.{StepBuffer}
use Rattle.actor_scripts.specs.ActorStates.{argument_at, argument_held, asked_strength, bare_call, call_for, call_on, end_slot}
use Rattle.actor_scripts.specs.ActorStates.{handle_slot, is_join, slot_call, target_of}

-- what a call is made on, under its new name
abbrev named_renamed : (NodeKey → NodeKey) → (ℕ → ℕ) → Named NodeKey BufferName → Named NodeKey BufferName
named_renamed to id Named.Nothing = Named.Nothing
named_renamed to id (Named.Node key) = Named.Node (to key)
named_renamed to id (Named.Buffer buffer) = Named.Buffer (buffer_renamed id buffer)

-- By what it is made on, what it says, and its kind.
made-renamed : (to : NodeKey → NodeKey) (id : ℕ → ℕ) (target : Named NodeKey BufferName) (argument : Argument ℕ) (kind : CallKind) →
    call_made kind (named_renamed to id target) argument ≡ option_map (call_renamed to id) (call_made kind target argument)
made-renamed to id Named.Nothing Argument.Nothing CallKind.Join = refl
made-renamed to id Named.Nothing (Argument.Client to_client) CallKind.Join = refl
made-renamed to id Named.Nothing (Argument.Children children) CallKind.Join = refl
made-renamed to id Named.Nothing (Argument.Constraints demand) CallKind.Join = refl
made-renamed to id Named.Nothing (Argument.Most most) CallKind.Join = refl
made-renamed to id Named.Nothing (Argument.Strength strength) CallKind.Join = refl
made-renamed to id Named.Nothing (Argument.Gift strength to_client) CallKind.Join = refl
made-renamed to id (Named.Node key) Argument.Nothing CallKind.Join = refl
made-renamed to id (Named.Node key) (Argument.Client to_client) CallKind.Join = refl
made-renamed to id (Named.Node key) (Argument.Children children) CallKind.Join = refl
made-renamed to id (Named.Node key) (Argument.Constraints demand) CallKind.Join = refl
made-renamed to id (Named.Node key) (Argument.Most most) CallKind.Join = refl
made-renamed to id (Named.Node key) (Argument.Strength strength) CallKind.Join = refl
made-renamed to id (Named.Node key) (Argument.Gift strength to_client) CallKind.Join = refl
made-renamed to id (Named.Buffer buffer) Argument.Nothing CallKind.Join = refl
made-renamed to id (Named.Buffer buffer) (Argument.Client to_client) CallKind.Join = refl
made-renamed to id (Named.Buffer buffer) (Argument.Children children) CallKind.Join = refl
made-renamed to id (Named.Buffer buffer) (Argument.Constraints demand) CallKind.Join = refl
made-renamed to id (Named.Buffer buffer) (Argument.Most most) CallKind.Join = refl
made-renamed to id (Named.Buffer buffer) (Argument.Strength strength) CallKind.Join = refl
made-renamed to id (Named.Buffer buffer) (Argument.Gift strength to_client) CallKind.Join = refl
made-renamed to id _ _ _ = refl

-- By the object: a token, a collection, or a handle.
target-renamed : (to : NodeKey → NodeKey) (id : ℕ → ℕ) (on : Target) (object : ActorObject) →
    target_of on (object_renamed to id object) ≡ option_map (named_renamed to id) (target_of on object)
target-renamed to id Target.Token (ActorObject.Token key collection) = refl
target-renamed to id Target.Token (ActorObject.Collection key collection) = refl
target-renamed to id Target.Token (ActorObject.Handle buffer strength) = refl
target-renamed to id _ (ActorObject.Token key collection) = refl
target-renamed to id _ (ActorObject.Collection key collection) = refl
target-renamed to id _ (ActorObject.Handle buffer strength) = refl

-- By the object: only a handle has a strength.
held-renamed : (to : NodeKey → NodeKey) (id : ℕ → ℕ) (object : ActorObject) (argument : Argument ℕ) →
    argument_held (object_renamed to id object) argument ≡ argument_held object argument
held-renamed to id (ActorObject.Token key collection) argument = refl
held-renamed to id (ActorObject.Collection key collection) argument = refl
held-renamed to id (ActorObject.Handle buffer strength) argument = refl

-- The call on a renamed object is the renamed call.
on-renamed : (to : NodeKey → NodeKey) (id : ℕ → ℕ) (clients : List ℕ) (r : Request ℕ StepBuffer) (object : ActorObject) →
    call_on clients r (object_renamed to id object) ≡ option_map (call_renamed to id) (call_on clients r object)
on-renamed to id clients r object =
    ap (option_and_then (λ target. option_and_then
    (λ argument. call_of (parts r.kind target (argument_held (object_renamed to id object) argument))) (argument_at clients r.argument)))
    (target-renamed to id (row_of r.kind).on object)
    ∙ from (target_of (row_of r.kind).on object) (argument_at clients r.argument)
  where
    -- by cases: both are there, or there is no call
    from : (o : Option (Named NodeKey BufferName)) (a : Option (Argument ℕ)) → option_and_then (λ target. option_and_then
        (λ argument. call_of (parts r.kind target (argument_held (object_renamed to id object) argument))) a)
        (option_map (named_renamed to id) o)
        ≡ option_map (call_renamed to id) (option_and_then (λ target. option_and_then
        (λ argument. call_of (parts r.kind target (argument_held object argument))) a) o)
    from None a = refl
    from (Some target) None = refl
    from (Some target) (Some argument) =
        ap (λ (x : Argument ℕ). call_made r.kind (named_renamed to id target) x) (held-renamed to id object argument)
        ∙ made-renamed to id target (argument_held object argument) r.kind

-- A call on nothing has no name.
bare-renamed : (to : NodeKey → NodeKey) (id : ℕ → ℕ) (clients : List ℕ) (r : Request ℕ StepBuffer) →
    bare_call clients r ≡ option_map (call_renamed to id) (bare_call clients r)
bare-renamed to id clients r = from (is_join (row_of r.kind).brings) (argument_at clients r.argument)
  where
    -- by cases: it makes no client, and is there
    from : (join : Bool) (a : Option (Argument ℕ)) →
        cond join None (option_and_then (λ argument. call_of (parts r.kind Named.Nothing argument)) a)
        ≡ option_map (call_renamed to id)
        (cond join None (option_and_then (λ argument. call_of (parts r.kind Named.Nothing argument)) a))
    from true a = refl
    from false None = refl
    from false (Some argument) = made-renamed to id Named.Nothing argument r.kind

module _ (to : NodeKey → NodeKey) (id number : ℕ → ℕ) (one other : Known)
    (alike : AreAlikeKnown to id number one other) where
  -- Slot by slot.
  pub object-alike : (slot : ℕ) → object_at other.objects slot ≡ option_map (object_renamed to id) (object_at one.objects slot)
  object-alike slot =
      ap (λ (objects : List (Option ActorObject)). object_at objects slot) alike.objects
      ∙ (ap (option_and_then (λ (t : Option ActorObject). t)) (slice_get-map (option_map (object_renamed to id)) one.objects slot)
      ∙ from (slice_get one.objects slot))
    where
      -- by cases on the slot
      from : (o : Option (Option ActorObject)) →
          option_and_then (λ (t : Option ActorObject). t) (option_map (option_map (object_renamed to id)) o)
          ≡ option_map (object_renamed to id) (option_and_then (λ (t : Option ActorObject). t) o)
      from None = refl
      from (Some t) = refl

  -- A label stands for something or not.
  nodes-bound : (label : Option ℕ) → is_bound other.nodes label ≡ is_bound one.nodes label
  nodes-bound None = refl
  nodes-bound (Some label) = ap is_some (alike.nodes label) ∙ from (one.nodes label)
    where
      -- by cases on what it stands for
      from : (o : Option NodePlace) → is_some (option_map (place_renamed to id) o) ≡ is_some o
      from None = refl
      from (Some p) = refl

  -- And so does one of a tracker.
  trackers-bound : (label : Option ℕ) → is_bound other.trackers label ≡ is_bound one.trackers label
  trackers-bound None = refl
  trackers-bound (Some label) = ap is_some (alike.trackers label) ∙ from (one.trackers label)
    where
      -- by cases on what it stands for
      from : (o : Option ℕ) → is_some (option_map number o) ≡ is_some o
      from None = refl
      from (Some n) = refl

  -- The newest object of a node lies in the same slot.
  end-alike : (label : ℕ) → end_slot other label ≡ end_slot one label
  end-alike label = ap (option_and_then (λ (place : NodePlace). other.spots place.0)) (alike.nodes label) ∙ from (one.nodes label)
    where
      -- by cases on what the label stands for
      from : (o : Option NodePlace) → option_and_then (λ (place : NodePlace). other.spots place.0) (option_map (place_renamed to id) o)
          ≡ option_and_then (λ (place : NodePlace). one.spots place.0) o
      from None = refl
      from (Some p) = alike.spots p.0

  -- And so does the first handle of a buffer.
  handle-alike : (strength : Strength) (label index : ℕ) →
      handle_slot other strength label index ≡ handle_slot one strength label index
  handle-alike strength label index =
      ap (option_and_then (λ (place : NodePlace). slice_get (other.handles strength (record { collection = place.1; index = index })) 0))
      (alike.nodes label)
      ∙ from (one.nodes label)
    where
      -- by cases on what the label stands for
      from : (o : Option NodePlace) →
          option_and_then (λ (place : NodePlace). slice_get (other.handles strength (record { collection = place.1; index = index })) 0)
          (option_map (place_renamed to id) o)
          ≡ option_and_then (λ (place : NodePlace). slice_get (one.handles strength (record { collection = place.1; index = index })) 0) o
      from None = refl
      from (Some p) = ap (λ (slots : List ℕ). slice_get slots 0) (alike.handles strength (record { collection = p.1; index = index }))

  -- The call on what lies in a slot.
  slot-alike : (clients : List ℕ) (r : Request ℕ StepBuffer) (slot : ℕ) →
      slot_call other.objects (call_on clients r) slot ≡ option_map (asked_renamed to id) (slot_call one.objects (call_on clients r) slot)
  slot-alike clients r slot =
      ap (option_and_then (λ (object : ActorObject). option_map (λ (c : Call). record { call = c; slot = Some slot })
      (call_on clients r object))) (object-alike slot)
      ∙ from (object_at one.objects slot)
    where
      -- by cases on the call
      asks : (o : Option Call) → option_map (λ (c : Call). record { call = c; slot = Some slot }) (option_map (call_renamed to id) o)
          ≡ option_map (asked_renamed to id) (option_map (λ (c : Call). record { call = c; slot = Some slot }) o)
      asks None = refl
      asks (Some c) = refl

      -- by cases on what lies there
      from : (o : Option ActorObject) →
          option_and_then (λ (object : ActorObject). option_map (λ (c : Call). record { call = c; slot = Some slot })
          (call_on clients r object)) (option_map (object_renamed to id) o)
          ≡ option_map (asked_renamed to id) (option_and_then
          (λ (object : ActorObject). option_map (λ (c : Call). record { call = c; slot = Some slot }) (call_on clients r object)) o)
      from None = refl
      from (Some object) =
          ap (option_map (λ (c : Call). record { call = c; slot = Some slot })) (on-renamed to id clients r object)
          ∙ asks (call_on clients r object)

  -- The call on what lies in the slot that is found.
  found-alike : (clients : List ℕ) (r : Request ℕ StepBuffer) (o p : Option ℕ) → p ≡ o →
      option_and_then (slot_call other.objects (call_on clients r)) p
      ≡ option_map (asked_renamed to id) (option_and_then (slot_call one.objects (call_on clients r)) o)
  found-alike clients r o p same = ap (option_and_then (slot_call other.objects (call_on clients r))) same ∙ from o
    where
      -- by cases on the slot
      from : (q : Option ℕ) → option_and_then (slot_call other.objects (call_on clients r)) q
          ≡ option_map (asked_renamed to id) (option_and_then (slot_call one.objects (call_on clients r)) q)
      from None = refl
      from (Some slot) = slot-alike clients r slot

  -- By what the call is made on.
  for-alike : (clients : List ℕ) (r : Request ℕ StepBuffer) (on : Named ℕ StepBuffer) →
      call_for clients other r on ≡ option_map (asked_renamed to id) (call_for clients one r on)
  for-alike clients r Named.Nothing =
      ap (option_map (λ (c : Call). record { call = c; slot = None })) (bare-renamed to id clients r) ∙ from (bare_call clients r)
    where
      -- by cases on the call
      from : (o : Option Call) → option_map (λ (c : Call). record { call = c; slot = None }) (option_map (call_renamed to id) o)
          ≡ option_map (asked_renamed to id) (option_map (λ (c : Call). record { call = c; slot = None }) o)
      from None = refl
      from (Some c) = refl
  for-alike clients r (Named.Node node) = found-alike clients r (end_slot one node) (end_slot other node) (end-alike node)
  for-alike clients r (Named.Buffer buffer) =
      found-alike clients r (handle_slot one (asked_strength r.argument) buffer.node buffer.index)
      (handle_slot other (asked_strength r.argument) buffer.node buffer.index)
      (handle-alike (asked_strength r.argument) buffer.node buffer.index)

  -- By the step.
  at-alike : (clients : List ℕ) (step : Step) →
      call_at clients other step ≡ option_map (asked_renamed to id) (call_at clients one step)
  at-alike clients (Step.Ask r) = for-alike clients r r.object
  at-alike clients (Step.Poll tracker) = refl

  -- The step asks for the same, under new names.
  pub asks-alike : (clients : List ℕ) (step : Step) →
      step_call clients other step ≡ option_map (asked_renamed to id) (step_call clients one step)
  asks-alike clients step =
      (λ i. cond (nodes-bound (node_label step) i) None (cond (trackers-bound (tracker_label step) i) None (at-alike clients step i)))
      ∙ from (is_bound one.nodes (node_label step)) (is_bound one.trackers (tracker_label step))
    where
      -- by cases: a label stands for something already, or the call is made
      from : (a b : Bool) → cond a None (cond b None (option_map (asked_renamed to id) (call_at clients one step)))
          ≡ option_map (asked_renamed to id) (cond a None (cond b None (call_at clients one step)))
      from true b = refl
      from false true = refl
      from false false = refl
