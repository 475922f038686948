-- What an actor knows by the replies that it got, and the calls that its steps make.
use Rattle.std.specs.Prelude.{ℕ, zero, suc, ◌+◌, Bool, true, false, ◌==◌, if◌then◌else◌, List, [], ◌∷◌, ◌++◌, length, drop, set, slice_get, Option, Some, None, is_some, ⊤, ◌≡◌, map}
use Rattle.std.specs.Int.{bit_at}
use Rattle.std.specs.Option.{option_and_then, option_map}
use Rattle.sm_names.specs.declared.rules.TheConstants.{MAX_BUFFERS}
use Rattle.sm_names.specs.declared.call_parts.Argument.{Argument}
use Rattle.sm_names.specs.declared.call_parts.Object.{Object as Named}
use Rattle.sm_names.specs.declared.call_parts.Product.{Product}
use Rattle.sm_names.specs.declared.call_parts.Spends.{Spends}
use Rattle.sm_names.specs.declared.call_parts.Target.{Target}
use Rattle.sm_names.specs.declared.keys.BufferName.{BufferName}
use Rattle.sm_names.specs.declared.keys.Kind.{Kind}
use Rattle.sm_names.specs.declared.keys.NodeKey.{NodeKey}
use Rattle.sm_names.specs.declared.keys.Strength.{Strength}
use Rattle.sm_names.specs.declared.messages.Call.{Call}
use Rattle.sm_names.specs.declared.messages.Reply.{Reply}
use Rattle.sm_names.specs.CallRows.{brings_end, call_of, is_tracker, parts, parts_of, row_for, row_of}
use Rattle.sm_names.specs.Sameness.{same_buffer, same_key}
use Rattle.script_lines.specs.declared.line.Request.{Request}
use Rattle.actor_scripts.specs.declared.step.Step.{Step}
use Rattle.actor_scripts.specs.declared.step.StepBuffer.{StepBuffer}
use Rattle.actor_scripts.specs.declared.object.StepCall.{StepCall}
use Rattle.actor_scripts.specs.declared.object.ActorObject.{ActorObject}

-- a node and its collection
abbrev pub NodePlace : Type 0
NodePlace = NodeKey × ℕ

-- what an actor knows: the nodes and trackers that its labels stand for; all objects that replies gave it, each in a
-- slot of its own, in the order in which they came, without those that are gone; the slot in which the newest object
-- of each node lies or lay; and the slots of its handles of each strength and buffer, first come first
pub record Known : Type 0 where
  pub nodes : ℕ → Option NodePlace
  pub trackers : ℕ → Option ℕ
  pub objects : List (Option ActorObject)
  pub spots : NodeKey → Option ℕ
  pub handles : Strength → BufferName → List ℕ

-- at first it knows nothing
abbrev pub nothing_known : Known
nothing_known = record {
  nodes = λ label. None;
  trackers = λ label. None;
  objects = [];
  spots = λ key. None;
  handles = λ strength buffer. [];
}

-- ---- what steps ask for

-- what lies in a slot
abbrev pub object_at : List (Option ActorObject) → ℕ → Option ActorObject
object_at objects slot = option_and_then (λ (t : Option ActorObject). t) (slice_get objects slot)

-- what a call is made on
abbrev pub on_of : List (Option ActorObject) → Option ℕ → Option ActorObject
on_of objects None = None
on_of objects (Some slot) = object_at objects slot

-- what else a call says, by clients: a label of a client is its place among all
abbrev pub argument_at : List ℕ → Argument ℕ → Option (Argument ℕ)
argument_at clients Argument.Nothing = Some Argument.Nothing
argument_at clients (Argument.Client to) = option_map Argument.Client (slice_get clients to)
argument_at clients (Argument.Children children) = Some (Argument.Children children)
argument_at clients (Argument.Constraints constraints) = Some (Argument.Constraints constraints)
argument_at clients (Argument.Most most) = Some (Argument.Most most)
argument_at clients (Argument.Strength strength) = Some (Argument.Strength strength)
argument_at clients (Argument.Gift strength to) = option_map (Argument.Gift strength) (slice_get clients to)

-- the strength that is said, as that of the handle
abbrev pub with_strength : Strength → Argument ℕ → Argument ℕ
with_strength held (Argument.Strength strength) = Argument.Strength held
with_strength held (Argument.Gift strength to) = Argument.Gift held to
with_strength held argument = argument

-- what is said of the object: a handle has its own strength
abbrev pub argument_held : ActorObject → Argument ℕ → Argument ℕ
argument_held (ActorObject.Handle buffer held) argument = with_strength held argument
argument_held _ argument = argument

-- the object for a call that is made on such objects
abbrev pub target_of : Target → ActorObject → Option (Named NodeKey BufferName)
target_of Target.Token (ActorObject.Token key collection) = Some (Named.Node key)
target_of Target.End (ActorObject.Token key collection) = Some (Named.Node key)
target_of Target.Collection (ActorObject.Collection key collection) = Some (Named.Node key)
target_of Target.End (ActorObject.Collection key collection) = Some (Named.Node key)
target_of Target.Handle (ActorObject.Handle buffer strength) = Some (Named.Buffer buffer)
target_of _ _ = None

-- the call that is asked for on the object, whatever labels it binds
abbrev pub call_on : List ℕ → Request ℕ StepBuffer → ActorObject → Option Call
call_on clients r object = option_and_then
    (λ target. option_and_then (λ argument. call_of (parts r.kind target (argument_held object argument)))
    (argument_at clients r.argument))
    (target_of (row_of r.kind).on object)

-- a client is made
abbrev pub is_join : Product → Bool
is_join Product.Client = true
is_join _ = false

-- the call that is asked for on nothing: no actor joins
abbrev pub bare_call : List ℕ → Request ℕ StepBuffer → Option Call
bare_call clients r =
    let call : Option Call = option_and_then (λ argument. call_of (parts r.kind Named.Nothing argument)) (argument_at clients r.argument) in
    if is_join (row_of r.kind).brings then None else call

-- the strength of the handle that is asked for: the call says so, or it is made on weak ones
abbrev pub asked_strength : Argument ℕ → Strength
asked_strength (Argument.Strength strength) = strength
asked_strength (Argument.Gift strength to) = strength
asked_strength _ = Strength.Weak

-- the label that the step binds to a node
abbrev pub node_label : Step → Option ℕ
node_label (Step.Ask r) = if brings_end (row_of r.kind).brings then r.binds else None
node_label (Step.Poll tracker) = None

-- the label that it binds to a tracker
abbrev pub tracker_label : Step → Option ℕ
tracker_label (Step.Ask r) = if is_tracker (row_of r.kind).brings then r.binds else None
tracker_label (Step.Poll tracker) = None

-- a label stands for something already
abbrev pub is_bound : {A : Type 0} → (ℕ → Option A) → Option ℕ → Bool
is_bound labels None = false
is_bound labels (Some label) = is_some (labels label)

-- the slot of the newest object of the node of this label
abbrev pub end_slot : Known → ℕ → Option ℕ
end_slot state label = option_and_then (λ (place : NodePlace). state.spots place.0) (state.nodes label)

-- the slot of the first handle of this strength and index in the collection of the node of this label
abbrev pub handle_slot : Known → Strength → ℕ → ℕ → Option ℕ
handle_slot state strength label index =
    option_and_then (λ (place : NodePlace). slice_get (state.handles strength (record { collection = place.1; index = index })) 0)
    (state.nodes label)

-- the call that is made on what lies in the slot
abbrev pub slot_call : List (Option ActorObject) → (ActorObject → Option Call) → ℕ → Option StepCall
slot_call objects call slot =
    option_and_then (λ (object : ActorObject). option_map (λ (c : Call). record { call = c; slot = Some slot }) (call object))
    (object_at objects slot)

-- the call that is asked for, by what it is to be made on
abbrev pub call_for : List ℕ → Known → Request ℕ StepBuffer → Named ℕ StepBuffer → Option StepCall
call_for clients state r Named.Nothing =
    option_map (λ (c : Call). record { call = c; slot = None }) (bare_call clients r)
call_for clients state r (Named.Node node) =
    option_and_then (slot_call state.objects (call_on clients r)) (end_slot state node)
call_for clients state r (Named.Buffer buffer) =
    option_and_then (slot_call state.objects (call_on clients r))
    (handle_slot state (asked_strength r.argument) buffer.node buffer.index)

-- the call of the step, whatever label it binds
abbrev pub call_at : List ℕ → Known → Step → Option StepCall
call_at clients state (Step.Ask r) = call_for clients state r r.object
call_at clients state (Step.Poll tracker) = None

-- the call that the step makes, or none where it is skipped: a label that it uses stands for nothing or for nothing of
-- the kind, or one that it binds stands for something already
abbrev pub step_call : List ℕ → Known → Step → Option StepCall
step_call clients state step =
    if is_bound state.nodes (node_label step) then None
    else if is_bound state.trackers (tracker_label step) then None else call_at clients state step

-- ---- what replies change

-- the label stands for this from now on
abbrev pub with_label : {A : Type 0} → (ℕ → Option A) → ℕ → A → ℕ → Option A
with_label labels label value other = if label == other then Some value else labels other

-- the newest object of the node lies in this slot
abbrev pub with_spot : (NodeKey → Option ℕ) → NodeKey → ℕ → NodeKey → Option ℕ
with_spot spots key slot other = if same_key key other then Some slot else spots other

-- one more handle of the buffer, in this slot
abbrev pub with_slot_last : (BufferName → List ℕ) → BufferName → ℕ → BufferName → List ℕ
with_slot_last queues buffer slot other = if same_buffer buffer other then queues buffer ++ slot ∷ [] else queues other

-- the first handle of the buffer is gone
abbrev pub with_first_gone : (BufferName → List ℕ) → BufferName → BufferName → List ℕ
with_first_gone queues buffer other = if same_buffer buffer other then drop 1 (queues buffer) else queues other

-- the queues of one strength are these
abbrev pub with_queues : (Strength → BufferName → List ℕ) → Strength → (BufferName → List ℕ) → Strength → BufferName → List ℕ
with_queues handles Strength.Strong queues Strength.Strong = queues
with_queues handles Strength.Strong queues Strength.Weak = handles Strength.Weak
with_queues handles Strength.Weak queues Strength.Strong = handles Strength.Strong
with_queues handles Strength.Weak queues Strength.Weak = queues

-- one more object: it lies in the next slot
abbrev pub with_object : Known → ActorObject → Known
with_object state (ActorObject.Token key collection) = record state {
  objects = state.objects ++ Some (ActorObject.Token key collection) ∷ [];
  spots = with_spot state.spots key (length state.objects);
}
with_object state (ActorObject.Collection key collection) = record state {
  objects = state.objects ++ Some (ActorObject.Collection key collection) ∷ [];
  spots = with_spot state.spots key (length state.objects);
}
with_object state (ActorObject.Handle buffer strength) = record state {
  objects = state.objects ++ Some (ActorObject.Handle buffer strength) ∷ [];
  handles = with_queues state.handles strength (with_slot_last (state.handles strength) buffer (length state.objects));
}

-- more objects, one after another
abbrev pub with_objects : Known → List ActorObject → Known
with_objects state [] = state
with_objects state (object ∷ objects) = with_objects (with_object state object) objects

-- a call that spends so, answered so, spends what it is made on
abbrev pub spends_by : Spends → Reply → Bool
spends_by Spends.IfDone Reply.Done = true
spends_by Spends.IfMet Reply.Done = true
spends_by Spends.IfMet (Reply.PeerClosed cause origin) = true
spends_by _ _ = false

-- the call was answered so that the object on which it was made is gone
abbrev pub spends_object : Call → Reply → Bool
spends_object call reply = spends_by (row_for call).spends reply

-- the handle that the call lets go
abbrev pub handle_of : Call → Option (BufferName × Strength)
handle_of (Call.DropHandle buffer strength) = Some (buffer, strength)
handle_of (Call.GiveHandle buffer strength to) = Some (buffer, strength)
handle_of _ = None

-- nothing lies in the slot any more
abbrev pub emptied : List (Option ActorObject) → Option ℕ → List (Option ActorObject)
emptied objects None = objects
emptied objects (Some slot) = set objects slot None

-- the object in it is gone
abbrev pub without_object : Known → Option ℕ → Known
without_object state slot = record state { objects = emptied state.objects slot }

-- the first handle of this name is gone
abbrev pub without_handle : Known → Option (BufferName × Strength) → Known
without_handle state None = state
without_handle state (Some name) = record state {
  handles = with_queues state.handles name.1 (with_first_gone (state.handles name.1) name.0);
}

-- handles of this many buffers of a set, from this index on: bit i stands for buffer i
unfoldable pub handles_from : ℕ → Strength → ℕ → ℕ → ℕ → List ActorObject
handles_from collection strength set index zero = []
handles_from collection strength set index (suc count) =
    let more = handles_from collection strength set (index + 1) count in
    if bit_at set index == 1 then ActorObject.Handle (record { collection = collection; index = index }) strength ∷ more else more

-- handles of all of them, by rising index
abbrev pub handles_of_set : ℕ → Strength → ℕ → List ActorObject
handles_of_set collection strength set = handles_from collection strength set 0 MAX_BUFFERS

-- an end of this kind
abbrev pub end_object : Kind → NodeKey → ℕ → ActorObject
end_object Kind.Token key collection = ActorObject.Token key collection
end_object Kind.Collection key collection = ActorObject.Collection key collection

-- a token that was bound
abbrev pub bound : Option ActorObject → List ActorObject
bound (Some (ActorObject.Token key collection)) = ActorObject.Collection key collection ∷ []
bound _ = []

-- the objects that the reply gives; `on` is what the call was made on
abbrev pub new_objects : Option ActorObject → Call → Reply → List ActorObject
new_objects on Call.OpenRoot (Reply.Token key collection) = ActorObject.Token key collection ∷ []
new_objects on (Call.Duplicate parent) (Reply.Token key collection) = ActorObject.Token key collection ∷ []
new_objects on (Call.AttachToken parent) (Reply.Token key collection) = ActorObject.Token key collection ∷ []
new_objects on Call.Collect (Reply.Collected key kind collection) = end_object kind key collection ∷ []
new_objects on Call.Collect (Reply.CollectedHandle buffer strength) = ActorObject.Handle buffer strength ∷ []
new_objects on (Call.Take key) (Reply.Taken collection strength set) = handles_of_set collection strength set
new_objects on (Call.DupHandle buffer strength) Reply.Done = ActorObject.Handle buffer strength ∷ []
new_objects on (Call.Bind key) Reply.Done = bound on
new_objects on _ _ = []

-- the node that the reply tells of
abbrev pub new_place : Reply → Option NodePlace
new_place (Reply.Token key collection) = Some (key, collection)
new_place (Reply.Collected key kind collection) = Some (key, collection)
new_place _ = None

-- the tracker that it tells of
abbrev pub new_tracker : Reply → Option ℕ
new_tracker (Reply.Tracker id) = Some id
new_tracker _ = None

-- the label, if the step binds one, stands for this, if the reply tells of one
abbrev pub with_new : {A : Type 0} → (ℕ → Option A) → Option ℕ → Option A → ℕ → Option A
with_new labels (Some label) (Some value) = with_label labels label value
with_new labels _ _ = labels

-- the step's label of a node after the reply
abbrev pub with_node_label : Known → Step → Reply → Known
with_node_label state step reply = record state { nodes = with_new state.nodes (node_label step) (new_place reply) }

-- its label of a tracker
abbrev pub with_tracker_label : Known → Step → Reply → Known
with_tracker_label state step reply = record state { trackers = with_new state.trackers (tracker_label step) (new_tracker reply) }

-- the object is gone, if the reply says so
abbrev pub without_spent : Known → StepCall → Reply → Known
without_spent state asked reply =
    if spends_object asked.call reply then without_handle (without_object state asked.slot) (handle_of asked.call) else state

-- what the actor knows after the reply
abbrev pub state_after : Known → Step → StepCall → Reply → Known
state_after state step asked reply =
    with_objects (without_spent (with_tracker_label (with_node_label state step reply) step reply) asked reply)
    (new_objects (on_of state.objects asked.slot) asked.call reply)

-- its objects alone
abbrev pub objects_after : List (Option ActorObject) → StepCall → Reply → List (Option ActorObject)
objects_after objects asked reply =
    (if spends_object asked.call reply then emptied objects asked.slot else objects)
    ++ map Some (new_objects (on_of objects asked.slot) asked.call reply)

-- ---- which calls can be made on what

-- the call names this node
abbrev pub NamesNode : NodeKey → Named NodeKey BufferName → Type 0
NamesNode key (Named.Node other) = other ≡ key
NamesNode key _ = ⊥

-- calls on such ends that name this node
abbrev pub FitsAnyEnd : NodeKey → Target → Named NodeKey BufferName → Type 0
FitsAnyEnd key Target.End object = NamesNode key object
FitsAnyEnd key _ object = ⊥

-- calls on a token, or on an end of any kind, that name this node
abbrev pub FitsAToken : NodeKey → Target → Named NodeKey BufferName → Type 0
FitsAToken key Target.Token object = NamesNode key object
FitsAToken key on object = FitsAnyEnd key on object

-- calls on a collection, or on an end of any kind, that name this node
abbrev pub FitsACollection : NodeKey → Target → Named NodeKey BufferName → Type 0
FitsACollection key Target.Collection object = NamesNode key object
FitsACollection key on object = FitsAnyEnd key on object

-- an end of this node takes the call
abbrev pub FitsEnd : NodeKey → Call → Type 0
FitsEnd key call = FitsAnyEnd key (row_for call).on (parts_of call).object

-- a token of it does
abbrev pub FitsToken : NodeKey → Call → Type 0
FitsToken key call = FitsAToken key (row_for call).on (parts_of call).object

-- a collection of it does
abbrev pub FitsCollection : NodeKey → Call → Type 0
FitsCollection key call = FitsACollection key (row_for call).on (parts_of call).object

-- the call names this buffer, and this strength if it says one
abbrev pub NamesHandle : BufferName → Strength → Named NodeKey BufferName → Argument ℕ → Type 0
NamesHandle buffer strength (Named.Buffer other) (Argument.Strength held) = (other ≡ buffer) × (held ≡ strength)
NamesHandle buffer strength (Named.Buffer other) (Argument.Gift held to) = (other ≡ buffer) × (held ≡ strength)
NamesHandle buffer strength (Named.Buffer other) _ = other ≡ buffer
NamesHandle buffer strength _ _ = ⊥

-- a handle of this name takes the call
abbrev pub FitsHandle : BufferName → Strength → Call → Type 0
FitsHandle buffer strength call = NamesHandle buffer strength (parts_of call).object (parts_of call).argument

-- the object does
abbrev pub FitsObject : ActorObject → Call → Type 0
FitsObject (ActorObject.Token key collection) call = FitsToken key call
FitsObject (ActorObject.Collection key collection) call = FitsCollection key call
FitsObject (ActorObject.Handle buffer strength) call = FitsHandle buffer strength call

-- a call on nothing, which makes no client
abbrev pub NamesNothing : Product → Named NodeKey BufferName → Type 0
NamesNothing Product.Client object = ⊥
NamesNothing product Named.Nothing = ⊤
NamesNothing product _ = ⊥

-- the call is made on nothing, and it is no join
abbrev pub FitsNone : Call → Type 0
FitsNone call = NamesNothing (row_for call).brings (parts_of call).object

-- something lies there that takes the call
abbrev pub FitsThere : Option ActorObject → Call → Type 0
FitsThere None call = ⊥
FitsThere (Some object) call = FitsObject object call

-- what lies in the slot takes the call, and where no slot is told it is made on nothing
abbrev pub Fits : List (Option ActorObject) → Option ℕ → Call → Type 0
Fits objects None call = FitsNone call
Fits objects (Some slot) call = FitsThere (object_at objects slot) call
