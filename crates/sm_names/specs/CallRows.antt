-- Each call taken apart, and the table of what is true of each kind of call: `row_of` and
-- `word_of`.
use Rattle.std.specs.Prelude.{ℕ, ◌≡◌, Bool, true, false, List, codes, slice_get, Option, Some, None}
use Rattle.std.specs.List.{position}
use Rattle.std.specs.Option.{option_and_then, option_map}
use Rattle.std.specs.Str.{bytes_eq}
use Rattle.sm_names.specs.declared.call_parts.Answer.{Answer}
use Rattle.sm_names.specs.declared.call_parts.Argument.{Argument}
use Rattle.sm_names.specs.declared.call_parts.ArgumentForm.{ArgumentForm}
use Rattle.sm_names.specs.declared.call_rows.CallKind.{CallKind}
use Rattle.sm_names.specs.declared.call_parts.CallParts.{CallParts}
use Rattle.sm_names.specs.declared.call_parts.CallRow.{CallRow}
use Rattle.sm_names.specs.declared.call_parts.Object.{Object}
use Rattle.sm_names.specs.declared.call_parts.Product.{Product}
use Rattle.sm_names.specs.declared.call_parts.Spends.{Spends}
use Rattle.sm_names.specs.declared.call_parts.Target.{Target}
use Rattle.sm_names.specs.declared.call_rows.TheConstants.{KINDS}
use Rattle.sm_names.specs.declared.keys.BufferName.{BufferName}
use Rattle.sm_names.specs.declared.keys.Kind.{Kind}
use Rattle.sm_names.specs.declared.keys.NodeKey.{NodeKey}
use Rattle.sm_names.specs.declared.keys.Strength.{Strength}
use Rattle.sm_names.specs.declared.messages.Call.{Call}
use Rattle.sm_names.specs.Demands.{Demand}
use Rattle.sm_names.specs.Answers.{acquires, kind_for, makes_collection, makes_node, makes_tracker, receiver_of}
use Rattle.sm_names.specs.Timelines.{buffer_of, key_of}

-- these parts
abbrev pub parts : CallKind → Object NodeKey BufferName → Argument ℕ → CallParts
parts kind object argument = record { kind = kind; object = object; argument = argument }

-- the call, taken apart
abbrev pub parts_of : Call → CallParts
parts_of Call.Join = parts CallKind.Join Object.Nothing Argument.Nothing
parts_of Call.Shut = parts CallKind.Shut Object.Nothing Argument.Nothing
parts_of Call.OpenRoot = parts CallKind.OpenRoot Object.Nothing Argument.Nothing
parts_of (Call.Duplicate key) = parts CallKind.Duplicate (Object.Node key) Argument.Nothing
parts_of (Call.AttachToken key) = parts CallKind.AttachToken (Object.Node key) Argument.Nothing
parts_of (Call.Sync key) = parts CallKind.Sync (Object.Node key) Argument.Nothing
parts_of (Call.Give key to) = parts CallKind.Give (Object.Node key) (Argument.Client to)
parts_of Call.Collect = parts CallKind.Collect Object.Nothing Argument.Nothing
parts_of (Call.Bind key) = parts CallKind.Bind (Object.Node key) Argument.Nothing
parts_of (Call.SetDispensable key) =
    parts CallKind.SetDispensable (Object.Node key) Argument.Nothing
parts_of (Call.SetWeak key) = parts CallKind.SetWeak (Object.Node key) Argument.Nothing
parts_of (Call.SetWeakOk key children) =
    parts CallKind.SetWeakOk (Object.Node key) (Argument.Children children)
parts_of (Call.SetConstraints key constraints) =
    parts CallKind.SetConstraints (Object.Node key) (Argument.Constraints constraints)
parts_of (Call.Check key) = parts CallKind.Check (Object.Node key) Argument.Nothing
parts_of (Call.Take key) = parts CallKind.Take (Object.Node key) Argument.Nothing
parts_of (Call.Release key) = parts CallKind.Release (Object.Node key) Argument.Nothing
parts_of (Call.Close key) = parts CallKind.Close (Object.Node key) Argument.Nothing
parts_of (Call.DupHandle buffer strength) =
    parts CallKind.DupHandle (Object.Buffer buffer) (Argument.Strength strength)
parts_of (Call.DropHandle buffer strength) =
    parts CallKind.DropHandle (Object.Buffer buffer) (Argument.Strength strength)
parts_of (Call.GiveHandle buffer strength to) =
    parts CallKind.GiveHandle (Object.Buffer buffer) (Argument.Gift strength to)
parts_of (Call.TrackNode key) = parts CallKind.TrackNode (Object.Node key) Argument.Nothing
parts_of (Call.TrackLifetime key most) =
    parts CallKind.TrackLifetime (Object.Node key) (Argument.Most most)
parts_of (Call.TrackWeak buffer) = parts CallKind.TrackWeak (Object.Buffer buffer) Argument.Nothing

-- this call, if there is neither an object nor an argument
abbrev pub only : Object NodeKey BufferName → Argument ℕ → Call → Option Call
only Object.Nothing Argument.Nothing call = Some call
only _ _ call = None

-- the node that is named
abbrev pub object_key : {N B : Type 0} → Object N B → Option N
object_key (Object.Node key) = Some key
object_key _ = None

-- the buffer that is named
abbrev pub object_buffer : {N B : Type 0} → Object N B → Option B
object_buffer (Object.Buffer buffer) = Some buffer
object_buffer _ = None

-- the node, if there is no argument
abbrev pub plain_key : Object NodeKey BufferName → Argument ℕ → Option NodeKey
plain_key object Argument.Nothing = object_key object
plain_key object _ = None

-- the buffer, if there is no argument
abbrev pub plain_buffer : Object NodeKey BufferName → Argument ℕ → Option BufferName
plain_buffer object Argument.Nothing = object_buffer object
plain_buffer object _ = None

-- the client alone, if the argument says so
abbrev pub client_in : Argument ℕ → Option ℕ
client_in (Argument.Client to) = Some to
client_in _ = None

-- whether children too are meant, if the argument says so
abbrev pub children_in : Argument ℕ → Option Bool
children_in (Argument.Children children) = Some children
children_in _ = None

-- the constraints, if the argument has some
abbrev pub constraints_in : Argument ℕ → Option Demand
constraints_in (Argument.Constraints constraints) = Some constraints
constraints_in _ = None

-- the number of buffers, if the argument has one
abbrev pub most_in : Argument ℕ → Option ℕ
most_in (Argument.Most most) = Some most
most_in _ = None

-- the strength alone, if the argument says so
abbrev pub strength_in : Argument ℕ → Option Strength
strength_in (Argument.Strength strength) = Some strength
strength_in _ = None

-- the strength with the client, if the argument says both
abbrev pub gift_in : Argument ℕ → Option (Strength × ℕ)
gift_in (Argument.Gift strength to) = Some (strength, to)
gift_in _ = None

-- the call of this kind on this object with this argument, if there is one
abbrev pub call_made : CallKind → Object NodeKey BufferName → Argument ℕ → Option Call
call_made CallKind.Join object argument = only object argument Call.Join
call_made CallKind.Shut object argument = only object argument Call.Shut
call_made CallKind.OpenRoot object argument = only object argument Call.OpenRoot
call_made CallKind.Duplicate object argument = option_map Call.Duplicate (plain_key object argument)
call_made CallKind.AttachToken object argument =
    option_map Call.AttachToken (plain_key object argument)
call_made CallKind.Sync object argument = option_map Call.Sync (plain_key object argument)
call_made CallKind.Give object argument =
    option_and_then (λ key. option_map (Call.Give key) (client_in argument)) (object_key object)
call_made CallKind.Collect object argument = only object argument Call.Collect
call_made CallKind.Bind object argument = option_map Call.Bind (plain_key object argument)
call_made CallKind.SetDispensable object argument =
    option_map Call.SetDispensable (plain_key object argument)
call_made CallKind.SetWeak object argument = option_map Call.SetWeak (plain_key object argument)
call_made CallKind.SetWeakOk object argument =
    option_and_then (λ key. option_map (Call.SetWeakOk key) (children_in argument))
    (object_key object)
call_made CallKind.SetConstraints object argument =
    option_and_then (λ key. option_map (Call.SetConstraints key) (constraints_in argument))
    (object_key object)
call_made CallKind.Check object argument = option_map Call.Check (plain_key object argument)
call_made CallKind.Take object argument = option_map Call.Take (plain_key object argument)
call_made CallKind.Release object argument = option_map Call.Release (plain_key object argument)
call_made CallKind.Close object argument = option_map Call.Close (plain_key object argument)
call_made CallKind.DupHandle object argument =
    option_and_then (λ buffer. option_map (Call.DupHandle buffer) (strength_in argument))
    (object_buffer object)
call_made CallKind.DropHandle object argument =
    option_and_then (λ buffer. option_map (Call.DropHandle buffer) (strength_in argument))
    (object_buffer object)
call_made CallKind.GiveHandle object argument =
    option_and_then
    (λ buffer. option_map (λ (g : Strength × ℕ). Call.GiveHandle buffer g.0 g.1) (gift_in argument))
    (object_buffer object)
call_made CallKind.TrackNode object argument = option_map Call.TrackNode (plain_key object argument)
call_made CallKind.TrackLifetime object argument =
    option_and_then (λ key. option_map (Call.TrackLifetime key) (most_in argument))
    (object_key object)
call_made CallKind.TrackWeak object argument =
    option_map Call.TrackWeak (plain_buffer object argument)

-- the call of these parts
abbrev pub call_of : CallParts → Option Call
call_of p = call_made p.kind p.object p.argument

-- this row
abbrev pub row : Target → ArgumentForm → Product → Spends → Answer → CallRow
row on says brings spends answers =
    record { on = on; says = says; brings = brings; spends = spends; answers = answers }

-- the table: what calls of the kind are made on, what they say, what they bring, when they spend
-- what they are made on, and what they are answered if they take effect
abbrev pub row_of : CallKind → CallRow
row_of CallKind.Join =
    row Target.Nothing ArgumentForm.Nothing Product.Client Spends.Never Answer.Joined
row_of CallKind.Shut =
    row Target.Nothing ArgumentForm.Nothing Product.Nothing Spends.Never Answer.Shut
row_of CallKind.OpenRoot =
    row Target.Nothing ArgumentForm.Nothing Product.Collection Spends.Never Answer.Token
row_of CallKind.Duplicate =
    row Target.Token ArgumentForm.Nothing Product.Node Spends.Never Answer.Token
row_of CallKind.AttachToken =
    row Target.Collection ArgumentForm.Nothing Product.Node Spends.Never Answer.Token
row_of CallKind.Sync =
    row Target.End ArgumentForm.Nothing Product.Nothing Spends.Never Answer.Done
row_of CallKind.Give =
    row Target.End ArgumentForm.Client Product.Nothing Spends.IfDone Answer.Done
row_of CallKind.Collect =
    row Target.Nothing ArgumentForm.Nothing Product.Parcel Spends.Never Answer.Parcel
row_of CallKind.Bind =
    row Target.Token ArgumentForm.Nothing Product.Nothing Spends.IfDone Answer.Done
row_of CallKind.SetDispensable =
    row Target.Token ArgumentForm.Nothing Product.Nothing Spends.Never Answer.Done
row_of CallKind.SetWeak =
    row Target.End ArgumentForm.Nothing Product.Nothing Spends.Never Answer.Done
row_of CallKind.SetWeakOk =
    row Target.End ArgumentForm.Children Product.Nothing Spends.Never Answer.Done
row_of CallKind.SetConstraints =
    row Target.Collection ArgumentForm.Constraints Product.Nothing Spends.Never Answer.Done
row_of CallKind.Check =
    row Target.Collection ArgumentForm.Nothing Product.Nothing Spends.Never Answer.Allocated
row_of CallKind.Take =
    row Target.Collection ArgumentForm.Nothing Product.Handles Spends.Never Answer.Taken
row_of CallKind.Release =
    row Target.End ArgumentForm.Nothing Product.Nothing Spends.IfMet Answer.Done
row_of CallKind.Close =
    row Target.End ArgumentForm.Nothing Product.Nothing Spends.IfDone Answer.Done
row_of CallKind.DupHandle =
    row Target.Handle ArgumentForm.Strength Product.Handles Spends.Never Answer.Done
row_of CallKind.DropHandle =
    row Target.Handle ArgumentForm.Strength Product.Nothing Spends.IfDone Answer.Done
row_of CallKind.GiveHandle =
    row Target.Handle ArgumentForm.Gift Product.Nothing Spends.IfDone Answer.Done
row_of CallKind.TrackNode =
    row Target.End ArgumentForm.Nothing Product.Tracker Spends.Never Answer.Tracker
row_of CallKind.TrackLifetime =
    row Target.Collection ArgumentForm.Most Product.Tracker Spends.Never Answer.Tracker
row_of CallKind.TrackWeak =
    row Target.Handle ArgumentForm.Nothing Product.Tracker Spends.Never Answer.Tracker

-- the word for calls of the kind in a script
abbrev pub word_of : CallKind → List ℕ
word_of CallKind.Join = codes "join"
word_of CallKind.Shut = codes "shut"
word_of CallKind.OpenRoot = codes "open"
word_of CallKind.Duplicate = codes "dup"
word_of CallKind.AttachToken = codes "attach"
word_of CallKind.Sync = codes "sync"
word_of CallKind.Give = codes "give"
word_of CallKind.Collect = codes "collect"
word_of CallKind.Bind = codes "bind"
word_of CallKind.SetDispensable = codes "dispensable"
word_of CallKind.SetWeak = codes "weak"
word_of CallKind.SetWeakOk = codes "weakok"
word_of CallKind.SetConstraints = codes "constrain"
word_of CallKind.Check = codes "check"
word_of CallKind.Take = codes "take"
word_of CallKind.Release = codes "release"
word_of CallKind.Close = codes "close"
word_of CallKind.DupHandle = codes "duph"
word_of CallKind.DropHandle = codes "droph"
word_of CallKind.GiveHandle = codes "giveh"
word_of CallKind.TrackNode = codes "tracknode"
word_of CallKind.TrackLifetime = codes "tracklife"
word_of CallKind.TrackWeak = codes "trackweak"

-- the kind of this number
abbrev pub kind_at : ℕ → Option CallKind
kind_at number = slice_get KINDS number

-- the kind of this word
abbrev pub kind_named : List ℕ → Option CallKind
kind_named word = option_and_then kind_at (position (λ kind. bytes_eq word (word_of kind)) KINDS)

-- ---- what the table says of a call

-- the row of the call's kind
abbrev pub row_for : Call → CallRow
row_for call = row_of (parts_of call).kind

-- the client that is named
abbrev pub argument_client : {C : Type 0} → Argument C → Option C
argument_client (Argument.Client to) = Some to
argument_client (Argument.Gift strength to) = Some to
argument_client _ = None

-- the only kind of end that it is made on
abbrev pub target_kind : Target → Option Kind
target_kind Target.Token = Some Kind.Token
target_kind Target.Collection = Some Kind.Collection
target_kind _ = None

-- a node comes into being
abbrev pub is_node : Product → Bool
is_node Product.Collection = true
is_node Product.Node = true
is_node _ = false

-- a collection comes into being
abbrev pub is_collection : Product → Bool
is_collection Product.Collection = true
is_collection _ = false

-- a tracker comes into being
abbrev pub is_tracker : Product → Bool
is_tracker Product.Tracker = true
is_tracker _ = false

-- an end or a tracker comes into being
abbrev pub is_acquired : Product → Bool
is_acquired Product.Collection = true
is_acquired Product.Node = true
is_acquired Product.Tracker = true
is_acquired _ = false

-- an end is made or brought, or may be
abbrev pub brings_end : Product → Bool
brings_end Product.Collection = true
brings_end Product.Node = true
brings_end Product.Parcel = true
brings_end _ = false

-- the table says of the call what the definitions of the machine say, and the parts of the call
-- make that call
pub record RowAgrees (call : Call) : Type 0 where
  pub whole : call_of (parts_of call) ≡ Some call
  pub key : object_key (parts_of call).object ≡ key_of call
  pub buffer : object_buffer (parts_of call).object ≡ buffer_of call
  pub receiver : argument_client (parts_of call).argument ≡ receiver_of call
  pub kind : target_kind (row_for call).on ≡ kind_for call
  pub acquired : is_acquired (row_for call).brings ≡ acquires call
  pub node : is_node (row_for call).brings ≡ makes_node call
  pub collection : is_collection (row_for call).brings ≡ makes_collection call
  pub tracker : is_tracker (row_for call).brings ≡ makes_tracker call
