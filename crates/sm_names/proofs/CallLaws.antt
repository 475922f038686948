-- Parts that make a call are its parts.
use Rattle.std.proofs.Common.{ℕ, ◌≡◌, refl, sym, ap, ◌∙◌, Some}
use Rattle.std.specs.Option.{option_map}
use Rattle.sm_names.specs.declared.call_parts.Argument.{Argument}
use Rattle.sm_names.specs.declared.call_rows.CallKind.{CallKind}
use Rattle.sm_names.specs.declared.call_parts.Object.{Object}
use Rattle.sm_names.specs.declared.keys.BufferName.{BufferName}
use Rattle.sm_names.specs.declared.keys.NodeKey.{NodeKey}
use Rattle.sm_names.specs.declared.messages.Call.{Call}
use Rattle.sm_names.specs.CallRows.{call_made, only, parts, parts_of, plain_buffer, plain_key}

-- a call that is another has its parts
same_parts : (made call : Call) → Some made ≡ Some call → parts_of call ≡ parts_of made
same_parts made call is = let same : made ≡ call = cc in ap parts_of (sym same)

-- a call on nothing
bare : (of : CallKind) (made : Call) → parts_of made ≡ parts of Object.Nothing Argument.Nothing →
    (object : Object NodeKey BufferName) (argument : Argument ℕ)
    (call : Call) → only object argument made ≡ Some call → parts_of call ≡ parts of object argument
bare of made so Object.Nothing Argument.Nothing call is = same_parts made call is ∙ so
bare of made so _ _ call is = cc

-- a call on an end that says nothing else
plain_end : (of : CallKind) (made : NodeKey → Call) →
    ((key : NodeKey) → parts_of (made key) ≡ parts of (Object.Node key) Argument.Nothing) →
    (object : Object NodeKey BufferName) (argument : Argument ℕ) (call : Call) → option_map made (plain_key object argument) ≡ Some call →
    parts_of call ≡ parts of object argument
plain_end of made so (Object.Node key) Argument.Nothing call is = same_parts (made key) call is ∙ so key
plain_end of made so Object.Nothing Argument.Nothing call is = cc
plain_end of made so (Object.Buffer buffer) Argument.Nothing call is = cc
plain_end of made so _ _ call is = cc

-- a call on a handle that says nothing else
plain_handle : (of : CallKind) (made : BufferName → Call) →
    ((buffer : BufferName) → parts_of (made buffer) ≡ parts of (Object.Buffer buffer) Argument.Nothing) →
    (object : Object NodeKey BufferName) (argument : Argument ℕ) (call : Call) →
    option_map made (plain_buffer object argument) ≡ Some call →
    parts_of call ≡ parts of object argument
plain_handle of made so (Object.Buffer buffer) Argument.Nothing call is = same_parts (made buffer) call is ∙ so buffer
plain_handle of made so Object.Nothing Argument.Nothing call is = cc
plain_handle of made so (Object.Node key) Argument.Nothing call is = cc
plain_handle of made so _ _ call is = cc

-- a call of any kind: the object and the argument that make it are its own
pub made : (kind : CallKind) (object : Object NodeKey BufferName) (argument : Argument ℕ) (call : Call) →
    call_made kind object argument ≡ Some call →
    parts_of call ≡ parts kind object argument
made CallKind.Join object argument call is = bare CallKind.Join Call.Join refl object argument call is
made CallKind.Shut object argument call is = bare CallKind.Shut Call.Shut refl object argument call is
made CallKind.OpenRoot object argument call is = bare CallKind.OpenRoot Call.OpenRoot refl object argument call is
made CallKind.Duplicate object argument call is = plain_end CallKind.Duplicate Call.Duplicate (λ key. refl) object argument call is
made CallKind.AttachToken object argument call is = plain_end CallKind.AttachToken Call.AttachToken (λ key. refl) object argument call is
made CallKind.Sync object argument call is = plain_end CallKind.Sync Call.Sync (λ key. refl) object argument call is
made CallKind.Give (Object.Node key) (Argument.Client x) call is = same_parts (Call.Give key x) call is
made CallKind.Give object argument call is = cc
made CallKind.Collect object argument call is = bare CallKind.Collect Call.Collect refl object argument call is
made CallKind.Bind object argument call is = plain_end CallKind.Bind Call.Bind (λ key. refl) object argument call is
made CallKind.SetDispensable object argument call is =
    plain_end CallKind.SetDispensable Call.SetDispensable (λ key. refl) object argument call is
made CallKind.SetWeak object argument call is = plain_end CallKind.SetWeak Call.SetWeak (λ key. refl) object argument call is
made CallKind.SetWeakOk (Object.Node key) (Argument.Children x) call is = same_parts (Call.SetWeakOk key x) call is
made CallKind.SetWeakOk object argument call is = cc
made CallKind.SetConstraints (Object.Node key) (Argument.Constraints x) call is = same_parts (Call.SetConstraints key x) call is
made CallKind.SetConstraints object argument call is = cc
made CallKind.Check object argument call is = plain_end CallKind.Check Call.Check (λ key. refl) object argument call is
made CallKind.Take object argument call is = plain_end CallKind.Take Call.Take (λ key. refl) object argument call is
made CallKind.Release object argument call is = plain_end CallKind.Release Call.Release (λ key. refl) object argument call is
made CallKind.Close object argument call is = plain_end CallKind.Close Call.Close (λ key. refl) object argument call is
made CallKind.DupHandle (Object.Buffer buffer) (Argument.Strength strength) call is = same_parts (Call.DupHandle buffer strength) call is
made CallKind.DupHandle object argument call is = cc
made CallKind.DropHandle (Object.Buffer buffer) (Argument.Strength strength) call is = same_parts (Call.DropHandle buffer strength) call is
made CallKind.DropHandle object argument call is = cc
made CallKind.GiveHandle (Object.Buffer buffer) (Argument.Gift strength to) call is =
    same_parts (Call.GiveHandle buffer strength to) call is
made CallKind.GiveHandle object argument call is = cc
made CallKind.TrackNode object argument call is = plain_end CallKind.TrackNode Call.TrackNode (λ key. refl) object argument call is
made CallKind.TrackLifetime (Object.Node key) (Argument.Most x) call is = same_parts (Call.TrackLifetime key x) call is
made CallKind.TrackLifetime object argument call is = cc
made CallKind.TrackWeak object argument call is = plain_handle CallKind.TrackWeak Call.TrackWeak (λ buffer. refl) object argument call is
