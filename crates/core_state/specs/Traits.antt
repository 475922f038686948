-- What each call names and makes, as the table of calls says, and that it is what the rules of answers say.
use Rattle.std.specs.Prelude.{◌≡◌, ℕ, Bool, false, Option, Some, None}
use Rattle.std.specs.List.{list_any}
use Rattle.std.specs.Option.{option_map_or}
use Rattle.sm_names.specs.declared.call_parts.Argument.{Argument}
use Rattle.sm_names.specs.declared.call_parts.Object.{Object}
use Rattle.sm_names.specs.declared.call_parts.Product.{Product}
use Rattle.sm_names.specs.declared.keys.BufferName.{BufferName}
use Rattle.sm_names.specs.declared.keys.Kind.{Kind}
use Rattle.sm_names.specs.declared.keys.NodeKey.{NodeKey}
use Rattle.sm_names.specs.declared.keys.Strength.{Strength}
use Rattle.sm_names.specs.declared.messages.Call.{Call}
use Rattle.sm_names.specs.declared.messages.Reply.{Reply}
use Rattle.sm_names.specs.Answers.{Readings, acquires, has_none, is_at_limit, kind_for, makes_collection}
use Rattle.sm_names.specs.Answers.{makes_node, makes_tracker, no_handle, receiver_of, strength_of, too_many_handles}
use Rattle.sm_names.specs.Bounds.{Bound}
use Rattle.sm_names.specs.CallRows.{argument_client, is_acquired, is_collection, is_node, is_tracker, parts_of, row_for, target_kind}
use Rattle.sm_names.specs.Timelines.{key_of}
use Rattle.core_state.specs.declared.traits.Named.{Named}
use Rattle.core_state.specs.declared.traits.Traits.{Traits}

-- ---- the traits

-- a call on nothing
abbrev pub made_on_nothing : Product → Traits
made_on_nothing makes = record { on = Named.Nothing; to = None; kind = None; makes = makes }

-- a call on an end, and maybe on one kind of end alone
abbrev pub made_on_end : NodeKey → Option Kind → Product → Traits
made_on_end key kind makes = record { on = Named.End key; to = None; kind = kind; makes = makes }

-- a call on a handle
abbrev pub made_on_handle : BufferName → Strength → Product → Traits
made_on_handle buffer strength makes = record { on = Named.Handle buffer strength; to = None; kind = None; makes = makes }

-- the strength of the handle that a call with this argument is made on: where it says none, the handle is weak
abbrev pub handle_strength : Argument ℕ → Strength
handle_strength (Argument.Strength strength) = strength
handle_strength (Argument.Gift strength to) = strength
handle_strength _ = Strength.Weak

-- what a call is made on
abbrev pub made_on : Object NodeKey BufferName → Argument ℕ → Named
made_on Object.Nothing argument = Named.Nothing
made_on (Object.Node key) argument = Named.End key
made_on (Object.Buffer buffer) argument = Named.Handle buffer (handle_strength argument)

-- what the call names and makes, as the table of calls says
abbrev pub traits_of : Call → Traits
traits_of call = record {
  on = made_on (parts_of call).object (parts_of call).argument;
  to = argument_client (parts_of call).argument;
  kind = target_kind (row_for call).on;
  makes = (row_for call).brings;
}

-- ---- what is read of it

-- the node that is named
abbrev pub key_in : Named → Option NodeKey
key_in Named.Nothing = None
key_in (Named.End key) = Some key
key_in (Named.Handle buffer strength) = None

-- the caller has no such handle open
abbrev pub none_open : Readings → ℕ → Named → Option Reply
none_open r client Named.Nothing = None
none_open r client (Named.End key) = None
none_open r client (Named.Handle buffer strength) = has_none (r.open_of client buffer strength)

-- the handles that would be opened on this are too many
abbrev pub too_many_on : Bound → Readings → Named → Bool
too_many_on limits r Named.Nothing = false
too_many_on limits r (Named.End key) =
    option_map_or (λ e. list_any (is_at_limit limits r (strength_of e.weak)) e.to_open) (r.end_of key) false
too_many_on limits r (Named.Handle buffer strength) = is_at_limit limits r strength buffer

-- the handles that would be opened are too many
abbrev pub too_many : Bound → Readings → Named → Product → Bool
too_many limits r on Product.Handles = too_many_on limits r on
too_many limits r on _ = false

-- ---- the law

-- the traits of a call are what the rules of answers read of it
pub record Describes (call : Call) (t : Traits) : Type 0 where
  pub key : key_of call ≡ key_in t.on
  pub receiver : receiver_of call ≡ t.to
  pub kind : kind_for call ≡ t.kind
  pub acquires : acquires call ≡ is_acquired t.makes
  pub node : makes_node call ≡ is_node t.makes
  pub collection : makes_collection call ≡ is_collection t.makes
  pub tracker : makes_tracker call ≡ is_tracker t.makes
  pub handle : (r : Readings) (client : ℕ) → no_handle r client call ≡ none_open r client t.on
  pub handles : (limits : Bound) (r : Readings) → too_many_handles limits r call ≡ too_many limits r t.on t.makes
