-- The lines of the order of answers, over a node.
use Rattle.std.specs.Prelude.{ℕ, Bool, false, ◌&&◌, ◌==◌, not, nat_le, if◌then◌else◌, List, [], ◌∷◌, Option}
use Rattle.std.specs.Option.{option_map, option_map_or}
use Rattle.sm_names.specs.declared.keys.Kind.{Kind}
use Rattle.sm_names.specs.declared.messages.Call.{Call}
use Rattle.sm_names.specs.declared.messages.Reply.{Reply}
use Rattle.sm_names.specs.declared.outcomes.Fault.{Fault}
use Rattle.sm_names.specs.declared.outcomes.Refusal.{Refusal}
use Rattle.sm_names.specs.Answers.{Readings, kind_for, refused_if}
use Rattle.sm_names.specs.Bounds.{Bound}
use Rattle.sm_names.specs.CallRows.{is_collection, is_node, is_tracker}
use Rattle.sm_names.specs.Sameness.{same_kind}
use Rattle.forest_store.specs.declared.node.End.{End}
use Rattle.core_state.specs.declared.traits.Traits.{Traits}
use Rattle.core_state.specs.Reads.{holder_of, is_moving}
use Rattle.core_state.specs.Traits.{too_many}

-- another client holds the end
abbrev pub another_of : ℕ → End → Option Reply
another_of client end = refused_if (not (holder_of end == client) && not (is_moving end)) Refusal.NoSuchEnd

-- the end is in a parcel
abbrev pub transit_of : End → Option Reply
transit_of end = refused_if (is_moving end) Refusal.InTransit

-- why and where the node failed
abbrev pub peer_of : Option Fault → Option Reply
peer_of fault = option_map (λ (f : Fault). Reply.PeerClosed f.cause f.origin) fault

-- the call is for an end of the other kind
abbrev pub kind_line : Bool → Call → Option Reply
kind_line bound call =
    let kind : Kind = if bound then Kind.Collection else Kind.Token in
    refused_if (option_map_or (λ k. not (same_kind kind k)) (kind_for call) false) Refusal.WrongKind

-- the limits that a call with these traits can meet, in the order of their numbers
abbrev pub limits_of : Bound → Readings → Traits → List (Option Reply)
limits_of limits r t =
    refused_if (is_node t.makes && nat_le limits.nodes r.kept_nodes) Refusal.TooManyNodes
    ∷ refused_if (is_collection t.makes && nat_le limits.collections r.kept_collections) Refusal.TooManyCollections
    ∷ refused_if (is_tracker t.makes && nat_le limits.trackers r.unfired) Refusal.TrackersFull
    ∷ refused_if (too_many limits r t.on t.makes) Refusal.TooManyHandles
    ∷ []
