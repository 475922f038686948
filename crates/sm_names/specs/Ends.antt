-- Ends, their holders, and what waits for a client.
-- `kind` restates `fuchsia.sysmem2.Allocator.BindSharedCollection`, `spent` restates
-- `fuchsia.sysmem2.Node.Release`. Clients, parcels and shutting are this profile's own.
use Rattle.std.specs.Prelude.{ℕ, Bool, false, ◌&&◌, ◌==◌, if◌then◌else◌, List, [], ◌∷◌, drop, reverse, Option, Some, None}
use Rattle.std.specs.List.{list_any, filter_map}
use Rattle.std.specs.Option.{option_map_or}
use Rattle.sm_names.specs.declared.keys.NodeKey.{NodeKey}
use Rattle.sm_names.specs.declared.keys.BufferName.{BufferName}
use Rattle.sm_names.specs.declared.keys.Kind.{Kind}
use Rattle.sm_names.specs.declared.keys.Strength.{Strength}
use Rattle.sm_names.specs.declared.messages.Call.{Call}
use Rattle.sm_names.specs.declared.messages.Parcel.{Parcel}
use Rattle.sm_names.specs.declared.messages.Reply.{Reply}
use Rattle.sm_names.specs.Births.{Birth, birth_of}
use Rattle.sm_names.specs.Marks.{Mark, Timeline, Called}
use Rattle.sm_names.specs.Sameness.{same_key, same_buffer, same_strength}
use Rattle.sm_names.specs.Words.{times}

-- the client that the mark made: only a Join makes one
abbrev pub joined_at : Mark → Option ℕ
joined_at (Called client (Reply.Joined made) Call.Join) = Some made
joined_at _ = None

-- all clients, the newest first
abbrev pub clients : Timeline → List ℕ
clients marks = filter_map joined_at marks

-- the client was made by a Join
abbrev pub has_joined : Timeline → ℕ → Bool
has_joined marks client = list_any (λ c. c == client) (clients marks)

-- the mark shuts the client: only its own Shut does
abbrev pub shuts : ℕ → Mark → Bool
shuts client (Called caller (Reply.Shut waiting) Call.Shut) = caller == client
shuts client _ = false

-- the client was shut
abbrev pub is_shut : Timeline → ℕ → Bool
is_shut marks client = list_any (shuts client) marks

-- the mark spends the node's end: a Close that was answered Done, or a Release that was answered
-- Done or PeerClosed
abbrev pub spends : NodeKey → Mark → Bool
spends node (Called client Reply.Done (Call.Close key)) = same_key key node
spends node (Called client Reply.Done (Call.Release key)) = same_key key node
spends node (Called client (Reply.PeerClosed cause origin) (Call.Release key)) = same_key key node
spends node _ = false

-- the end of the node was spent
abbrev pub spent : Timeline → NodeKey → Bool
spent marks node = list_any (spends node) marks

-- the mark binds the token of the node: only a Bind that took effect does
abbrev pub binds : NodeKey → Mark → Bool
binds node (Called client Reply.Done (Call.Bind key)) = same_key key node
binds node _ = false

-- a token, until it is bound
abbrev pub kind : Timeline → NodeKey → Kind
kind marks node = if list_any (binds node) marks then Kind.Collection else Kind.Token

-- the parcel that the mark gives to the client: only these two calls give one, and only if they
-- took effect
abbrev pub given_at : ℕ → Mark → Option Parcel
given_at client (Called giver Reply.Done (Call.Give key to)) =
    if to == client then Some (Parcel.End key) else None
given_at client (Called giver Reply.Done (Call.GiveHandle buffer strength to)) =
    if to == client then Some (Parcel.Handle buffer strength) else None
given_at client _ = None

-- the mark is a Collect by which the client took a parcel: one that was answered Empty took none
abbrev pub collects : ℕ → Mark → Bool
collects client (Called caller (Reply.Collected key kind collection) Call.Collect) =
    caller == client
collects client (Called caller (Reply.CollectedHandle buffer strength) Call.Collect) =
    caller == client
collects client _ = false

-- the parcels given to the client, in order, without the first ones: it has collected these
abbrev pub parcels : Timeline → ℕ → List Parcel
parcels marks client =
    drop (times (collects client) marks) (reverse (filter_map (given_at client) marks))

-- the parcel is the end of the node
abbrev pub is_end_of : NodeKey → Parcel → Bool
is_end_of node (Parcel.End key) = same_key key node
is_end_of node (Parcel.Handle buffer strength) = false

-- the parcel is a handle of this buffer and strength
abbrev pub is_handle_of : BufferName → Strength → Parcel → Bool
is_handle_of buffer strength (Parcel.Handle name given) =
    same_buffer name buffer && same_strength given strength
is_handle_of buffer strength (Parcel.End key) = false

-- the end is in a parcel
abbrev pub in_transit : Timeline → NodeKey → Bool
in_transit marks node =
    list_any (λ client. list_any (is_end_of node) (parcels marks client)) (clients marks)

-- the client that collected the node's end at the mark: only a Collect takes an end out of a parcel
abbrev pub collector_at : NodeKey → Mark → Option ℕ
collector_at node (Called caller (Reply.Collected key kind collection) Call.Collect) =
    if same_key key node then Some caller else None
collector_at node _ = None

-- the client that collected the node's end last
abbrev pub collector : Timeline → NodeKey → Option ℕ
collector [] node = None
collector (mark ∷ before) node = option_map_or Some (collector_at node mark) (collector before node)

-- the client that holds the node's end: the one that collected it last, or else the one that made
-- the node
abbrev pub holder : Timeline → NodeKey → ℕ
holder marks node =
    option_map_or (λ c. c) (collector marks node)
    (option_map_or (λ (b : Birth). b.client) (birth_of marks node) 0)
