-- How a client vanishes, and that it has: what it has then, and by which events.
use Rattle.std.specs.Prelude.{ℕ, ◌≡◌, ◌&&◌, ◌==◌, Bool, true, false, not, List, [], ◌∷◌, ◌++◌, length, Some}
use Rattle.std.specs.List.{All}
use Rattle.std.specs.Option.{option_map_or}
use Rattle.sm_names.specs.declared.keys.BufferName.{BufferName}
use Rattle.sm_names.specs.declared.keys.NodeKey.{NodeKey}
use Rattle.sm_names.specs.declared.keys.Strength.{Strength}
use Rattle.sm_names.specs.declared.messages.Call.{Call}
use Rattle.sm_names.specs.declared.messages.Parcel.{Parcel}
use Rattle.sm_names.specs.declared.messages.Reply.{Reply}
use Rattle.sm_names.specs.Answers.{OpenEnd, Readings}
use Rattle.sm_names.specs.Marks.{Entry}
use Rattle.sm_names.specs.Reading.{readings}
use Rattle.sm_names.specs.Timelines.{timeline}
use Rattle.event_laws.specs.ByEvent.{collected_at, entry_mark}

-- ---- what a client has

-- the client holds the end of the node: it is not spent, and in no parcel
abbrev pub holds_end : Readings → ℕ → NodeKey → Bool
holds_end r client key = option_map_or (λ (e : OpenEnd). e.holder == client && not e.in_transit) (r.end_of key) false

-- the client is shut, no parcel waits for it, it holds no end and has no handle open
pub record HasVanished (r : Readings) (client : ℕ) : Type 0 where
  pub shut : r.is_shut client ≡ true
  pub parcels : r.waiting client ≡ []
  pub ends : (key : NodeKey) → holds_end r client key ≡ false
  pub handles : (buffer : BufferName) (strength : Strength) → r.open_of client buffer strength ≡ 0

-- at some time in this history, or at its end, the client had vanished
abbrev pub VanishedIn : ℕ → List Entry → ℕ → Type 0
VanishedIn pool history client =
    (before : List Entry) × (more : List Entry) × (history ≡ before ++ more) × HasVanished (readings (timeline pool before)) client

-- ---- the events

-- a Collect by which the client gets a parcel
abbrev pub IsCollect : ℕ → Entry → Type 0
IsCollect client entry = (parcel : Parcel) × (collected_at client (entry_mark entry) ≡ Some parcel)

-- a Close of the client that took effect
abbrev pub IsClose : ℕ → Entry → Type 0
IsClose client entry = (key : NodeKey) × (entry ≡ (client, Call.Close key, Reply.Done))

-- a DropHandle of the client that took effect
abbrev pub IsDrop : ℕ → Entry → Type 0
IsDrop client entry = (buffer : BufferName) × (strength : Strength) × (entry ≡ (client, Call.DropHandle buffer strength, Reply.Done))

-- these events are the client's Shut, a Collect for each parcel that waits then, and Closes and DropHandles, in this order
pub record IsVanish (client : ℕ) (events : List Entry) : Type 0 where
  pub waiting : ℕ
  pub collects : List Entry
  pub closes : List Entry
  pub drops : List Entry
  pub are : events ≡ (client, Call.Shut, Reply.Shut waiting) ∷ (collects ++ (closes ++ drops))
  pub as_many : length collects ≡ waiting
  pub collected : All (IsCollect client) collects
  pub closed : All (IsClose client) closes
  pub dropped : All (IsDrop client) drops
