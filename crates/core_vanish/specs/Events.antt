-- What the events of a vanishing make of a history. No public clause cites this module.
use Rattle.std.specs.Prelude.{ℕ, ◌+◌, ◌≡◌, ◌≤◌, true, List, [], ◌∷◌, ◌++◌, length}
use Rattle.std.specs.List.{All}
use Rattle.sm_names.specs.declared.keys.BufferName.{BufferName}
use Rattle.sm_names.specs.declared.keys.NodeKey.{NodeKey}
use Rattle.sm_names.specs.declared.keys.Strength.{Strength}
use Rattle.sm_names.specs.declared.messages.Call.{Call}
use Rattle.sm_names.specs.declared.messages.Reply.{Reply}
use Rattle.sm_names.specs.Ends.{has_joined, is_shut, parcels}
use Rattle.sm_names.specs.Handles.{open_of}
use Rattle.sm_names.specs.Marks.{Entry, Timeline}
use Rattle.sm_names.specs.Reading.{readings}
use Rattle.core_vanish.specs.Vanishes.{HasVanished, IsClose, IsCollect, IsDrop, holds_end}

-- the client was shut, and this many parcels wait for it
pub record IsShut (client waiting : ℕ) (events : List Entry) (later : Timeline) : Type 0 where
  pub are : events ≡ (client, Call.Shut, Reply.Shut waiting) ∷ []
  pub joined : has_joined later client ≡ true
  pub shut : is_shut later client ≡ true
  pub waits : length (parcels later client) ≡ waiting

-- this many Collects were made, of the parcels that waited
pub record Collects (client waiting count : ℕ) (marks : Timeline) (events : List Entry) (later : Timeline) : Type 0 where
  pub many : length events ≡ count
  pub are : All (IsCollect client) events
  pub joined : has_joined later client ≡ true
  pub shut : is_shut marks client ≡ true → is_shut later client ≡ true
  pub waits : length (parcels later client) + count ≡ waiting

-- so it is, if the client has joined and this many waited
abbrev pub Collecting : ℕ → ℕ → ℕ → Timeline → List Entry → Timeline → Type 0
Collecting client waiting count marks events later =
    has_joined marks client ≡ true → length (parcels marks client) ≡ waiting → Collects client waiting count marks events later

-- from the earlier marks to the later a client that has joined got nothing, and no parcel was taken
pub record GetsNothing (client : ℕ) (marks later : Timeline) : Type 0 where
  pub joined : has_joined later client ≡ true
  pub shut : is_shut marks client ≡ true → is_shut later client ≡ true
  pub parcels : parcels later client ≡ parcels marks client
  pub ends : (key : NodeKey) → holds_end (readings later) client key ≡ true → holds_end (readings marks) client key ≡ true
  pub handles : (buffer : BufferName) (strength : Strength) → open_of later client buffer strength ≤ open_of marks client buffer strength

-- the events are such ones, and by them the client got nothing
pub record LetsGo (Is : Entry → Type 0) (client : ℕ) (marks : Timeline) (events : List Entry) (later : Timeline) : Type 0 where
  pub are : All Is events
  pub nothing : GetsNothing client marks later

-- so it is of a client that has joined, and this holds of the later marks
abbrev pub Lets : (Entry → Type 0) → ℕ → (Timeline → Type 0) → Timeline → List Entry → Timeline → Type 0
Lets Is client Q marks events later = has_joined marks client ≡ true → LetsGo Is client marks events later × Q later

-- nothing more is known of the marks
abbrev pub Whatever : Timeline → Type 0
Whatever marks = Unit {0}

-- the events of a vanishing behind its Shut, where this many parcels waited
pub record IsRest (client waiting : ℕ) (events : List Entry) : Type 0 where
  pub collects : List Entry
  pub closes : List Entry
  pub drops : List Entry
  pub are : events ≡ collects ++ (closes ++ drops)
  pub as_many : length collects ≡ waiting
  pub collected : All (IsCollect client) collects
  pub closed : All (IsClose client) closes
  pub dropped : All (IsDrop client) drops

-- a client that was shut, and for which this many parcels waited, gave up all that it had
abbrev pub GivesUpAll : ℕ → ℕ → Timeline → List Entry → Timeline → Type 0
GivesUpAll client waiting marks events later =
    has_joined marks client ≡ true → is_shut marks client ≡ true → length (parcels marks client) ≡ waiting →
    IsRest client waiting events × HasVanished (readings later) client

-- it collected all, and began to give it up
abbrev pub Gathered : ℕ → ℕ → Timeline → List Entry → Timeline → Type 0
Gathered client waiting marks events later =
    has_joined marks client ≡ true → length (parcels marks client) ≡ waiting →
    (rest : List Entry) × IsRest client waiting (events ++ rest) × (waiting ≤ length events)

-- it began to give it up
abbrev pub Leaving : ℕ → ℕ → Timeline → List Entry → Timeline → Type 0
Leaving client waiting marks events later =
    has_joined marks client ≡ true → length (parcels marks client) ≡ waiting →
    (rest : List Entry) × IsRest client waiting (events ++ rest)
