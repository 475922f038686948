-- What a core keeps, as plain data.
use Rattle.std.specs.Prelude.{ℕ, Bool, List, [], ◌≡◌}
use Rattle.sm_names.specs.declared.keys.BufferName.{BufferName}
use Rattle.sm_names.specs.declared.keys.Strength.{Strength}
use Rattle.sm_names.specs.declared.messages.Parcel.{Parcel}
use Rattle.sm_names.specs.Bounds.{Bound}
use Rattle.buffer_holds.specs.Counts.{Counts, of, moving_count, total}
use Rattle.trackers.specs.Table.{TrackerTable, empty}
use Rattle.forest_store.specs.Forest.{Forest, empty_forest}

-- a client that joined: its number, whether it was shut, and the parcels that wait for it, the first one first
pub record Client : Type 0 where
  pub id : ℕ
  pub shut : Bool
  pub waiting : List Parcel

-- a pool of this many pages, the limits, how many events there were, the clients, the earliest first, the collections with their
-- nodes and buffers, the open handles, and the trackers
pub record State : Type 0 where
  pub pool : ℕ
  pub limits : Bound
  pub events : ℕ
  pub clients : List Client
  pub forest : Forest
  pub holds : Counts
  pub trackers : TrackerTable

-- the state of a core that has nothing, after this many events
abbrev pub empty_state : ℕ → Bound → ℕ → State
empty_state pool limits events = record {
  pool = pool;
  limits = limits;
  events = events;
  clients = [];
  forest = empty_forest limits.nodes;
  holds = record { limit = limits.handles; places = 0; rows = []; parcels = [] };
  trackers = empty limits.trackers;
}

-- how many handles of a buffer and strength a client has open, how many are in parcels, and how many are open in all
pub record HandleCounts : Type 0 where
  pub of : ℕ → BufferName → Strength → ℕ
  pub moving : BufferName → Strength → ℕ
  pub total : BufferName → Strength → ℕ

-- what the rows of handles say
abbrev pub counts_of : Counts → HandleCounts
counts_of holds = record { of = of holds; moving = moving_count holds; total = total holds }

-- the two states are the same, but for the order in which the rows of handles stand
pub record IsSame (old new : State) : Type 0 where
  pub rest : new ≡ record old { holds = new.holds }
  pub counts : counts_of new.holds ≡ counts_of old.holds
