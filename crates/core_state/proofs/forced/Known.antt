-- What is known of a core's fields.
use Rattle.core_state.proofs.Common.{All, Bound, BufferName, Cell, Client, Collection, Forest, HandleCounts, IsSound, List, NoBufferHome}
use Rattle.core_state.proofs.Common.{Rise, State, Strength, Waiting, count_by, counts_of, false, is_due, is_handle_of, map, sum_by, total}
use Rattle.core_state.proofs.Common.{world_in, ℕ, ◌≡◌, ◌≤◌}
use Rattle.sm_names.specs.Elements.{In}

-- how many handles of a buffer and strength wait for the client
abbrev pub waiting_in : BufferName → Strength → Client → ℕ
waiting_in buffer strength c = count_by (is_handle_of buffer strength) c.waiting

-- the handles in parcels are those that wait for the clients
abbrev pub AreSent : List Client → HandleCounts → Type 0
AreSent clients handles = (buffer : BufferName) (strength : Strength) →
    handles.moving buffer strength ≡ sum_by (waiting_in buffer strength) clients

-- no id is above this number
abbrev pub AreUpTo : ℕ → Forest → Type 0
AreUpTo most f = (c : Collection) → In c f.collections → c.id ≤ most

-- what the history that a core shows tells of its fields, and its bookkeeping
pub record IsKnown (limits : Bound) (s : State) : Type 0 where
  pub rising : Rise (map (λ (c : Client). c.id) s.clients)
  pub limit : s.forest.limit ≡ limits.nodes
  pub opened : AreUpTo s.events s.forest
  pub sound : IsSound s.forest
  pub handle_limit : s.holds.limit ≡ limits.handles
  pub sent : AreSent s.clients (counts_of s.holds)
  pub tracker_limit : s.trackers.limit ≡ limits.trackers
  pub numbered : All (λ (c : Cell). c.id ≤ s.events) s.trackers.cells
  pub undue : All (λ (t : Waiting). is_due (world_in s.forest (total s.holds)) t ≡ false) s.trackers.unfired
  pub out : NoBufferHome (total s.holds) s.forest
