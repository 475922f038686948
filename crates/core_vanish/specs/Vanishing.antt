-- What the vanishing of a client makes of a core.
use Rattle.std.specs.Prelude.{ℕ, ◌+◌, ◌<◌, ◌≤◌, ◌≡◌, List, [], ◌∷◌, ◌++◌, length}
use Rattle.sm_names.specs.declared.messages.Call.{Call}
use Rattle.sm_names.specs.declared.messages.Reply.{Reply}
use Rattle.sm_names.specs.declared.outcomes.Refusal.{Refusal}
use Rattle.sm_names.specs.Marks.{Entry}
use Rattle.sm_names.specs.declared.tracking.Fired.{Fired}
use Rattle.sm_names.specs.Reading.{readings}
use Rattle.sm_names.specs.Timelines.{timeline}
use Rattle.core_state.specs.Reads.{readings_of}
use Rattle.core_state.specs.Shown.{ShowsBut}
use Rattle.core_state.specs.State.{State}
use Rattle.core_vanish.specs.declared.vanishing.VanishFault.{VanishFault}
use Rattle.core_vanish.specs.Vanishes.{HasVanished, IsVanish}

-- ---- how a core goes on, of which each legal history is said that it shows, but for the firings that it forgot: each core shows some

-- each history that the old state shows so, extended by these entries, is legal, and the new state shows it, but for the same firings
abbrev pub GoesOnBut : State → State → List Entry → Type 0
GoesOnBut old new entries =
    (gone : List Fired) (history : List Entry) → ShowsBut gone old history → ShowsBut gone new (history ++ entries)

-- each history that the old state shows so the new one shows so
abbrev pub StaysBut : State → State → Type 0
StaysBut old new = (gone : List Fired) (history : List Entry) → ShowsBut gone old history → ShowsBut gone new history

-- ---- a vanishing

-- what was made before the fault: the first events of a vanishing, or a Shut that was refused. Where memory is refused, the Shut and
-- all Collects were made: they take none
abbrev pub IsBegun : ℕ → VanishFault → List Entry → Type 0
IsBegun client VanishFault.NoSuchClient events = events ≡ (client, Call.Shut, Reply.Refused Refusal.NoSuchClient) ∷ []
IsBegun client VanishFault.HistoryFull events = (rest : List Entry) × IsVanish client (events ++ rest)
IsBegun client VanishFault.NoMemory events =
    (rest : List Entry) × (vanishing : IsVanish client (events ++ rest)) × (vanishing.waiting < length events)

-- the core made these events: each legal history that the old state shows, but for the firings that it forgot, extended by them, is
-- legal, and the new state shows it, but for the same firings; no tracker was made
pub record AdvancesBy (old new : State) (events : List Entry) : Type 0 where
  pub pool : new.pool ≡ old.pool
  pub limits : new.limits ≡ old.limits
  pub counted : new.events ≡ old.events + length events
  pub untaken : new.trackers.untaken ≡ old.trackers.untaken
  pub goes_on : GoesOnBut old new events

-- the client vanished by this many events, as the core reads, and as each history tells that the core shows, but for the firings that
-- it forgot
pub record Vanishes (old new : State) (client count : ℕ) : Type 0 where
  pub events : List Entry
  pub many : count ≡ length events
  pub advances : AdvancesBy old new events
  pub is_vanish : IsVanish client events
  pub vanished : HasVanished (readings_of new) client
  pub has_vanished : (gone : List Fired) (history : List Entry) → ShowsBut gone old history →
      HasVanished (readings (timeline new.pool (history ++ events))) client

-- this many events were made, and then no more for this reason
pub record VanishStops (old new : State) (client count : ℕ) (fault : VanishFault) : Type 0 where
  pub events : List Entry
  pub many : count ≡ length events
  pub advances : AdvancesBy old new events
  pub begun : IsBegun client fault events
  pub full : fault ≡ VanishFault.HistoryFull → new.limits.events ≤ new.events
