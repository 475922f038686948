-- What the vanishing of a client makes of a core of C.
use Rattle.std.specs.Prelude.{ℕ, ◌≡◌, Option, Some, None, IsSomeAnd}
use Rattle.core_state.specs.State.{State}
use Rattle.core_vanish.specs.declared.vanishing.VanishFault.{VanishFault}
use Rattle.core_vanish.specs.Vanishing.{VanishStops}

-- the code of a fault
abbrev pub fault_code : VanishFault → ℕ
fault_code VanishFault.NoSuchClient = 9
fault_code VanishFault.HistoryFull = 5
fault_code VanishFault.NoMemory = 6

-- this many events were made, and then no more for the reason that the code tells
pub record StoppedBy (old new : State) (client count code : ℕ) : Type 0 where
  pub fault : VanishFault
  pub told : code ≡ fault_code fault
  pub stops : VanishStops old new client count fault

-- where there was a core it stopped so, and where there was none there is none
abbrev pub IsVanishStopped : Option State → Option State → ℕ → ℕ → ℕ → Type 0
IsVanishStopped None after client count code = after ≡ None
IsVanishStopped (Some old) after client count code = IsSomeAnd after (λ new. StoppedBy old new client count code)
