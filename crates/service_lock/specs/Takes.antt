-- What a Take opened, and the units of its handles.
use Rattle.std.specs.Prelude.{ℕ, Option, Some, None, length}
use Rattle.sm_names.specs.declared.keys.Strength.{Strength}
use Rattle.sm_names.specs.declared.keys.Strength.TheVariants.{Strong, Weak}
use Rattle.sm_names.specs.declared.messages.Reply.{Reply}
use Rattle.event_laws.specs.HandleSums.{indices_in}
use Rattle.service_lock.specs.Units.{Amounts}
use Rattle.service_lock.specs.declared.taken.TakenHandles.{TakenHandles}
use Rattle.service_lock.specs.Accounts.{no_amounts}

-- what the reply says that was taken
abbrev pub told_taken : Reply → Option TakenHandles
told_taken (Reply.Taken collection strength set) =
    Some (record { collection = collection; strength = strength; set = set })
told_taken _ = None

-- this many units of handles of this strength
abbrev pub handful : Strength → ℕ → Amounts
handful Strong n = record { events = 0; strong = n; weak = 0 }
handful Weak n = record { events = 0; strong = 0; weak = n }

-- the units of the handles that were taken: one for each buffer of the set
abbrev pub units_by : Option TakenHandles → Amounts
units_by None = no_amounts
units_by (Some taken) = handful taken.strength (length (indices_in taken.set))
