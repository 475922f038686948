-- The texts of the faults of a gathering.
use Rattle.std.specs.Prelude.{ℕ, List, ◌∷◌, ◌++◌, codes}
use Rattle.std.specs.Fmt.{decimal}
use Rattle.client_vanish.specs.declared.fault.GatherFault.{GatherFault}

-- what a fault is told as
abbrev pub gather_fault_text : GatherFault → List ℕ
gather_fault_text GatherFault.NoMemory = codes "no memory"
gather_fault_text (GatherFault.MissingClient client) = codes "missing client " ++ decimal client
gather_fault_text (GatherFault.OpenValues strong weak) = codes "open values " ++ decimal strong ++ 32 ∷ decimal weak
gather_fault_text (GatherFault.RecordMismatch event) = codes "record differs at " ++ decimal event
