-- The steps that a walk over a collection finds, and the marks that they come to, in the words of the collections.
use Rattle.std.specs.Prelude.{◌≤◌}
use Rattle.sm_names.specs.declared.rules.TheConstants.{MAX_SIZE}
use Rattle.sm_names.specs.Marks.{Mark, Loss, Allocated, Ended}
use Rattle.forest_store.specs.Decisions.{Decision as Step, Ends, Loses, Places, Allocates}
use Rattle.forced_marks.specs.declared.decision.PendingStep.{PendingStep}
use Rattle.forced_marks.specs.declared.decision.Forced.{Forced}

-- the step that is found
abbrev pub told : PendingStep → Step
told (PendingStep.Ends top) = Ends top
told (PendingStep.Loses origin cause) = Loses origin cause
told (PendingStep.Places head wants) = Places head wants
told (PendingStep.Allocates head) = Allocates head

-- buffers that are to be placed have a size in range
abbrev pub IsSized : PendingStep → Type 0
IsSized (PendingStep.Ends top) = Unit {0}
IsSized (PendingStep.Loses origin cause) = Unit {0}
IsSized (PendingStep.Places head wants) = (1 ≤ wants.size) × (wants.size ≤ MAX_SIZE)
IsSized (PendingStep.Allocates head) = Unit {0}

-- the mark that was made
abbrev pub mark_told : Forced → Mark
mark_told (Forced.Loss fault) = Loss fault.origin fault.cause
mark_told (Forced.Allocated head) = Allocated head
mark_told (Forced.Ended top) = Ended top
