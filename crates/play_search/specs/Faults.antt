-- Which fault of a search a fault of a call is.
use Rattle.sm_names.specs.declared.outcomes.StepFault.{StepFault}
use Rattle.play_search.specs.declared.fault.ExploreFault.{ExploreFault}

-- a search stops by what stopped the call
abbrev pub step_told : StepFault → ExploreFault
step_told StepFault.HistoryFull = ExploreFault.HistoryFull
step_told StepFault.NoMemory = ExploreFault.NoMemory
