-- The texts of faults of a run of actors.
use Rattle.std.specs.Prelude.{ℕ, List, ◌∷◌, ◌++◌, codes}
use Rattle.std.specs.Fmt.{decimal}
use Rattle.actor_scripts.specs.declared.fault.ActorScriptFault.{ActorScriptFault}
use Rattle.client_vanish.specs.declared.fault.GatherFault.{GatherFault}
use Rattle.thread_runs.specs.declared.fault.ThreadsFault.{ThreadsFault}

-- what a fault is told as
abbrev pub threads_fault_text : ThreadsFault → List ℕ
threads_fault_text ThreadsFault.ReadFault = codes "read fault"
threads_fault_text ThreadsFault.WriteFault = codes "write fault"
threads_fault_text (ThreadsFault.BadLine number) = codes "bad line " ++ decimal number
threads_fault_text ThreadsFault.HistoryFull = codes "history full"
threads_fault_text ThreadsFault.NoMemory = codes "no memory"
threads_fault_text ThreadsFault.NoThread = codes "no thread"
threads_fault_text (ThreadsFault.Gather GatherFault.NoMemory) = codes "no memory"
threads_fault_text (ThreadsFault.Gather (GatherFault.MissingClient client)) = codes "gather: missing client " ++ decimal client
threads_fault_text (ThreadsFault.Gather (GatherFault.OpenValues strong weak)) =
    codes "gather: open values " ++ decimal strong ++ 32 ∷ decimal weak
threads_fault_text (ThreadsFault.Gather (GatherFault.RecordMismatch event)) = codes "gather: record differs at " ++ decimal event

-- the status that a program ends with: 1 for the streams, 3 for the script, 4 for want of memory, of a thread or of room in
-- the history, 5 for what does not fit at the end
abbrev pub threads_fault_status : ThreadsFault → ℕ
threads_fault_status ThreadsFault.ReadFault = 1
threads_fault_status ThreadsFault.WriteFault = 1
threads_fault_status (ThreadsFault.BadLine line) = 3
threads_fault_status ThreadsFault.HistoryFull = 4
threads_fault_status ThreadsFault.NoMemory = 4
threads_fault_status ThreadsFault.NoThread = 4
threads_fault_status (ThreadsFault.Gather GatherFault.NoMemory) = 4
threads_fault_status (ThreadsFault.Gather (GatherFault.MissingClient client)) = 5
threads_fault_status (ThreadsFault.Gather (GatherFault.OpenValues strong weak)) = 5
threads_fault_status (ThreadsFault.Gather (GatherFault.RecordMismatch event)) = 5

-- why no run began, as a fault of it
abbrev pub list_fault : ActorScriptFault → ThreadsFault
list_fault ActorScriptFault.ReadFault = ThreadsFault.ReadFault
list_fault (ActorScriptFault.BadLine number) = ThreadsFault.BadLine number
list_fault ActorScriptFault.NoMemory = ThreadsFault.NoMemory

-- what was found at the end, as a fault of the run: refused memory is told as such
abbrev pub gather_fault : GatherFault → ThreadsFault
gather_fault GatherFault.NoMemory = ThreadsFault.NoMemory
gather_fault (GatherFault.MissingClient client) = ThreadsFault.Gather (GatherFault.MissingClient client)
gather_fault (GatherFault.OpenValues strong weak) = ThreadsFault.Gather (GatherFault.OpenValues strong weak)
gather_fault (GatherFault.RecordMismatch event) = ThreadsFault.Gather (GatherFault.RecordMismatch event)
