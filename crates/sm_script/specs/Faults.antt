-- Faults as `run_script` answers them, and their texts.
use Rattle.std.specs.Prelude.{ℕ, List, ◌++◌, codes, Result, Ok, Err}
use Rattle.std.specs.Fmt.{decimal}
use Rattle.report_io.specs.declared.fault.ReportFault.{ReportFault}
use Rattle.sm_script.specs.declared.fault.ScriptFault.{ScriptFault}

-- the fault without the reason of a bad line; a script that is too long can't be read. A run seeks nothing that could be missing
abbrev pub script_fault : ReportFault → ScriptFault
script_fault (ReportFault.WriteFault fault) = ScriptFault.WriteFault
script_fault (ReportFault.BadLine number reason) = ScriptFault.BadLine number
script_fault ReportFault.HistoryFull = ScriptFault.HistoryFull
script_fault ReportFault.NoMemory = ScriptFault.NoMemory
script_fault _ = ScriptFault.ReadFault

-- the outcome of a run
abbrev pub script_result : Result (Unit {0}) ReportFault → Result (Unit {0}) ScriptFault
script_result (Ok done) = Ok done
script_result (Err fault) = Err (script_fault fault)

-- what a fault is told as
abbrev pub script_fault_text : ScriptFault → List ℕ
script_fault_text ScriptFault.ReadFault = codes "read fault"
script_fault_text ScriptFault.WriteFault = codes "write fault"
script_fault_text (ScriptFault.BadLine number) = codes "bad line " ++ decimal number
script_fault_text ScriptFault.HistoryFull = codes "history full"
script_fault_text ScriptFault.NoMemory = codes "no memory"
