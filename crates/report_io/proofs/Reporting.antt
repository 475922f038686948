-- What is told of an outcome.
use Rattle.std.proofs.Common.{◌≡◌, ℕ, List, Option, Ok, Err, Result, refl, sym, subst}
use Rattle.script_lines.specs.declared.writing.WriteFault.{WriteFault}
use Rattle.report_io.specs.declared.fault.ReportFault.{ReportFault}
use Rattle.report_io.specs.Faults.{IsReported, IsTold, IsWriteFault}

-- a fault of writing is that of the writer
pub write_fault_is : (fault : ReportFault) → IsWriteFault fault → (failed : WriteFault) × (fault ≡ ReportFault.WriteFault failed)
write_fault_is (ReportFault.WriteFault failed) is = (failed, refl)
write_fault_is (ReportFault.BadLine n reason) is = absurd is
write_fault_is ReportFault.HistoryFull is = absurd is
write_fault_is ReportFault.NoMemory is = absurd is
write_fault_is ReportFault.ReadFault is = absurd is
write_fault_is ReportFault.TooLong is = absurd is
write_fault_is (ReportFault.Missing sought n) is = absurd is

-- of an outcome without a fault nothing is told
pub reported_none : {A : Type 0} (at : Option (List ℕ)) (result : Result A ReportFault) (done : A) → result ≡ Ok done →
    IsReported at at result
reported_none at result done is = subst (IsReported at at) (sym is) refl

-- of a fault its line is told
pub reported_fault : {A : Type 0} (before after : Option (List ℕ)) (result : Result A ReportFault) (fault : ReportFault) →
    result ≡ Err fault → IsTold before after fault → IsReported before after result
reported_fault before after result fault is told = subst (IsReported before after) (sym is) told
