-- What comes of a script that was read.
use Rattle.std.proofs.Common.{List, [], ℕ, Option, Ok, Err, Result, inl, inr, arith}
use Rattle.std.proofs.KnownBytes.{Consumes-nil, Keeps-refl}
use Rattle.report_io.specs.declared.fault.ReportFault.{ReportFault}
use Rattle.report_io.specs.Streams.{Reads}

module _ {A B : Type 0} (Comes : List ℕ → Result A ReportFault → Type 0) (Leaves : List ℕ → Result B ReportFault → Type 0)
    (left_before left old mid : Option (List ℕ)) where
  -- a fault is told as one of a later outcome
  pub reads-fault : (fault : ReportFault) → ((script : List ℕ) → Comes script (Err fault) → Leaves script (Err fault)) →
      Reads Comes left_before left old mid (Err fault) → Reads Leaves left_before left old mid (Err fault)
  reads-fault fault on (inl unread) = inl unread
  reads-fault fault on (inr (script, taken, end, within, comes)) = inr (script, taken, end, within, on script comes)

  -- without a fault what follows is the outcome
  pub reads-then : (done : A) (new : Option (List ℕ)) (result : Result B ReportFault) →
      ((script : List ℕ) → Comes script (Ok done) → Leaves script result) →
      Reads Comes left_before left old mid (Ok done) → Reads Leaves left_before left old new result
  reads-then done new result on (inl unread) = absurd unread
  reads-then done new result on (inr (script, taken, end, within, comes)) = inr (script, taken, end, within, on script comes)

-- memory was refused before anything was read
pub reads-nothing : {B : Type 0} (Leaves : List ℕ → Result B ReportFault → Type 0) (left old : Option (List ℕ)) →
    Reads Leaves left left old old (Err ReportFault.NoMemory)
reads-nothing Leaves left old =
    inl (record { bytes = []; taken = Consumes-nil left; within = omega arith }, Keeps-refl old)
