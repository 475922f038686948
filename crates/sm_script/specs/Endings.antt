-- What a program that runs a script leaves.
use Rattle.std.specs.Prelude.{ℕ, List, Option}
use Rattle.report_io.specs.Faults.{EndsReport}
use Rattle.sm_script.specs.Runs.{Runs}
use Rattle.sm_script.specs.Scenes.{Setting}

-- a script was run: its outcome is that of the status, and was told as far as it could be
abbrev pub Ends : Setting → Option (List ℕ) → Option (List ℕ) → Option (List ℕ) → Option (List ℕ) → Option (List ℕ) →
    Option (List ℕ) → ℕ → Type 0
Ends setting left_before left old new faults_before faults status =
    EndsReport (Runs setting left_before left old new) faults_before faults status
