-- What is said of a line that was written.
use Rattle.std.proofs.Common.{◌≡◌, ℕ, List, [], ◌∷◌, ◌++◌, Option, Some, None, append-nil, refl, sym, subst}
use Rattle.std.specs.Prelude.{Ok, Err, Result, IfSome, OnErr, OnOk}
use Rattle.std.specs.Io.KnownBytes.{Appends}
use Rattle.script_lines.specs.declared.writing.WriteFault.{WriteFault}
use Rattle.script_lines.specs.Written.{WritesPart}

-- what holds of the line holds of what is displayed, with its end
pub of_line : (told : Option (List ℕ)) (line : List ℕ) (Holds : List ℕ → Type 0) →
    ((text : List ℕ) → told ≡ Some text → line ≡ text ++ 10 ∷ []) → Holds line → IfSome told (λ text. Holds (text ++ 10 ∷ []))
of_line None line Holds is holds = tt
of_line (Some text) line Holds is holds = subst Holds (is text refl) holds

-- where a line was written or a part of it, a part was
pub tells : (old new : Option (List ℕ)) (line : List ℕ) (result : Result (Unit {0}) WriteFault) →
    OnOk result (Appends old new line) → OnErr result (WritesPart old new line) → WritesPart old new line
tells old new line (Ok done) ok err = record { done = line; rest = []; split = sym (append-nil line); written = ok }
tells old new line (Err fault) ok err = err
