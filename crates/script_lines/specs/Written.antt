-- Text that was written as far as it could be.
use Rattle.std.specs.Prelude.{◌≡◌, ℕ, Bool, true, false, List, ◌++◌, Option}
use Rattle.std.specs.Io.KnownBytes.{Appends}
use Rattle.std.specs.declared.io.ErrorKind.{ErrorKind}

-- the error is that of a pipe whose other end is closed
abbrev pub is_closed_pipe : ErrorKind → Bool
is_closed_pipe ErrorKind.BrokenPipe = true
is_closed_pipe _ = false

-- a first part of the text was written
pub record WritesPart (old new : Option (List ℕ)) (text : List ℕ) : Type 0 where
  pub done : List ℕ
  pub rest : List ℕ
  pub split : text ≡ done ++ rest
  pub written : Appends old new done
