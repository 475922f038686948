-- The statuses that the program ends with before it runs a script.
use Rattle.std.specs.Prelude.{ℕ, ◌≡◌, ◌⊎◌, Bool, true, false}
use Rattle.std.specs.declared.io.ErrorKind.{ErrorKind as IoKind}
use Rattle.clap.specs.declared.error.kind.ErrorKind.{ErrorKind}

-- where help is asked for: 0 if it was written, and else 1
abbrev pub help_status : Bool → ℕ
help_status true = 0
help_status false = 1

-- where the words of the command line ask for no run, and what is said of that was written or not: 4 where memory was refused,
-- that of help, and 2 for any other refusal
abbrev pub refusal_status : Bool → ErrorKind → ℕ
refusal_status written ErrorKind.OutOfMemory = 4
refusal_status written ErrorKind.DisplayHelp = help_status written
refusal_status written ErrorKind.DisplayVersion = help_status written
refusal_status written _ = 2

-- the program ends with this status where what is said of words that ask for no run was written, or was not
pub record IsRefused (kind : ErrorKind) (status : ℕ) : Type 0 where
  pub written : Bool
  pub status_is : status ≡ refusal_status written kind

-- where the words can't be read: 4 where memory was refused, and else 2
abbrev pub unread_status : IoKind → ℕ
unread_status IoKind.OutOfMemory = 4
unread_status _ = 2

-- a status of words that can't be read or kept
abbrev pub IsUnreadStatus : ℕ → Type 0
IsUnreadStatus status = (status ≡ 4) ⊎ (status ≡ 2)
