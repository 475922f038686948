-- What the program says where it does nothing with a script.
use Rattle.std.specs.Prelude.{◌==◌, ◌||◌, ◌++◌, ℕ, Bool, List, length, Option, Some, None, if◌then◌else◌, codes, decimal}
use Rattle.std.specs.List.{list_any}
use Rattle.std.specs.declared.io.ErrorKind.{ErrorKind}

-- why a file can't be opened, by the kind of the system's error
abbrev pub open_reason : ErrorKind → List ℕ
open_reason ErrorKind.NotFound = codes "no such file"
open_reason ErrorKind.PermissionDenied = codes "permission denied"
open_reason ErrorKind.NotADirectory = codes "a part of its path is no directory"
open_reason ErrorKind.IsADirectory = codes "it is a directory"
open_reason ErrorKind.FilesystemLoop = codes "too many symbolic links"
open_reason ErrorKind.InvalidFilename = codes "the name is too long"
open_reason ErrorKind.OutOfMemory = codes "no memory"
open_reason _ = codes "it can't be opened"

-- the name as a message shows it: quotes stand for an empty one
abbrev pub shown_name : List ℕ → List ℕ
shown_name name = if length name == 0 then codes "''" else name

-- what is said of a file that can't be opened: its name and the reason
abbrev pub unopened_text : List ℕ → List ℕ → List ℕ
unopened_text name reason = codes "sysmem: " ++ shown_name name ++ codes ": " ++ reason

-- what is said of a file that stands where a command is to stand
abbrev pub misplaced_text : List ℕ → List ℕ
misplaced_text name = codes "sysmem: no such command: " ++ name ++ codes "; try sysmem run FILE"

-- a point or a slash stands in the name
abbrev pub has_point_or_slash : List ℕ → Bool
has_point_or_slash name = list_any (λ c. c == 46) name || list_any (λ c. c == 47) name

-- the word in the place of a command, if it is the name of a file
abbrev pub file_in : Option (List ℕ) → Option (List ℕ)
file_in None = None
file_in (Some word) = if has_point_or_slash word then Some word else None

-- how far a search is, from the start of its line: how many states it met, and how many seconds it took
abbrev pub reached_text : ℕ → Option ℕ → List ℕ
reached_text states None = codes "\r" ++ decimal states ++ codes " states"
reached_text states (Some seconds) = codes "\r" ++ decimal states ++ codes " states, " ++ decimal seconds ++ codes " s"
