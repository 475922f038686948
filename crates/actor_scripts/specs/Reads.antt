-- What is left of a reader whose script of actors was read.
use Rattle.std.specs.Prelude.{◌≡◌, ℕ, ◌≤◌, List, length, Option, Ok, Err, Result, ⊤}
use Rattle.std.specs.Io.KnownBytes.{Consumes, IsAtEnd}
use Rattle.script_lines.specs.declared.TheConstants.{MOST_BYTES}
use Rattle.actor_scripts.specs.declared.actor_list.ActorList.{ActorList}
use Rattle.actor_scripts.specs.declared.fault.ActorScriptFault.{ActorScriptFault}
use Rattle.actor_scripts.specs.declared.halt.Halt.{Halt}
use Rattle.actor_scripts.specs.ActorLists.{Actors, script_actors, actors_of}

-- the bytes came to their end, and are a script of no more bytes than it may have
pub record ReadsWhole (before after : Option (List ℕ)) (script : List ℕ) : Type 0 where
  pub taken : Consumes before after script
  pub at_end : IsAtEnd after
  pub within : length script ≤ MOST_BYTES

-- these bytes came before the reader failed or more came than a script may have, or memory was refused
pub record ReadsPart (before after : Option (List ℕ)) : Type 0 where
  pub came : List ℕ
  pub taken : Consumes before after came

-- why a script was not read to its end; it is not judged then
abbrev pub Unread : Option (List ℕ) → Option (List ℕ) → ActorScriptFault → Type 0
Unread before after ActorScriptFault.ReadFault = ReadsPart before after
Unread before after (ActorScriptFault.BadLine number) = ⊥
Unread before after ActorScriptFault.NoMemory = ReadsPart before after

-- why a script that was judged so has no actors
abbrev pub IsScriptFault : Result Actors ℕ → ActorScriptFault → Type 0
IsScriptFault judged ActorScriptFault.ReadFault = ⊥
IsScriptFault judged (ActorScriptFault.BadLine number) = judged ≡ Err number
IsScriptFault judged ActorScriptFault.NoMemory = ⊤

-- the fault that is told of a line that was not read, the one of this number
abbrev pub line_fault : ℕ → Halt → ActorScriptFault
line_fault number Halt.BadLine = ActorScriptFault.BadLine number
line_fault number Halt.NoMemory = ActorScriptFault.NoMemory

-- all of a script was read, and these are its actors
pub record ReadsActors (before after : Option (List ℕ)) (list : ActorList) : Type 0 where
  pub script : List ℕ
  pub whole : ReadsWhole before after script
  pub is_list : script_actors script ≡ Ok (actors_of list)

-- all of a script was read, and this line is its first bad one
pub record IsBad (before after : Option (List ℕ)) (number : ℕ) : Type 0 where
  pub script : List ℕ
  pub whole : ReadsWhole before after script
  pub bad : script_actors script ≡ Err number

-- why a script of actors was not read
abbrev pub Fails : Option (List ℕ) → Option (List ℕ) → ActorScriptFault → Type 0
Fails before after ActorScriptFault.ReadFault = ReadsPart before after
Fails before after (ActorScriptFault.BadLine number) = IsBad before after number
Fails before after ActorScriptFault.NoMemory = ReadsPart before after
