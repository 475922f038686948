-- From the ends of actors to what is gathered. No public clause cites this module.
use Rattle.std.specs.Prelude.{◌≡◌, ℕ, ◌==◌, if◌then◌else◌, List, [], ◌∷◌, ◌++◌, length, reverse, Option, Some, None, ◌⊎◌, ⊤}
use Rattle.std.specs.List.{All, AllZip}
use Rattle.std.specs.Option.{option_or}
use Rattle.sm_names.specs.declared.outcomes.StepFault.{StepFault}
use Rattle.sm_names.specs.Bounds.{Bound}
use Rattle.sm_names.specs.Legality.{IsLegal}
use Rattle.event_laws.specs.declared.line.ClientLine.{ClientLine}
use Rattle.event_laws.specs.Members.{joined}
use Rattle.service_lock.specs.Comings.{SomeCoreCame}
use Rattle.service_lock.specs.States.{View}
use Rattle.script_lines.specs.declared.label.Label.{Label}
use Rattle.client_vanish.specs.declared.fault.GatherFault.{GatherFault}
use Rattle.client_vanish.specs.declared.gathering.Holding.{Holding}
use Rattle.client_vanish.specs.Gatherings.{IsSo, Matches, ids_of}
use Rattle.client_vanish.specs.Vanishings.{held_in, sorted}
use Rattle.client_actors.specs.declared.gate.ActorEnd.{ActorEnd}
use Rattle.thread_runs.specs.declared.fault.ThreadsFault.{ThreadsFault}
use Rattle.thread_runs.specs.declared.job.Output.{Output}
use Rattle.thread_runs.specs.Company.{first_unfit}
use Rattle.thread_runs.specs.RunPlays.{JoinsFirst}
use Rattle.thread_runs.specs.Runs.{told_text}

-- why a call was not made, as a fault of the run
abbrev pub step_fault : StepFault → ThreadsFault
step_fault StepFault.HistoryFull = ThreadsFault.HistoryFull
step_fault StepFault.NoMemory = ThreadsFault.NoMemory

-- why the actor did not vanish, if it did not
abbrev pub end_fault : {E S W : Type 0} → ActorEnd E S W → Option ThreadsFault
end_fault (ActorEnd.Wrecked wreck) = None
end_fault (ActorEnd.Stopped client held fault) = Some (step_fault fault)
end_fault (ActorEnd.NotStarted client) = Some ThreadsFault.NoThread

-- the fault of the first of the actors that did not vanish
abbrev pub first_fault : {E S W : Type 0} → List (ActorEnd E S W) → Option ThreadsFault
first_fault [] = None
first_fault (end ∷ ends) = option_or (end_fault end) (first_fault ends)

-- the part that the actor leaves: its remains if it vanished, or itself with what it holds
abbrev pub IsLeft : {E S W : Type 0} → ActorEnd E S W → Holding E S W → Type 0
IsLeft (ActorEnd.Wrecked wreck) (Holding.Wrecked remains) = remains ≡ wreck
IsLeft (ActorEnd.Stopped client held fault) (Holding.Present one its) = (one ≡ client) × (held_in its ≡ held_in held)
IsLeft (ActorEnd.NotStarted client) (Holding.Present one its) = (one ≡ client) × (held_in its ≡ sorted [])
IsLeft _ _ = ⊥

-- some of the actors are parted, and these are the others, the last first
pub record PartedTo {E S W : Type 0} (all rest : List (ActorEnd E S W)) (parts : List (Holding E S W)) (found : Option ThreadsFault) : Type
    0 where
  pub done : List (ActorEnd E S W)
  pub split : all ≡ done ++ reverse rest
  pub left : AllZip IsLeft done parts
  pub first : found ≡ first_fault done

-- the client of a line
abbrev pub line_client : ClientLine → ℕ
line_client line = line.client

-- the first client at which the clients of the lines and those of the parts differ: that of the part, or that of the line if all
-- parts come before it
abbrev pub first_stray : List ℕ → List ℕ → Option ℕ
first_stray [] [] = None
first_stray [] (part ∷ parts) = Some part
first_stray (line ∷ lines) [] = Some line
first_stray (line ∷ lines) (part ∷ parts) =
    let later = first_stray lines parts in if line == part then later else Some part

-- the record is a legal history with this pool and these limits, a core came by its events, the clients that joined are just those
-- of the parts, in order, each own list is its client's part, and the text is what is told of it
pub record TellsRecord {E S W : Type 0} (output : Output) (pages : ℕ) (limits : Bound) (s : View) (labels : List Label)
    (parts : List (Holding E S W)) (text : List ℕ) : Type 0 where
  pub legal : IsLegal pages limits s.history
  pub came : SomeCoreCame pages limits s.history
  pub ordered : joined s.history ≡ ids_of parts
  pub own_lists : All (Matches s.history) parts
  pub told : text ≡ told_text output labels s.history

-- the same, where these clients joined before all other events, and these are theirs
pub record TellsCompany {E S W : Type 0} (output : Output) (pages : ℕ) (limits : Bound) (s : View) (labels : List Label)
    (parts : List (Holding E S W)) (text : List ℕ) : Type 0 where
  pub tells : TellsRecord output pages limits s labels parts text
  pub first : JoinsFirst (length parts) s.history

-- a client that joined has no part at its place, or a part has another client's line beside it: this is the first such client. Or an
-- event is not what the record of so many actors has there: this is the first such event
abbrev pub IsStray : {E S W : Type 0} → View → List (Holding E S W) → GatherFault → Type 0
IsStray s parts (GatherFault.MissingClient client) = first_stray (joined s.history) (ids_of parts) ≡ Some client
IsStray s parts (GatherFault.RecordMismatch event) = first_unfit (length parts) 0 s.history ≡ Some event
IsStray s parts _ = ⊥

-- why nothing is told of the record and these parts
abbrev pub IsUntold : {E S W : Type 0} → View → List (Holding E S W) → ThreadsFault → Type 0
IsUntold s parts ThreadsFault.NoMemory = ⊤
IsUntold s parts (ThreadsFault.Gather fault) = IsSo s parts fault ⊎ IsStray s parts fault
IsUntold s parts _ = ⊥

-- a fault of a run whose script was read
abbrev pub IsLate : ThreadsFault → Type 0
IsLate ThreadsFault.ReadFault = ⊥
IsLate ThreadsFault.WriteFault = ⊥
IsLate (ThreadsFault.BadLine number) = ⊥
IsLate (ThreadsFault.Gather GatherFault.NoMemory) = ⊥
IsLate _ = ⊤
