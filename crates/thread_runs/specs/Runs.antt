-- What a run of actors leaves.
use Rattle.std.specs.Prelude.{◌≡◌, ℕ, List, [], ◌++◌, codes, length, Option, Ok, Result, MatchResult}
use Rattle.std.specs.Io.KnownBytes.{Appends}
use Rattle.std.specs.List.{AllZip}
use Rattle.sm_names.specs.Bounds.{Bound}
use Rattle.sm_names.specs.Legality.{IsLegal}
use Rattle.sm_names.specs.Marks.{Entry}
use Rattle.event_laws.specs.Lines.{lines_of}
use Rattle.event_laws.specs.Members.{joined}
use Rattle.event_laws.specs.Parts.{part}
use Rattle.service_lock.specs.Comings.{SomeCoreCame}
use Rattle.client_vanish.specs.declared.fault.GatherFault.{GatherFault}
use Rattle.client_vanish.specs.Vanishings.{Remains}
use Rattle.actor_scripts.specs.declared.step.Step.{Step}
use Rattle.actor_scripts.specs.ActorLists.{Actors, script_actors}
use Rattle.actor_scripts.specs.Reads.{IsBad, ReadsPart, ReadsWhole}
use Rattle.client_actors.specs.ActorSteps.{HasFinished}
use Rattle.thread_runs.specs.Reports.{report_text}
use Rattle.thread_runs.specs.RunPlays.{JoinsFirst}
use Rattle.script_labels.specs.Records.{record_text}
use Rattle.script_lines.specs.declared.label.Label.{Label}
use Rattle.script_lines.specs.Written.{WritesPart}
use Rattle.thread_runs.specs.declared.fault.ThreadsFault.{ThreadsFault}
use Rattle.thread_runs.specs.declared.job.Output.{Output}

-- what the record has of the client is a play of these steps, each made at most so many times more, and the events of its vanishing
pub record IsPlayed (history : List Entry) (clients : List ℕ) (repeats : ℕ) (steps : List Step) (client : ℕ) : Type 0 where
  pub left : Remains
  pub its_id : left.client.id ≡ client
  pub its_part : left.client.own ≡ part client history
  pub played : HasFinished clients repeats steps left

-- the lines of the report of a record, each behind this front
abbrev pub report_of : List ℕ → List Label → List Entry → List ℕ
report_of front labels history = report_text front labels (length history) (lines_of history)

-- what is told of a record whose clients have these labels: the report, or the record as a transcript and then the lines of
-- the report, each behind a hash and a space
abbrev pub told_text : Output → List Label → List Entry → List ℕ
told_text Output.Report labels history = report_of [] labels history
told_text Output.Transcript labels history = record_text labels history ++ report_of (codes "# ") labels history

-- the text is what is told of a legal history, with a pool of this many pages and these limits, in which first the actors of the
-- company joined in their order, and nobody else made an event, and each of them played its script; a core came by its events
pub record IsRunText (output : Output) (repeats pages : ℕ) (limits : Bound) (company : Actors) (text : List ℕ) : Type 0 where
  pub history : List Entry
  pub legal : IsLegal pages limits history
  pub came : SomeCoreCame pages limits history
  pub first : JoinsFirst (length company.scripts) history
  pub played : AllZip (IsPlayed history (joined history) repeats) company.scripts (joined history)
  pub told : text ≡ told_text output company.labels history

-- all of a script was read, and it has this company
pub record IsRead (before after : Option (List ℕ)) (company : Actors) : Type 0 where
  pub script : List ℕ
  pub whole : ReadsWhole before after script
  pub is_list : script_actors script ≡ Ok company

-- all of a script was read, its actors ran, and what was written is said of what is told of them
pub record HasRunActors (output : Output) (repeats pages : ℕ) (limits : Bound) (before after : Option (List ℕ)) (Written : List ℕ →
    Type 0) : Type 0 where
  pub company : Actors
  pub read : IsRead before after company
  pub text : List ℕ
  pub is_told : IsRunText output repeats pages limits company text
  pub written : Written text

-- all of a script was read, and its actors may have run, but nothing was written
pub record HasNoReport (before after old new : Option (List ℕ)) : Type 0 where
  pub company : Actors
  pub read : IsRead before after company
  pub silent : new ≡ old

-- why there was no run, or nothing was told of it, or not all of that was written
abbrev pub RunFails : Output → ℕ → ℕ → Bound → Option (List ℕ) → Option (List ℕ) → Option (List ℕ) → Option (List ℕ) → ThreadsFault → Type 0
RunFails output repeats pages limits before after old new ThreadsFault.ReadFault = ReadsPart before after × (new ≡ old)
RunFails output repeats pages limits before after old new ThreadsFault.WriteFault = HasRunActors output repeats pages limits before
    after (WritesPart old new)
RunFails output repeats pages limits before after old new (ThreadsFault.BadLine number) = IsBad before after number × (new ≡ old)
RunFails output repeats pages limits before after old new ThreadsFault.HistoryFull = HasNoReport before after old new
RunFails output repeats pages limits before after old new ThreadsFault.NoMemory = ReadsPart before after × (new ≡ old)
RunFails output repeats pages limits before after old new ThreadsFault.NoThread = HasNoReport before after old new
RunFails output repeats pages limits before after old new (ThreadsFault.Gather GatherFault.NoMemory) = ⊥
RunFails output repeats pages limits before after old new (ThreadsFault.Gather fault) = HasNoReport before after old new

-- why nothing is told of the actors
abbrev pub IsNotTold : Option (List ℕ) → Option (List ℕ) → ThreadsFault → Type 0
IsNotTold before after ThreadsFault.ReadFault = ReadsPart before after
IsNotTold before after ThreadsFault.WriteFault = ⊥
IsNotTold before after (ThreadsFault.BadLine number) = IsBad before after number
IsNotTold before after ThreadsFault.NoMemory = ReadsPart before after
IsNotTold before after (ThreadsFault.Gather GatherFault.NoMemory) = ⊥
IsNotTold before after _ = (company : Actors) × IsRead before after company

-- a run of actors: what is to be told of them was written, or there is a fault. Where the script could not be read or has a bad line, that
-- is the fault, unless memory was refused before
abbrev pub RunsThreads : Output → ℕ → ℕ → Bound → Option (List ℕ) → Option (List ℕ) → Option (List ℕ) → Option (List ℕ) →
    Result (Unit {0}) ThreadsFault → Type 0
RunsThreads output repeats pages limits before after old new result =
    MatchResult result (λ _. HasRunActors output repeats pages limits before after (Appends old new)) (RunFails output repeats pages
    limits before after old new)
