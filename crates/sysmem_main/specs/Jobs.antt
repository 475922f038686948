-- What the program does with a script, and what it then leaves.
use Rattle.std.specs.Prelude.{◌≡◌, ◌⊎◌, ℕ, Bool, true, false, List, Option, Some, None, codes, option_map}
use Rattle.clap.specs.Matches.{subcommand_name_of}
use Rattle.clap.specs.declared.parser.matches.ArgMatches.{ArgMatches}
use Rattle.command_line.specs.Asked.{AreAsked, HasCertificate, HasFailures, HasFormat, HasList, HasPatience, HasRecord, HasSearch}
use Rattle.command_line.specs.Asked.{HasSummary, HasUntil, HasVanishing, IsFile, IsTask, subcommand_text, value_text}
use Rattle.command_line.specs.declared.request.CommandLine.{CommandLine}
use Rattle.command_line.specs.declared.task.Search.{Search}
use Rattle.command_line.specs.declared.task.ScriptTask.{ScriptTask}
use Rattle.explore_model.specs.declared.plan.Waiting.{Waiting}
use Rattle.outcome_runs.specs.declared.job.SearchJob.{SearchJob}
use Rattle.outcome_runs.specs.Endings.{EndsExplored}
use Rattle.script_draw.specs.Draws.{EndsDrawn}
use Rattle.script_explain.specs.Comparisons.{EndsChecked}
use Rattle.script_explain.specs.Explanations.{EndsExplained}
use Rattle.sm_script.specs.Endings.{Ends}
use Rattle.sm_script.specs.Scenes.{Setting}
use Rattle.thread_runs.specs.Endings.{EndsThreads, program_limits}
use Rattle.thread_runs.specs.declared.job.Output.{Output}
use Rattle.thread_runs.specs.declared.job.TheConstants.{MOST_REPEATS}

-- what a run of actors writes: its record too, if that is asked for
abbrev pub output_for : Bool → Output
output_for true = Output.Transcript
output_for false = Output.Report

-- how many times more an actor makes a step at most: it is patient if that is asked for
abbrev pub repeats_for : Bool → ℕ
repeats_for true = MOST_REPEATS
repeats_for false = 0

-- which lines wait in a search, as `outcome_runs` names it
abbrev pub waiting_for : Bool → Bool → Waiting
waiting_for true patient = Waiting.Never
waiting_for false true = Waiting.Always
waiting_for false false = Waiting.Repeated

-- the search that is asked for, as `outcome_runs` names it
abbrev pub job_for : ℕ → Search → SearchJob
job_for pages search = record {
  pages = pages;
  waiting = waiting_for search.once search.is_patient;
  at_end = search.at_end;
  vanish = search.vanish;
  most = search.most;
  outcome = search.outcome;
  states = search.states;
  certifies = search.certifies;
  lists = search.lists;
}

-- a pool of this many pages, and the greatest limits
abbrev pub setting_of : ℕ → Setting
setting_of pages = record { pool = pages; limits = program_limits }

-- what is left of the input, what the output has, and what was told of faults, as far as the streams tell their bytes
pub record Streams : Type 0 where
  pub left : Option (List ℕ)
  pub written : Option (List ℕ)
  pub told : Option (List ℕ)

-- the streams after a task: what is left of the input, and what was written to each output
abbrev pub streams : Option (List ℕ) → Option (List ℕ) → Option (List ℕ) → Streams
streams left written told = record { left = left; written = written; told = told }

-- the task was done with the script in the input and a pool of this many pages, and the program ends with this status
abbrev pub IsPlayed : ScriptTask → ℕ → Streams → Streams → ℕ → Type 0
IsPlayed ScriptTask.Run pages before after status =
    Ends (setting_of pages) before.left after.left before.written after.written before.told after.told status
IsPlayed (ScriptTask.Threads has_record is_patient) pages before after status =
    EndsThreads (output_for has_record) (repeats_for is_patient) pages before.left after.left before.written after.written
    before.told after.told status
IsPlayed (ScriptTask.Explain only_failures has_summary) pages before after status =
    EndsExplained (setting_of pages) (record { only_failures = only_failures; has_summary = has_summary }) before.left after.left
    before.written after.written before.told after.told status
IsPlayed (ScriptTask.Draw view) pages before after status =
    EndsDrawn (setting_of pages) view before.left after.left before.written after.written before.told after.told status
IsPlayed ScriptTask.Check pages before after status =
    EndsChecked (setting_of pages) before.left after.left before.written after.written before.told after.told status
IsPlayed (ScriptTask.Explore search) pages before after status =
    EndsExplored (job_for pages search) before.left after.left before.written after.written before.told after.told status

-- the script was in a file, whose bytes are these: the input is as before
pub record PlaysFile (task : ScriptTask) (pages : ℕ) (before after : Streams) (status : ℕ) : Type 0 where
  pub left_before : Option (List ℕ)
  pub left : Option (List ℕ)
  pub input : after.left ≡ before.left
  pub played : IsPlayed task pages (streams left_before before.written before.told) (streams left after.written after.told) status

-- the script is in the input if no file is named; else it is in that file, or the file can't be opened
abbrev pub IsRead : Option (List ℕ) → ScriptTask → ℕ → Streams → Streams → ℕ → Type 0
IsRead None task pages before after status = IsPlayed task pages before after status
IsRead (Some name) task pages before after status =
    ((after ≡ before) × (status ≡ 1)) ⊎ PlaysFile task pages before after status

-- what the matches of a parse ask for
pub record IsAsked (matches : ArgMatches) (request : CommandLine) : Type 0 where
  pub pages : AreAsked (value_text (codes "pages") matches) (Some request.pages.count)
  pub task : IsTask (subcommand_name_of matches) request.task
  pub format : HasFormat (subcommand_text (codes "format") matches) request.task
  pub until : HasUntil (value_text (codes "at") matches) (value_text (codes "line") matches) (value_text (codes "failure") matches)
      request.task
  pub failures : HasFailures (value_text (codes "failures") matches) request.task
  pub summary : HasSummary (value_text (codes "summary") matches) request.task
  pub record_asked : HasRecord (value_text (codes "record") matches) request.task
  pub patience : HasPatience (value_text (codes "patient") matches) request.task
  pub search : HasSearch (value_text (codes "once") matches) (value_text (codes "outcome") matches) (value_text (codes "states") matches)
      request.task
  pub certified : HasCertificate (value_text (codes "certify") matches) request.task
  pub listed : HasList (value_text (codes "list") matches) request.task
  pub vanishing : HasVanishing (subcommand_text (codes "vanish") matches) (value_text (codes "most") matches)
      (value_text (codes "end") matches) request.task
  pub file : IsFile (subcommand_text (codes "file") matches) (option_map (λ name. name.now) request.file)

-- what the matches ask for was done
pub record IsDone (matches : ArgMatches) (before after : Streams) (status : ℕ) : Type 0 where
  pub request : CommandLine
  pub asked : IsAsked matches request
  pub read : IsRead (option_map (λ name. name.now) request.file) request.task request.pages.count before after status

-- the matches are answered: by status 2 and nothing else if they ask for no number of pages that a pool has
abbrev pub IsAnswered : ArgMatches → Streams → Streams → ℕ → Type 0
IsAnswered matches before after status =
    (AreAsked (value_text (codes "pages") matches) None × ((after ≡ before) × (status ≡ 2)))
    ⊎ IsDone matches before after status
