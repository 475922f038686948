-- What the words of the command line ask for.
use Rattle.std.specs.Prelude.{◌≡◌, ◌≢◌, ◌⊎◌, ◌≤◌, ◌<◌, ◌^◌, ℕ, Bool, true, false, List, Option, Some, None, SomeIff, ⊤, codes, option_and_then, option_map}
use Rattle.std.specs.Str.Parse.{IsNumeral, digits_value, without_leading_plus}
use Rattle.sm_names.specs.declared.rules.TheConstants.{MAX_PAGES}
use Rattle.clap.specs.Words.{first_of, one_of, subcommand_rows_of}
use Rattle.clap.specs.declared.parser.matches.ArgMatches.{ArgMatches}
use Rattle.report_io.specs.declared.view.Format.{Format}
use Rattle.command_line.specs.declared.task.Search.{Search}
use Rattle.command_line.specs.declared.task.ScriptTask.{ScriptTask}
use Rattle.report_io.specs.declared.view.Until.{Until}

-- what is read as a value of the subcommand's option of this name, given or its default: there is none without a subcommand
abbrev pub value_text : List ℕ → ArgMatches → Option (List ℕ)
value_text id matches = option_and_then (λ sub. one_of id sub.1) (subcommand_rows_of matches)

-- the number that decimal digits write, where a plus may stand first
abbrev pub written_number : List ℕ → ℕ
written_number text = digits_value 10 (without_leading_plus text)

-- the text is such a number, and a pool may have as many pages
pub record IsCount (text : List ℕ) : Type 0 where
  pub numeral : IsNumeral 10 (without_leading_plus text)
  pub in_range : (1 ≤ written_number text) × (written_number text ≤ MAX_PAGES)

-- this many pages are asked for, or none where there is no such text or it is no such number
abbrev pub AreAsked : Option (List ℕ) → Option ℕ → Type 0
AreAsked None count = count ≡ None
AreAsked (Some text) count = SomeIff count (IsCount text) (written_number text)

-- the text of an option or argument of the subcommand, in the same way
abbrev pub subcommand_text : List ℕ → ArgMatches → Option (List ℕ)
subcommand_text id matches = option_and_then (λ sub. first_of id sub.1) (subcommand_rows_of matches)

-- what the subcommand of this name does with a script: it answers each line if it has none of the other names
abbrev pub IsTask : Option (List ℕ) → ScriptTask → Type 0
IsTask None task = task ≡ ScriptTask.Run
IsTask (Some name) ScriptTask.Run = (name ≢ codes "threads") × (name ≢ codes "explain") × (name ≢ codes "draw") × (name ≢ codes "check")
    × (name ≢ codes "explore")
IsTask (Some name) (ScriptTask.Threads output patience) = name ≡ codes "threads"
IsTask (Some name) (ScriptTask.Explain failures summary) = name ≡ codes "explain"
IsTask (Some name) (ScriptTask.Draw view) = name ≡ codes "draw"
IsTask (Some name) ScriptTask.Check = name ≡ codes "check"
IsTask (Some name) (ScriptTask.Explore search) = name ≡ codes "explore"

-- the format of this name: text if it has none of the other names
abbrev pub IsFormat : Option (List ℕ) → Format → Type 0
IsFormat name Format.Text = (name ≢ Some (codes "dot")) × (name ≢ Some (codes "svg"))
IsFormat name Format.Dot = name ≡ Some (codes "dot")
IsFormat name Format.Svg = name ≡ Some (codes "svg")

-- the format of a picture, if one is asked for
abbrev pub HasFormat : Option (List ℕ) → ScriptTask → Type 0
HasFormat name (ScriptTask.Draw view) = IsFormat name view.format
HasFormat name task = ⊤

-- the text is a number of 64 bits
pub record IsNumber (text : List ℕ) : Type 0 where
  pub numeral : IsNumeral 10 (without_leading_plus text)
  pub fits : written_number text < 2 ^ 64

-- the number that is read of a text: none if there is no text or it is no number
abbrev pub IsNumberRead : Option (List ℕ) → Option ℕ → Type 0
IsNumberRead None number = number ≡ None
IsNumberRead (Some text) number = SomeIff number (IsNumber text) (written_number text)

-- behind what the trees are drawn: the event that is asked for, or else the line, or else the failure
abbrev pub until_asked : Option ℕ → Option ℕ → Option ℕ → Until
until_asked (Some event) line failure = Until.Event event
until_asked None (Some line) failure = Until.Line line
until_asked None None (Some failure) = Until.Failure failure
until_asked None None None = Until.Last

-- the same, read of these texts
pub record IsUntil (event line failure : Option (List ℕ)) (until : Until) : Type 0 where
  pub event_number : Option ℕ
  pub line_number : Option ℕ
  pub failure_number : Option ℕ
  pub event_read : IsNumberRead event event_number
  pub line_read : IsNumberRead line line_number
  pub failure_read : IsNumberRead failure failure_number
  pub is : until ≡ until_asked event_number line_number failure_number

-- behind what the trees of a picture are drawn, if one is asked for
abbrev pub HasUntil : Option (List ℕ) → Option (List ℕ) → Option (List ℕ) → ScriptTask → Type 0
HasUntil event line failure (ScriptTask.Draw view) = IsUntil event line failure view.until
HasUntil event line failure task = ⊤

-- the file that this word names: `-` stands for standard input
abbrev pub IsFile : Option (List ℕ) → Option (List ℕ) → Type 0
IsFile word None = (word ≡ None) ⊎ (word ≡ Some (codes "-"))
IsFile word (Some name) = (word ≡ Some name) × (name ≢ codes "-")

-- a flag is set if it was given
pub record IsFlag (text : Option (List ℕ)) (flag : Bool) : Type 0 where
  pub none : text ≡ None → flag ≡ false
  pub set : text ≡ Some (codes "true") → flag ≡ true
  pub unset : text ≡ Some (codes "false") → flag ≡ false

-- whether a run of actors writes its record
abbrev pub HasRecord : Option (List ℕ) → ScriptTask → Type 0
HasRecord text (ScriptTask.Threads output patience) = IsFlag text output
HasRecord text task = ⊤

-- whether actors make steps again while nothing is there for them
abbrev pub HasPatience : Option (List ℕ) → ScriptTask → Type 0
HasPatience text (ScriptTask.Threads output patience) = IsFlag text patience
HasPatience text (ScriptTask.Explore search) = IsFlag text search.is_patient
HasPatience text task = ⊤

-- whether an explanation tells only the failures
abbrev pub HasFailures : Option (List ℕ) → ScriptTask → Type 0
HasFailures text (ScriptTask.Explain failures summary) = IsFlag text failures
HasFailures text task = ⊤

-- whether an explanation ends with a summary
abbrev pub HasSummary : Option (List ℕ) → ScriptTask → Type 0
HasSummary text (ScriptTask.Explain failures summary) = IsFlag text summary
HasSummary text task = ⊤

-- how many states are met at most, if this number is asked for
abbrev pub states_asked : Option ℕ → ℕ
states_asked (Some states) = states
states_asked None = 1000000

-- the outcome and the number of states that these texts ask for
pub record IsSearch (outcome states : Option (List ℕ)) (search : Search) : Type 0 where
  pub outcome_read : IsNumberRead outcome search.outcome
  pub states_number : Option ℕ
  pub states_read : IsNumberRead states states_number
  pub states_is : search.states ≡ states_asked states_number

-- which search through the orders is asked for, if one is
abbrev pub HasSearch : Option (List ℕ) → Option (List ℕ) → Option (List ℕ) → ScriptTask → Type 0
HasSearch once outcome states (ScriptTask.Explore search) = IsFlag once search.once × IsSearch outcome states search
HasSearch once outcome states task = ⊤

-- whether it must be known that no outcome is missing
abbrev pub HasCertificate : Option (List ℕ) → ScriptTask → Type 0
HasCertificate text (ScriptTask.Explore search) = IsFlag text search.certifies
HasCertificate text task = ⊤

-- whether the report of a search is in lines for programs
abbrev pub HasList : Option (List ℕ) → ScriptTask → Type 0
HasList text (ScriptTask.Explore search) = IsFlag text search.lists
HasList text task = ⊤

-- how many clients vanish at most, if this number is asked for
abbrev pub most_asked : Option ℕ → ℕ
most_asked (Some most) = most
most_asked None = 1

-- which clients these texts let vanish, and how many at most
pub record IsVanishing (vanish most : Option (List ℕ)) (search : Search) : Type 0 where
  pub clients : option_map (λ text. text.now) search.vanish ≡ vanish
  pub most_number : Option ℕ
  pub most_read : IsNumberRead most most_number
  pub most_is : search.most ≡ most_asked most_number

-- who vanishes in a search through the orders, if one is asked for
abbrev pub HasVanishing : Option (List ℕ) → Option (List ℕ) → Option (List ℕ) → ScriptTask → Type 0
HasVanishing vanish most end (ScriptTask.Explore search) = IsFlag end search.at_end × IsVanishing vanish most search
HasVanishing vanish most end task = ⊤
