-- Why a line of a script of actors is bad: a reason for each test, in the order in which the tests are tried.
use Rattle.std.specs.Prelude.{ℕ, ◌==◌, ◌-◌, if◌then◌else◌, List, length, codes, slice_get, Option, Some, None}
use Rattle.std.specs.Option.{option_map_or}
use Rattle.script_lines.specs.declared.line.Line.{Line}
use Rattle.script_lines.specs.Lines.{line_of}
use Rattle.script_lines.specs.Pieces.{last_part, whole_lines}
use Rattle.report_io.specs.Reasons.{line_reason, reason_text}

-- the line has a form, and none that a script of actors does not take; else the client does not join
abbrev pub form_reason : Option Line → List ℕ
form_reason None = codes "no such line"
form_reason (Some (Line.Show view)) = codes "a script of actors has no show"
form_reason (Some (Line.Join client)) = codes "each client joins once, before all steps"
form_reason (Some _) = codes "it names a client that does not join"

-- why a line with an end is bad: the first test of any line that fails, whatever labels stand for
abbrev pub actor_line_reason : List ℕ → List ℕ
actor_line_reason line = option_map_or reason_text (line_reason None line) (form_reason (line_of line))

-- why a script without such a line is bad, by what stands behind its last line
abbrev pub rest_reason : List ℕ → List ℕ
rest_reason rest = if length rest == 0 then codes "no client joins" else codes "the last line lacks a newline"

-- the line of this number, from 1, if the script has it
abbrev pub line_at : List ℕ → ℕ → Option (List ℕ)
line_at script number = slice_get (whole_lines script) (number - 1)

-- why the line of this number is the first bad one
abbrev pub reason_at : List ℕ → ℕ → List ℕ
reason_at script number = option_map_or actor_line_reason (line_at script number) (rest_reason (last_part script))
