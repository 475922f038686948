-- Lines that begin with spaces: in a transcript they are no lines of the script.
use Rattle.std.specs.Prelude.{ℕ, Bool, nat_eq, not, if◌then◌else◌, List, ◌++◌, codes, drop, Option, Some, None}
use Rattle.std.specs.List.{filter, flat_map, starts_with}
use Rattle.script_lines.specs.Pieces.{whole_lines}

-- the line begins with two spaces
abbrev pub is_indented : List ℕ → Bool
is_indented line = starts_with nat_eq line (codes "  ")

-- what stands behind the two spaces, if the line begins with them
abbrev pub behind_indent : List ℕ → Option (List ℕ)
behind_indent line = if is_indented line then Some (drop 2 line) else None

-- the lines of these that are not indented: those of the script
abbrev pub unindented : List (List ℕ) → List (List ℕ)
unindented lines = filter (λ line. not (is_indented line)) lines

-- the line with its end, behind four spaces
abbrev pub fact_line : List ℕ → List ℕ
fact_line line = codes "    " ++ line ++ codes "\n"

-- the whole lines of the text, each behind four spaces
abbrev pub indented : List ℕ → List ℕ
indented text = flat_map fact_line (whole_lines text)
