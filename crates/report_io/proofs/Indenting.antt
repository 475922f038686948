-- Lines that are put behind four spaces, one after another.
use Rattle.std.proofs.Common.{◌≡◌, ℕ, ◌+◌, List, [], ◌++◌, take, drop, ap, Some, None}
use Rattle.std.specs.List.{flat_map, position}
use Rattle.script_lines.proofs.Piecing.{is_end, ends_found, unended_none}
use Rattle.report_io.specs.IndentedLines.{fact_line, indented}

-- the first line comes first
pub indented-first : (rest : List ℕ) (at : ℕ) → position is_end rest ≡ Some at →
    indented rest ≡ fact_line (take at rest) ++ indented (drop (at + 1) rest)
indented-first rest at found = ap (flat_map fact_line) (ends_found [] rest at found).lines

-- no line ends, so that none is added
pub indented-none : (rest : List ℕ) → position is_end rest ≡ None → indented rest ≡ []
indented-none rest none = ap (flat_map fact_line) (unended_none [] rest none).lines
