-- Lines by their numbers.
use Rattle.std.proofs.Common.{◌≡◌, [], ◌∷◌, ℕ, suc, slice_get, ◌+◌, ◌-◌, ◌<◌, ◌≤◌, List, take, drop, Some, None, refl, arith}
use Rattle.std.specs.List.{position}
use Rattle.script_lines.proofs.Piecing.{is_end, ends_found, unended_none}
use Rattle.script_lines.specs.Pieces.{last_part, whole_lines}
use Rattle.report_io.specs.ActorReasons.{line_at}

-- the first line is that of the number 1, or 0
pub first_line : (rest : List ℕ) (at number : ℕ) → position is_end rest ≡ Some at → number ≤ 1 →
    Some (take at rest) ≡ line_at rest number
first_line rest at number found least =
    let zero : number - 1 ≡ 0 = omega arith in
    rw zero (rw (ends_found [] rest at found).lines refl)

-- behind the first of some lines stand the others
one_less : (all others : List (List ℕ)) (first : List ℕ) (n m : ℕ) → all ≡ first ∷ others → n ≡ suc m →
    slice_get others m ≡ slice_get all n
one_less all others first n m is more = rw is (rw more refl)

-- a later line is that of the number before, behind the first
pub later_line : (rest : List ℕ) (at number : ℕ) → position is_end rest ≡ Some at → 1 < number →
    line_at (drop (at + 1) rest) (number - 1) ≡ line_at rest number
later_line rest at number found later =
    one_less (whole_lines rest) (whole_lines (drop (at + 1) rest)) (take at rest) (number - 1) (number - 1 - 1)
    (ends_found [] rest at found).lines (omega arith)

-- the rest stands behind the first line
pub later_rest : (rest : List ℕ) (at : ℕ) → position is_end rest ≡ Some at →
    last_part (drop (at + 1) rest) ≡ last_part rest
later_rest rest at found = rw (ends_found [] rest at found).rest refl

-- without an end there is no line, and all is the rest
pub no_line : (rest : List ℕ) (number : ℕ) → position is_end rest ≡ None → None ≡ line_at rest number
no_line rest number none = rw (unended_none [] rest none).lines refl

-- the same: without an end all bytes are the rest
pub all_rest : (rest : List ℕ) → position is_end rest ≡ None → rest ≡ last_part rest
all_rest rest none = rw (unended_none [] rest none).rest refl
