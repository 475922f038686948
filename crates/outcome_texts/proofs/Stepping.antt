-- The steps of lines that are left.
use Rattle.outcome_texts.proofs.Common.{Label, List, None, Some, [], ap, drop, ends_found, is_end, number_and_line, position, steps_from}
use Rattle.outcome_texts.proofs.Common.{take, unended_none, whole_lines, ℕ, ◌++◌, ◌+◌, ◌≡◌}

-- the first line that ends comes first
pub steps_first : (labels : List Label) (number : ℕ) (bytes : List ℕ) (at : ℕ) → position is_end bytes ≡ Some at →
    steps_from labels number (whole_lines bytes)
    ≡ number_and_line labels number (take at bytes) ++ steps_from labels (number + 1) (whole_lines (drop (at + 1) bytes))
steps_first labels number bytes at is = ap (steps_from labels number) (ends_found [] bytes at is).lines

-- without an end there is no line
pub steps_none : (labels : List Label) (number : ℕ) (bytes : List ℕ) → position is_end bytes ≡ None →
    steps_from labels number (whole_lines bytes) ≡ []
steps_none labels number bytes is = ap (steps_from labels number) (unended_none [] bytes is).lines
