-- The claims of lines that are left.
use Rattle.outcome_texts.proofs.Common.{List, None, Some, [], ap, claim_text_of, claim_texts_from, drop, ends_found, is_end, position}
use Rattle.outcome_texts.proofs.Common.{take, unended_none, whole_lines, ℕ, ◌++◌, ◌+◌, ◌≡◌}

-- the first line that ends comes first
pub texts_first : (number : ℕ) (bytes : List ℕ) (at : ℕ) → position is_end bytes ≡ Some at →
    claim_texts_from number (whole_lines bytes)
    ≡ claim_text_of number (take at bytes) ++ claim_texts_from (number + 1) (whole_lines (drop (at + 1) bytes))
texts_first number bytes at is = ap (claim_texts_from number) (ends_found [] bytes at is).lines

-- without an end there is no line
pub texts_none : (number : ℕ) (bytes : List ℕ) → position is_end bytes ≡ None → claim_texts_from number (whole_lines bytes) ≡ []
texts_none number bytes is = ap (claim_texts_from number) (unended_none [] bytes is).lines
