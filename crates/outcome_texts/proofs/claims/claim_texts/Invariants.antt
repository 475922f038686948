use Rattle.outcome_texts.proofs.Common.{MOST_BYTES, claim_texts_from, length, texts_in, whole_lines, ◌++◌, ◌+◌, ◌≡◌, ◌≤◌}
use Rattle.outcome_texts.specs.ClaimLines.{claim_texts_of}
use Rattle.outcome_texts.proofs.claims.claim_texts.Given as goal

-- the claims so far, with those of the lines that are left, are all; no more lines came than bytes
abbrev pub invariant-lines : goal.invariant-lines
invariant-lines l =
    (texts_in l.texts.items ++ claim_texts_from l.number (whole_lines l.rest) ≡ claim_texts_of l.script)
    × (l.number + length l.rest ≤ MOST_BYTES + 1)

abbrev pub decreases-lines : goal.decreases-lines
decreases-lines l = length l.rest
