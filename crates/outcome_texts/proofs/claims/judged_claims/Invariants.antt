use Rattle.outcome_texts.proofs.Common.{drop, texts_in, ◌≡◌}
use Rattle.outcome_texts.specs.ClaimLines.{claims_in, judged, put_before}
use Rattle.outcome_texts.proofs.claims.judged_claims.Given as goal

-- the claims so far, before those of the lines that are left, are all
abbrev pub invariant-texts : goal.invariant-texts
invariant-texts l =
    put_before (claims_in l.claims.items) (judged l.telling (texts_in (drop l.at l.texts))) ≡ judged l.telling (texts_in l.texts)
