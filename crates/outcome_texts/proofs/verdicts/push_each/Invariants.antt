use Rattle.outcome_texts.proofs.Common.{flat_map, take, ◌++◌, ◌≡◌}
use Rattle.outcome_texts.specs.Verdicts.{claim_text}
use Rattle.outcome_texts.proofs.verdicts.push_each.Given as goal

-- so far these claims
abbrev pub invariant-claims : goal.invariant-claims
invariant-claims l = l.text.items ≡ l.fn.text.items ++ flat_map (claim_text l.telling l.found) (take l.one-index l.claims)
