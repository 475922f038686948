use Rattle.outcome_texts.proofs.Common.{flat_map, take, ◌++◌, ◌≡◌}
use Rattle.outcome_texts.specs.Lists.{judged_line}
use Rattle.outcome_texts.proofs.list.push_all_judged.Given as goal

-- so far these claims
abbrev pub invariant-claims : goal.invariant-claims
invariant-claims l = l.text.items ≡ l.fn.text.items ++ flat_map (judged_line l.telling l.found) (take l.one-index l.claims)
