use Rattle.outcome_texts.proofs.Common.{flat_map, take, ◌++◌, ◌≡◌}
use Rattle.outcome_texts.specs.Lists.{made_line}
use Rattle.outcome_texts.proofs.list.push_all_made.Given as goal

-- so far these steps
abbrev pub invariant-made : goal.invariant-made
invariant-made l = l.text.items ≡ l.fn.text.items ++ flat_map (made_line l.telling l.rank l.actor) (take l.at-index l.made)
