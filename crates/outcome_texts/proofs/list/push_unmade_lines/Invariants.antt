use Rattle.outcome_texts.proofs.Common.{flat_map, take, ◌++◌, ◌≡◌}
use Rattle.outcome_texts.specs.Lists.{unmade_line}
use Rattle.outcome_texts.proofs.list.push_unmade_lines.Given as goal

-- so far these steps
abbrev pub invariant-unmade : goal.invariant-unmade
invariant-unmade l = l.text.items ≡ l.fn.text.items ++ flat_map (unmade_line l.telling) (take l.actor-index l.unmade)
