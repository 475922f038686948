use Rattle.outcome_texts.proofs.Common.{flat_map, take, ◌++◌, ◌≡◌}
use Rattle.outcome_texts.specs.Vanishing.{also_text}
use Rattle.outcome_texts.proofs.vanishing.push_others.Given as goal

-- so far those of the first places
abbrev pub invariant-loop-actor : goal.invariant-loop-actor
invariant-loop-actor l = l.text.items ≡ l.fn.text.items ++ flat_map (also_text l.labels) (take l.actor-index l.others)
