use Rattle.outcome_texts.proofs.Common.{is_among, map, take, ◌≡◌}
use Rattle.outcome_texts.proofs.who.who_among.Given as goal

-- so far who of these clients is in the list
abbrev pub invariant-labels : goal.invariant-labels
invariant-labels l = l.who.items ≡ map (is_among (map (λ word. word.now) l.words)) (take l.label-index l.labels)
