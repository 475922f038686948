use Rattle.outcome_texts.proofs.Common.{map, may_vanish, take, texts_in, ◌≡◌}
use Rattle.outcome_texts.proofs.who.who_in.Given as goal

-- so far who of these clients may
abbrev pub invariant-labels : goal.invariant-labels
invariant-labels l = l.who.items ≡ map (may_vanish (texts_in l.texts)) (take l.label-index l.labels)
