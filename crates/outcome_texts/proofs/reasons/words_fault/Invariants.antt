use Rattle.outcome_texts.proofs.Common.{drop, map, ◌≡◌}
use Rattle.outcome_texts.specs.Reasons.{words_fault}
use Rattle.outcome_texts.proofs.reasons.words_fault.Given as goal

-- what is wrong with the words that are left is wrong with all
abbrev pub invariant-words : goal.invariant-words
invariant-words l = words_fault l.labels (map (λ word. word.now) (drop l.at l.words)) ≡ words_fault l.labels (map (λ word. word.now) l.words)
