use Rattle.alike_plays.proofs.Common.{true, ◌≡◌}
use Rattle.alike_plays.proofs.Names.{step_known}
use Rattle.alike_plays.proofs.NamesAfter.{after_known}
use Rattle.alike_plays.proofs.laws.actors_know_what_they_were_told.Goals as goal

pub returns-clause-asks : goal.returns-clause-asks
returns-clause-asks c keys ids numbers one known clients step asked is =
    step_known (λ k. keys k ≡ true) (λ i. ids i ≡ true) (λ n. numbers n ≡ true) one known clients step asked is

pub returns-clause-knows : goal.returns-clause-knows
returns-clause-knows c keys ids numbers one known step asked named reply told =
    after_known (λ k. keys k ≡ true) (λ i. ids i ≡ true) (λ n. numbers n ≡ true) one known step asked named reply told
