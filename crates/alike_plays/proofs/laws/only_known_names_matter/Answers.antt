use Rattle.alike_plays.proofs.Common.{true, ◌≡◌}
use Rattle.alike_plays.proofs.NamesAgree.{stages-agree}
use Rattle.alike_plays.proofs.laws.only_known_names_matter.Goals as goal

pub returns : goal.returns
returns c to again id later number next keys others ids nexts numbers counts agree one other alike old new =
    stages-agree to again id later number next (λ k. keys k ≡ true) (λ k. others k ≡ true) (λ i. ids i ≡ true) (λ i. nexts i ≡ true)
    (λ n. numbers n ≡ true) (λ n. counts n ≡ true) agree one other alike old new
