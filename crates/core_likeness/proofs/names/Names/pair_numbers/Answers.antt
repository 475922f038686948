use Rattle.core_likeness.proofs.Common.{List, [], ap, same_number, under, ℕ, ◌++◌, ◌∙◌, ◌∷◌}
use Rattle.core_likeness.proofs.Swapping.{number-pushed}
use Rattle.core_likeness.proofs.names.Names.pair_numbers.Goals as goal

-- the last swap gives it
pub returns : goal.returns
returns c =
    ap (λ (l : List (ℕ × ℕ)). under same_number l c.args.number) (c.in_ok-push.ensures.items
    ∙ ap (λ (n : ℕ). c.args.self.now.numbers.items ++ (n, c.args.new) ∷ []) c.number-now.ensures)
    ∙ number-pushed c.args.self.now.numbers.items c.args.number c.args.new
