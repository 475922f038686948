use Rattle.core_likeness.proofs.Common.{List, [], ap, same_number, under, ℕ, ◌++◌, ◌∙◌, ◌∷◌}
use Rattle.core_likeness.proofs.Swapping.{number-pushed}
use Rattle.core_likeness.proofs.names.Names.pair_ids.Goals as goal

-- the last swap gives it
pub returns : goal.returns
returns c =
    ap (λ (l : List (ℕ × ℕ)). under same_number l c.args.id) (c.in_ok-push.ensures.items
    ∙ ap (λ (n : ℕ). c.args.self.now.ids.items ++ (n, c.args.new) ∷ []) c.id-now.ensures)
    ∙ number-pushed c.args.self.now.ids.items c.args.id c.args.new
