use Rattle.core_likeness.proofs.Common.{List, NodeKey, [], ap, same_key, under, ◌++◌, ◌∙◌, ◌∷◌}
use Rattle.core_likeness.proofs.Swapping.{key-pushed}
use Rattle.core_likeness.proofs.names.Names.pair_keys.Goals as goal

-- the last swap gives it
pub returns : goal.returns
returns c =
    ap (λ (l : List (NodeKey × NodeKey)). under same_key l c.args.key) (c.in_ok-push.ensures.items
    ∙ ap (λ (n : NodeKey). c.args.self.now.keys.items ++ (n, c.args.new) ∷ []) c.key-now.ensures)
    ∙ key-pushed c.args.self.now.keys.items c.args.key c.args.new
