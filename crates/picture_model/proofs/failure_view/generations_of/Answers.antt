use Rattle.picture_model.proofs.Common.{List, Reached, [], ap, arith, common_steps, find-append, length, sym, ℕ, ◌++◌, ◌<◌, ◌∙◌, ◌∷◌}
use Rattle.picture_model.specs.Travels.{with_generation}
use Rattle.picture_model.proofs.Loops.{one-folded}
use Rattle.picture_model.proofs.failure_view.generations_of.Goals as goal

-- one more comes last
pub loop-node-preserved : goal.loop-node-preserved
loop-node-preserved c =
    let within : c.loop-node.node-index < length c.deref-node-items.result.now = omega arith in
    let all = c.deref-node-items.ensures.value in
    let known : List Reached = c.loop-node.all.items in
    record {
      nodes = one-folded with_generation [] c.args.taken.now.items c.loop-node.node-index c.node-item.result known
          c.push.new.self.items (rw all at within) (rw all at (sym c.node-item.is)) c.loop-node.invariant.nodes
          (c.in_ok-push.ensures.items
          ∙ ap (λ (g : ℕ). known ++ record { node = c.node-item.result.key; generation = g } ∷ [])
          (c.generation_below-generation.ensures known c.loop-node.invariant.found));
      found = λ key. grind (arith, common_steps, find-append, c.loop-node.invariant.found key);
    }
