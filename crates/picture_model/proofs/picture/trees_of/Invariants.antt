use Rattle.picture_model.proofs.Common.{lists_of, map, option_map, trees_of, ◌++◌, ◌≡◌}
use Rattle.std.proofs.Common.{All}
use Rattle.picture_model.specs.Seen.{IsTree}
use Rattle.picture_model.proofs.picture.trees_of.Given as goal

-- those so far, and with those that are left all
abbrev pub invariant-loop-id : goal.invariant-loop-id
invariant-loop-id l = record {
  seen : All (IsTree l.core) l.trees.items;
  trees : map lists_of l.trees.items ++ trees_of l.core (option_map (λ e. e.now) l.event) l.id-iterator
      ≡ trees_of l.core (option_map (λ e. e.now) l.event) l.picture_state.families.entries;
}
