use Rattle.picture_dot.proofs.Common.{Calls, FindsTravels, Keeps, List, Names, Travel, dot_tree, flat_map, take, ◌++◌, ◌≡◌}
use Rattle.picture_dot.proofs.picture.push_trees.Given as goal

-- those so far
abbrev pub invariant-loop-tree : goal.invariant-loop-tree
invariant-loop-tree l = (names : Names) → Keeps l.event_writer.session.tables names → Calls l.event_writer.labels names →
    (links : List Travel) → FindsTravels l.travels links → l.text.items ≡ l.initial.text.items
    ++ flat_map (dot_tree l.event_writer.session.core names l.clients.items links) (take l.tree-index l.trees)
