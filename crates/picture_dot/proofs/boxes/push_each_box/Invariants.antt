use Rattle.picture_dot.proofs.Common.{Calls, Keeps, List, Names, box_text, flat_map, take, ◌++◌, ◌≡◌}
use Rattle.sm_names.specs.declared.keys.NodeKey.{NodeKey}
use Rattle.event_facts.specs.KeyMaps.{HasKeys}
use Rattle.picture_dot.proofs.boxes.push_each_box.Given as goal

-- those so far
abbrev pub invariant-loop-node : goal.invariant-loop-node
invariant-loop-node l = (names : Names) → Keeps l.event_writer.session.tables names → Calls l.event_writer.labels names →
    (keys : List NodeKey) → HasKeys l.left keys →
    l.text.items ≡ l.initial.text.items ++ flat_map (box_text names keys) (take l.node-index l.nodes)
