-- Which nodes are weak, and which may take weak handles.
-- `weak` restates `fuchsia.sysmem2.Node.SetWeak`, `weak_ok` restates
-- `fuchsia.sysmem2.Node.SetWeakOk`.
use Rattle.std.specs.Prelude.{Bool, true, false, ◌||◌, if◌then◌else◌, [], ◌∷◌, Option, None}
use Rattle.std.specs.List.{list_any}
use Rattle.std.specs.Option.{option_map_or, option_and_then}
use Rattle.sm_names.specs.declared.keys.NodeKey.{NodeKey}
use Rattle.sm_names.specs.declared.messages.Call.{Call}
use Rattle.sm_names.specs.declared.messages.Reply.{Reply}
use Rattle.sm_names.specs.Births.{Birth, birth_at}
use Rattle.sm_names.specs.Marks.{Mark, Timeline, Called}
use Rattle.sm_names.specs.Sameness.{same_key}

-- the parent of the node, if the mark is the node's birth
abbrev pub born_to : NodeKey → Mark → Option NodeKey
born_to node mark =
    option_and_then (λ (b : Birth). if same_key b.node node then b.parent else None)
    (birth_at 0 mark)

-- the mark is a SetWeak of the node that took effect, as no other mark is
abbrev pub sets_weak : NodeKey → Mark → Bool
sets_weak node (Called client Reply.Done (Call.SetWeak key)) = same_key key node
sets_weak node _ = false

-- the mark is a SetWeakOk of the node that took effect, with children or without
abbrev pub sets_weak_ok : NodeKey → Mark → Bool
sets_weak_ok node (Called client Reply.Done (Call.SetWeakOk key children)) = same_key key node
sets_weak_ok node _ = false

-- the mark is a SetWeakOk of the node for children too, and took effect
abbrev pub covers_children : NodeKey → Mark → Bool
covers_children node (Called client Reply.Done (Call.SetWeakOk key true)) = same_key key node
covers_children node _ = false

-- SetWeak took effect on the node, or its parent was weak at its birth
abbrev pub weak : Timeline → NodeKey → Bool
weak [] node = false
weak (mark ∷ before) node =
    sets_weak node mark
    || (option_map_or (weak before) (born_to node mark) false || weak before node)

-- an ancestor sent SetWeakOk for children before its child on the way down to the node was born
abbrev pub covered : Timeline → NodeKey → Bool
covered [] node = false
covered (mark ∷ before) node =
    option_map_or (λ parent. list_any (covers_children parent) before || covered before parent)
    (born_to node mark) false
    || covered before node

-- SetWeak or SetWeakOk took effect on the node, or the node is covered
abbrev pub weak_ok : Timeline → NodeKey → Bool
weak_ok marks node =
    list_any (sets_weak node) marks || (list_any (sets_weak_ok node) marks || covered marks node)
