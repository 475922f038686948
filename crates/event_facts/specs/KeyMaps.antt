-- Sets of keys of nodes, and values by these keys.
use Rattle.std.specs.Prelude.{◌≡◌, List, [], Option, Vec}
use Rattle.std.specs.BTreeMap.{get}
use Rattle.std.specs.List.{list_any}
use Rattle.std.specs.Option.{option_map_or}
use Rattle.std.specs.declared.alloc.Global.{Global}
use Rattle.sm_names.specs.contracts.keys.NodeKeyOrd.TheImpl as key_order
use Rattle.sm_names.specs.declared.keys.NodeKey.{NodeKey}
use Rattle.sm_names.specs.Sameness.{same_key}
use Rattle.forced_marks.specs.declared.key_sets.KeySet.{KeySet}
use Rattle.forced_marks.specs.KeySets.{has}
use Rattle.event_facts.specs.declared.key_maps.KeyMap.{KeyMap}
use Rattle.event_facts.specs.declared.key_maps.KeyRows.{KeyRows}

-- the set has these keys
abbrev pub HasKeys : KeySet → List NodeKey → Type 0
HasKeys set keys = (key : NodeKey) → has set key ≡ list_any (same_key key) keys

-- the value of this key, if it has one
abbrev pub value_at : {V : Type 0} → KeyMap V → NodeKey → Option V
value_at map key = get (key_order.ghosts).cmp map.values key

-- the values of this key, in the order in which they were added
abbrev pub values_at : {V : Type 0} → KeyRows V → NodeKey → List V
values_at {V} rows key = option_map_or (λ (row : Vec V Global). row.items) (get (key_order.ghosts).cmp rows.rows key) []
