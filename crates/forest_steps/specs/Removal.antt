-- The removal of the nodes that a loss or an end takes: by a loss they fail, by an end they have no fault. No public clause of
-- `alloc_event` cites this module.
use Rattle.std.specs.Prelude.{◌≡◌, ℕ, ◌+◌, ◌-◌, true, false, List, [], ◌∷◌, map, Option, None}
use Rattle.std.specs.List.{list_any}
use Rattle.std.specs.Option.{option_map_or}
use Rattle.sm_names.specs.declared.keys.NodeKey.{NodeKey}
use Rattle.node_table.specs.Forest.{IsForest}
use Rattle.node_table.specs.Table.{Table, parent_at}
use Rattle.forest_store.specs.declared.entry.Entry.{Entry}
use Rattle.forest_store.specs.declared.loss_marks.RemovalKind.{RemovalKind}
use Rattle.forest_store.specs.declared.node.Node.{Node}
use Rattle.forest_store.specs.declared.unit_counts.Unit.{Unit}
use Rattle.forest_store.specs.Calm.{unkept_except, strong_count}
use Rattle.forest_store.specs.Counts.{head_of}
use Rattle.forest_store.specs.LossMarks.{IsTaken, gone_by, uncounted_both}
use Rattle.forest_store.specs.Unkept.{AreMore}
use Rattle.forest_store.specs.CollectionRows.{Stores, nodes_with, row_of}
use Rattle.forest_store.specs.Reserved.{reserved_count}

-- the head of the unit that the parent of the first of these is in, if it has a parent
abbrev pub head_over : Table Node → List NodeKey → Option NodeKey
head_over t [] = None
head_over t (k ∷ ks) = option_map_or (head_of t) (parent_at t k) None

-- these keys are what a failure at the origin takes of the table; their nodes went so, and neither the units nor the entry count them
-- any more
pub record IsGoneSo (t now : Table Node) (us after : List Unit) (old new : Entry) (going : RemovalKind) (origin : NodeKey) (keys :
    List NodeKey)
    : Type 0 where
  pub taken : IsTaken t origin keys
  pub forest : IsForest t
  pub stores : Stores t now (map (gone_by going) (nodes_with t keys))
  pub units : after ≡ uncounted_both t (nodes_with t keys) us
  pub row : row_of new ≡ row_of old
  pub strong : new.strong ≡ old.strong - strong_count (nodes_with t keys)
  pub reserved : (left : ℕ) → left + reserved_count (nodes_with t keys) ≡ old.reserved → new.reserved ≡ left
  pub unkept_known : new.unkept_known ≡ true → old.unkept_known ≡ true
  pub more : AreMore old.unkept.items new.unkept.items
  pub over : new.unkept_known ≡ true → list_any (unkept_except new.unkept.items) (nodes_with now keys) ≡ false
