-- The row of a key, and the node in it.
use Rattle.forest_steps.proofs.Common.{◌≡◌, ◌∙◌, refl, Bool, Option, None, Some, option_map, NodeKey, Table}
use Rattle.forest_steps.proofs.Common.{node_at, Node, Row, row_at, IsSome, parent_at, List, Stores, arith}
use Rattle.sm_names.specs.Losses.{Reach, Origin, Up, Down}
use Rattle.forest_store.specs.CollectionRows.{SameTable}
use Rattle.node_table.specs.Forest.{IsForest}
use Rattle.node_table.specs.Table.{parent_in}
use Rattle.node_table.proofs.Depths.{there-above}
use Rattle.forest_store.proofs.tables.Storing.{stored-key}

-- a key that has a parent has a node
pub child_node : (t : Table Node) (key : NodeKey) {p : NodeKey} → parent_at t key ≡ Some p → (n : Node) × (node_at t key ≡ Some n)
child_node t key {p} up = from (row_at t key) up
  where
    -- by cases: a row has its node
    from : (o : Option (Row Node)) → parent_in o ≡ Some p → (n : Node) × (option_map (λ (row : Row Node). row.node) o ≡ Some n)
    from None up = cc
    from (Some row) up = (row.node, refl)

-- tables that are the same in all but their nodes, one after the other
pub same_on : {t u now : Table Node} → SameTable t u → SameTable u now → SameTable t now
same_on one two = record {
  first = two.first ∙ one.first;
  nexts = two.nexts ∙ one.nexts;
  limit = two.limit ∙ one.limit;
  len = two.len ∙ one.len;
}

-- each node has its key still
pub still_named : {t now : Table Node} {ns : List Node} → ((key : NodeKey) (n : Node) → node_at t key ≡ Some n → n.key ≡ key) →
    Stores t now ns → (key : NodeKey) {n : Node} → node_at now key ≡ Some n → n.key ≡ key
still_named {t} {ns} named stores key {n} is = grind (arith, stored-key)

-- what a failure of a node that is there reaches is there
pub reached_there : (t : Table Node) → IsForest t → {blocks : NodeKey → Bool} {origin key : NodeKey} → IsSome (row_at t origin) →
    Reach (parent_at t) blocks origin key → IsSome (row_at t key)
reached_there t forest there Origin = there
reached_there t forest there (Up child above at free up) = forest.parent_there above child up
reached_there t forest there (Down above child at up) = there-above (row_at t child) above up
