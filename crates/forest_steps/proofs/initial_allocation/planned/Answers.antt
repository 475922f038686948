-- The node is there, and its root is bare: so the root is there too.
use Rattle.std.proofs.Common.{IsSome, Option, None, Some, refl, rules, true, false, not, ◌&&◌, ◌≡◌, option_map}
use Rattle.std.specs.Option.{option_map_or}
use Rattle.std.proofs.lemmas.Bool.{false≢true}
use Rattle.node_table.specs.Table.{Row, Table, row_at}
use Rattle.forest_steps.proofs.Common.{Node, NodeKey, is_bare_root, is_root_left}
use Rattle.forest_steps.proofs.initial_allocation.planned.Goals as goal

-- a bare root is a node of the table
bare_there : (t : Table Node) (key : NodeKey) → is_bare_root t key ≡ true → IsSome (row_at t key)
bare_there t key = by (row_at t key)
  where
    by : (o : Option (Row Node)) →
        option_map_or (λ (n : Node). is_root_left n && not n.allocated) (option_map (λ (row : Row Node). row.node) o) false ≡ true →
        IsSome o
    by None h = absurd (false≢true h)
    by (Some row) h = refl

pub list_unit-requires-clause-there : goal.list_unit-requires-clause-there
list_unit-requires-clause-there c = bare_there c.args.nodes.now.table c.in-Some.node.head (search rules)

pub returns-clause-listed : goal.returns-clause-listed
returns-clause-listed c = c.list_unit.ensures.listed

pub returns-clause-none : goal.returns-clause-none
returns-clause-none c is = absurd (cc)

pub returns-in_default-clause-some : goal.returns-in_default-clause-some
returns-in_default-clause-some c = search rules

pub returns-in_default-clause-comes : goal.returns-in_default-clause-comes
returns-in_default-clause-comes c = search rules

pub returns-in_default-clause-listed : goal.returns-in_default-clause-listed
returns-in_default-clause-listed c = search rules

pub returns-in_default-clause-room : goal.returns-in_default-clause-room
returns-in_default-clause-room c = search rules

pub returns-then-not-is_bare_root-clause-some : goal.returns-then-not-is_bare_root-clause-some
returns-then-not-is_bare_root-clause-some c = search rules

pub returns-then-not-is_bare_root-clause-comes : goal.returns-then-not-is_bare_root-clause-comes
returns-then-not-is_bare_root-clause-comes c = search rules

pub returns-then-not-is_bare_root-clause-listed : goal.returns-then-not-is_bare_root-clause-listed
returns-then-not-is_bare_root-clause-listed c = search rules

pub returns-then-not-is_bare_root-clause-room : goal.returns-then-not-is_bare_root-clause-room
returns-then-not-is_bare_root-clause-room c = search rules

pub list_unit-requires-clause-room : goal.list_unit-requires-clause-room
list_unit-requires-clause-room c = search rules

pub returns-clause-room : goal.returns-clause-room
returns-clause-room c = search rules

pub returns-clause-some : goal.returns-clause-some
returns-clause-some c = search rules

pub returns-in_default-clause-none : goal.returns-in_default-clause-none
returns-in_default-clause-none c = search rules

pub returns-then-not-is_bare_root-clause-none : goal.returns-then-not-is_bare_root-clause-none
returns-then-not-is_bare_root-clause-none c = search rules

pub wanted-requires-clause-in_range : goal.wanted-requires-clause-in_range
wanted-requires-clause-in_range c = search rules

pub wanted-requires-clause-some : goal.wanted-requires-clause-some
wanted-requires-clause-some c = search rules

pub returns-clause-comes : goal.returns-clause-comes
returns-clause-comes c = search rules
