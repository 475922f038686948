-- A collection that is at rest where none of its strong nodes is live. No public clause of `alloc_event` cites this module.
use Rattle.std.specs.Prelude.{ℕ, Bool, false, ◌||◌, ◌&&◌, not, nat_lt}
use Rattle.std.specs.List.{list_all}
use Rattle.node_table.specs.Table.{Table}
use Rattle.forest_store.specs.declared.node.Node.{Node}
use Rattle.forest_store.specs.Dropped.{has_given_root}
use Rattle.forest_store.specs.CollectionRows.{CollectionRow}
use Rattle.forest_store.specs.Scenes.{is_held_strongly, is_out}
use Rattle.forest_store.specs.Settling.{Handles}

-- where no strong node is live, the buffers of the collection are not abandoned, and none of those that are held is home
abbrev pub is_at_rest : Handles → Table Node → CollectionRow → Bool
is_at_rest handles t s =
    not (has_given_root t s.keys && not (is_held_strongly handles s.id s.buffers)) && list_all (is_out handles false) s.held

-- this many strong nodes are live, which are some, or it is at rest without
abbrev pub is_kept_by : Handles → Table Node → CollectionRow → ℕ → Bool
is_kept_by handles t s lives = nat_lt 0 lives || is_at_rest handles t s
