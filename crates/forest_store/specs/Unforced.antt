-- What an effect may be made on, and which counts it changes. No public clause of `alloc_event` cites this module.
use Rattle.std.specs.Prelude.{◌≡◌, ℕ, Bool, true, false, if◌then◌else◌, List, map, Some, ◌==◌}
use Rattle.std.specs.List.{find}
use Rattle.sm_names.specs.declared.keys.NodeKey.{NodeKey}
use Rattle.node_table.specs.Table.{Table}
use Rattle.forest_store.specs.declared.change.Change.{Change}
use Rattle.forest_store.specs.declared.change.Effect.{Effect}
use Rattle.forest_store.specs.declared.node.Node.{Node}
use Rattle.forest_store.specs.declared.unit_counts.Unit.{Unit}
use Rattle.forest_store.specs.Calm.{IsQuiescent, strong_count}
use Rattle.forest_store.specs.Counts.{AreUnits}
use Rattle.forest_store.specs.CollectionRows.{IsStored, CollectionRow, collection_in, forest_of, nodes_with}
use Rattle.forest_store.specs.Settling.{MayChange, is_there}

-- 1 where the test holds
abbrev pub bit : Bool → ℕ
bit b = if b then 1 else 0

-- the effect neither releases its node nor sets its constraints
abbrev pub is_plain : Effect → Bool
is_plain Effect.Bound = true
is_plain Effect.Dispensable = true
is_plain Effect.Weak = true
is_plain (Effect.WeakOk children) = true
is_plain (Effect.Constrained demand) = false
is_plain Effect.Taken = true
is_plain Effect.Released = false
is_plain Effect.Tracked = true

-- the change may be made to the collection of the row, which is calm and has this many strong live nodes, and the
-- units are counted
pub record IsOpen (t : Table Node) (us : List Unit) (ss : List CollectionRow) (s : CollectionRow) (change : Change)
    (lives : ℕ) : Type 0 where
  pub kept : IsStored t ss
  pub found : find (λ (x : CollectionRow). x.id == s.id) ss ≡ Some s
  pub may : MayChange (forest_of t ss) s.id change
  pub calm : IsQuiescent (collection_in t s)
  pub strong : lives ≡ strong_count (nodes_with t s.keys)
  pub units : AreUnits us (map (collection_in t) ss)

-- an effect may be made on the node with this key, of the collection of the row, which has this many strong live nodes, and the
-- units are counted
pub record MayAffect (t : Table Node) (us : List Unit) (ss : List CollectionRow) (s : CollectionRow) (key : NodeKey)
    (lives : ℕ) : Type 0 where
  pub kept : IsStored t ss
  pub found : find (λ (x : CollectionRow). x.id == s.id) ss ≡ Some s
  pub named : is_there (forest_of t ss) s.id key ≡ true
  pub strong : lives ≡ strong_count (nodes_with t s.keys)
  pub units : AreUnits us (map (collection_in t) ss)
