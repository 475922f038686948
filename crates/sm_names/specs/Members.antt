-- The nodes of one collection, in the state after a timeline.
-- `constraints` and `is_ready` restate `fuchsia.sysmem2.BufferCollection.SetConstraints`.
use Rattle.std.specs.Prelude.{ℕ, max, Bool, ◌||◌, ◌&&◌, ◌==◌, not, if◌then◌else◌, List, [], ◌∷◌, map, reverse, Option, Some, None, is_some, is_none}
use Rattle.std.specs.List.{list_any, list_all, filter, filter_map, find, sum_by, fold}
use Rattle.std.specs.Option.{option_map_or}
use Rattle.sm_names.specs.declared.keys.NodeKey.{NodeKey}
use Rattle.sm_names.specs.declared.messages.Call.{Call}
use Rattle.sm_names.specs.declared.messages.Reply.{Reply}
use Rattle.sm_names.specs.declared.outcomes.Buffers.{Buffers}
use Rattle.sm_names.specs.Births.{Birth, births, head, ancestors}
use Rattle.sm_names.specs.Demands.{Demand}
use Rattle.sm_names.specs.Losses.{gone, released, allocated, is_dispensable}
use Rattle.sm_names.specs.Marks.{Mark, Timeline, Called}
use Rattle.sm_names.specs.Sameness.{same_key}
use Rattle.sm_names.specs.Weakness.{weak}
use Rattle.sm_names.specs.Words.{when}

-- what the forced steps read of a node
pub record Member : Type 0 where
  pub key : NodeKey
  pub parent : Option NodeKey
  -- its parent, its parent's parent, and so on up to the root
  pub above : List NodeKey
  pub attached : Bool
  -- the head of its unit, and whether that unit has its buffers
  pub head : NodeKey
  pub allocated : Bool
  pub gone : Bool
  pub released : Bool
  pub dispensable : Bool
  pub weak : Bool
  pub constraints : Option Demand

-- the constraints that the mark sets on the node: only a SetConstraints that took effect sets any
abbrev pub constraints_at : NodeKey → Mark → Option Demand
constraints_at node (Called client Reply.Done (Call.SetConstraints key demand)) =
    when (same_key key node) demand
constraints_at node _ = None

-- the constraints that were set on the node
abbrev pub constraints : Timeline → NodeKey → Option Demand
constraints [] node = None
constraints (mark ∷ before) node =
    option_map_or Some (constraints_at node mark) (constraints before node)

-- the node as it stands after these marks
abbrev pub member : Timeline → Birth → Member
member marks b = record {
  key = b.node;
  parent = b.parent;
  above = ancestors (births marks) b.node;
  attached = b.attached;
  head = head (births marks) b.node;
  allocated = allocated marks b.node;
  gone = gone marks b.node;
  released = released marks b.node;
  dispensable = list_any (is_dispensable b.node) marks;
  weak = weak marks b.node;
  constraints = constraints marks b.node;
}

-- the births of the collection, in order
abbrev pub births_in : Timeline → ℕ → List Birth
births_in marks collection = reverse (filter (λ b. b.collection == collection) (births marks))

-- the nodes of the collection, by birth
abbrev pub members : Timeline → ℕ → List Member
members marks collection = map (member marks) (births_in marks collection)

-- ---- questions on the nodes of a collection

-- neither gone nor released
abbrev pub is_live : Member → Bool
is_live m = not m.gone && not m.released

-- the node has no parent
abbrev pub is_root : Member → Bool
is_root m = is_none m.parent

-- some node of these is live
abbrev pub some_live : List Member → Bool
some_live ms = list_any is_live ms

-- some node of these is live and strong
abbrev pub some_strong_live : List Member → Bool
some_strong_live ms = list_any (λ m. is_live m && not m.weak) ms

-- the node is the top one or below it
abbrev pub is_under : NodeKey → Member → Bool
is_under top m = list_any (same_key top) (m.key ∷ m.above)

-- the top node and the nodes below it
abbrev pub subtree : NodeKey → List Member → List Member
subtree top ms = filter (is_under top) ms

-- the nodes of the unit with this head
abbrev pub unit : NodeKey → List Member → List Member
unit head ms = filter (λ m. same_key m.head head) ms

-- the root, unless it is gone
abbrev pub root_left : List Member → Option Member
root_left ms = find (λ m. is_root m && not m.gone) ms

-- the nodes of its unit
abbrev pub root_unit : List Member → List Member
root_unit ms = option_map_or (λ (root : Member). unit root.key ms) (root_left ms) []

-- a node that waits for nothing more: gone, released, or with constraints
abbrev pub is_settled : Member → Bool
is_settled m = m.gone || (m.released || is_some m.constraints)

-- each node of the unit with this head waits for nothing more
abbrev pub is_ready : NodeKey → List Member → Bool
is_ready head ms = list_all is_settled (unit head ms)

-- what the nodes that are not gone ask for
abbrev pub demands : List Member → List Demand
demands ms = filter_map (λ m. if m.gone then None else m.constraints) ms

-- the greatest of these numbers, or 0
abbrev pub greatest : (Demand → ℕ) → List Demand → ℕ
greatest number ds = fold (λ n d. max n (number d)) 0 ds

-- what a unit that is allocated first asks for
abbrev pub wanted : List Member → Buffers
wanted ms = record {
  count = max (sum_by (λ (d : Demand). d.camping) (demands ms))
      (greatest (λ d. d.at_least) (demands ms));
  size = greatest (λ d. d.size) (demands ms);
}

-- what the collection asks for as it is allocated: what its root unit wants
abbrev pub asked : List Member → Buffers
asked ms = wanted (root_unit ms)

-- the buffers that are camped on by nodes of allocated units
abbrev pub reserved : List Member → ℕ
reserved ms = sum_by (λ (d : Demand). d.camping) (demands (filter (λ m. m.allocated) ms))
