-- Which step is forced next, by the nodes as they are kept, and the mark that it leaves in the history.
use Rattle.std.specs.Prelude.{ℕ, ◌≤◌, ◌+◌, Bool, true, false, ◌||◌, ◌&&◌, ◌==◌, not, nat_lt, max, List, [], ◌∷◌, Option, ◌≡◌, is_none}
use Rattle.std.specs.List.{list_any, list_all, find, sum_by}
use Rattle.std.specs.Option.{option_map, option_map_or, option_and_then}
use Rattle.sm_names.specs.declared.keys.Interval.{Interval}
use Rattle.sm_names.specs.declared.keys.NodeKey.{NodeKey}
use Rattle.sm_names.specs.declared.outcomes.Buffers.{Buffers}
use Rattle.sm_names.specs.declared.outcomes.Cause.{Cause}
use Rattle.sm_names.specs.declared.outcomes.Failure.{Failure}
use Rattle.sm_names.specs.Demands.{Demand}
use Rattle.sm_names.specs.Forced.{outcome}
use Rattle.sm_names.specs.Marks.{Mark, Loss, Allocated, Ended}
use Rattle.sm_names.specs.Members.{asked, greatest}
use Rattle.sm_names.specs.Pages.{places, pages_of}
use Rattle.sm_names.specs.Sameness.{same_key}
use Rattle.sm_names.specs.Words.{first_some, when}
use Rattle.sm_names.specs.declared.rules.TheConstants.{MAX_BUFFERS}
use Rattle.forest_store.specs.declared.node.Node.{Node}
use Rattle.forest_store.specs.Forest.{Collection}
use Rattle.forest_store.specs.Nodes.{is_of, members_of}
use Rattle.forest_store.specs.Questions.{demands_of, is_deserted_node, is_in_unit, is_live_node}
use Rattle.forest_store.specs.Questions.{is_next_node, is_ready_node, is_root_left, has_buffers}
use Rattle.forest_store.specs.Settling.{is_root_of}

-- a forced step that is to be made, before the pool was asked for places: the node leaves, and all below it; or it fails; or the root
-- unit is given these buffers if the pool has places for them, or else the root fails; or the attached unit with this head is allocated
pub data Decision : Type 0 where
  Ends : NodeKey → Decision
  Loses : NodeKey → Cause → Decision
  Places : NodeKey → Buffers → Decision
  Allocates : NodeKey → Decision

-- the mark of the decision in a pool of this many pages, of which these are held
abbrev pub mark_of : ℕ → List Interval → Decision → Mark
mark_of pool held (Ends top) = Ended top
mark_of pool held (Loses origin cause) = Loss origin cause
mark_of pool held (Places head wants) =
    outcome head (when (is_none (places pool (pages_of wants.size) wants.count held)) Failure.PoolFull)
mark_of pool held (Allocates head) = Allocated head

-- what the unit with this head wants, if it is allocated first
abbrev pub wanted_by : NodeKey → List Node → Buffers
wanted_by head nodes = record {
  count = max (sum_by (λ (d : Demand). d.camping) (demands_of (is_in_unit head) nodes))
      (greatest (λ d. d.at_least) (demands_of (is_in_unit head) nodes));
  size = greatest (λ d. d.size) (demands_of (is_in_unit head) nodes);
}

-- some strong node is live
abbrev pub has_strong : List Node → Bool
has_strong nodes = list_any (λ n. is_live_node n && not n.weak) nodes

-- why the root unit can't be allocated, whatever pages are held
abbrev pub early_failure : NodeKey → List Node → Option Failure
early_failure head nodes = first_some (
    when (not (has_strong nodes)) Failure.NoStrong
    ∷ when ((wanted_by head nodes).count == 0) Failure.NoBuffers
    ∷ when (nat_lt MAX_BUFFERS (wanted_by head nodes).count) Failure.TooManyBuffers
    ∷ [])

-- why the attached unit with this head can't be allocated
abbrev pub late_failure : NodeKey → List Node → Buffers → Option Failure
late_failure head nodes buffers = first_some (
    when (nat_lt buffers.count (sum_by (λ (d : Demand). d.camping) (demands_of has_buffers nodes)
    + sum_by (λ (d : Demand). d.camping) (demands_of (is_in_unit head) nodes))
    || nat_lt buffers.count (greatest (λ d. d.at_least) (demands_of (is_in_unit head) nodes))) Failure.TooFew
    ∷ when (nat_lt buffers.size (greatest (λ d. d.size) (demands_of (is_in_unit head) nodes))) Failure.TooSmall
    ∷ [])

-- the root, if it is ready, and was not allocated
abbrev pub waiting : List Node → Option Node
waiting nodes = option_and_then
    (λ (root : Node). when (not root.allocated && list_all (is_ready_node root.key) nodes) root)
    (find is_root_left nodes)

-- the first step of the root unit's allocation
abbrev pub first_step : List Node → NodeKey → Decision
first_step nodes root = option_map_or (λ why. Loses root (Cause.Failed why)) (early_failure root nodes)
    (Places root (wanted_by root nodes))

-- the step of the allocation of an attached unit
abbrev pub later_step : List Node → Buffers → NodeKey → Decision
later_step nodes buffers head = option_map_or (λ why. Loses head (Cause.Failed why)) (late_failure head nodes buffers)
    (Allocates head)

-- the four steps, as far as they apply, by the nodes, what was given, and whether a strong handle is open
abbrev pub decisions : List Node → Option Buffers → Bool → List (Option Decision)
decisions nodes buffers strong_open =
    option_map (λ (n : Node). Ends n.key) (find (is_deserted_node nodes) nodes)
    ∷ option_and_then
    (λ (root : Node). when (root.allocated && (not (has_strong nodes) && not strong_open)) (Loses root.key Cause.NoStrong))
    (find is_root_left nodes)
    ∷ option_map (λ (n : Node). first_step nodes n.key) (waiting nodes)
    ∷ option_and_then (λ b. option_map (λ (n : Node). later_step nodes b n.key) (find (is_next_node nodes) nodes)) buffers
    ∷ []

-- the first of them
abbrev pub decided : List Node → Option Buffers → Bool → Option Decision
decided nodes buffers strong_open = first_some (decisions nodes buffers strong_open)

-- the node with this key is there, and not gone
abbrev pub is_left_of : List Node → NodeKey → Bool
is_left_of nodes key = list_any (λ n. is_of key n && not n.gone) nodes

-- some node of the unit with this head is neither gone nor allocated
abbrev pub has_waiting : List Node → NodeKey → Bool
has_waiting nodes head = list_any (λ (n : Node). same_key head n.head && (not n.gone && not n.allocated)) nodes

-- a root is neither gone nor allocated
abbrev pub is_unplaced : List Node → Bool
is_unplaced nodes = list_any (λ (n : Node). is_none n.parent && (not n.gone && not n.allocated)) nodes

-- the root may be given what it wants
pub record IsPlacing (c : Collection) (head : NodeKey) (wants : Buffers) : Type 0 where
  pub root : is_root_of c head ≡ true
  pub left : is_left_of c.nodes head ≡ true
  pub waits : has_waiting c.nodes head ≡ true
  pub unplaced : is_unplaced c.nodes ≡ true
  pub asked_for : asked (members_of c.nodes) ≡ wants
  pub count : (1 ≤ wants.count) × (wants.count ≤ MAX_BUFFERS)

-- the attached unit may be allocated
pub record IsAllocating (c : Collection) (head : NodeKey) : Type 0 where
  pub attached : is_root_of c head ≡ false
  pub waits : has_waiting c.nodes head ≡ true

-- the step may be made, and changes something
abbrev pub IsStep : Collection → Decision → Type 0
IsStep c (Ends top) = is_left_of c.nodes top ≡ true
IsStep c (Loses origin cause) = is_left_of c.nodes origin ≡ true
IsStep c (Places head wants) = IsPlacing c head wants
IsStep c (Allocates head) = IsAllocating c head
