-- What a loss takes, and which nodes are gone.
-- `blocked` restates `fuchsia.sysmem2.BufferCollectionToken.SetDispensable` and
-- `fuchsia.sysmem2.BufferCollection.AttachToken`, `released` restates
-- `fuchsia.sysmem2.Node.Release`. That a failure takes all nodes below, and passes through released
-- nodes, is this profile's own.
use Rattle.std.specs.Prelude.{Bool, false, ◌||◌, ◌&&◌, not, if◌then◌else◌, List, [], ◌∷◌, ◌≡◌, Option, Some, None, is_some}
use Rattle.std.specs.List.{list_any}
use Rattle.std.specs.Option.{option_map_or}
use Rattle.sm_names.specs.declared.keys.NodeKey.{NodeKey}
use Rattle.sm_names.specs.declared.messages.Call.{Call}
use Rattle.sm_names.specs.declared.messages.Reply.{Reply}
use Rattle.sm_names.specs.declared.outcomes.Fault.{Fault}
use Rattle.sm_names.specs.Births.{Birth, births, birth_of, head, ancestors, is_at_or_below}
use Rattle.sm_names.specs.Marks.{Mark, Timeline, Called, Loss, Allocated, Ended}
use Rattle.sm_names.specs.Sameness.{same_key}
use Rattle.sm_names.specs.Words.{when}

-- the least set that has the origin, the parent of each member whose link to it is not blocked, and
-- every child of each member. A child of a member is a node whose parent is that member
pub data Reach (parent : NodeKey → Option NodeKey) (blocks : NodeKey → Bool)
    (origin : NodeKey) : NodeKey → Type 0 where
  Origin : Reach parent blocks origin origin
  Up : (child above : NodeKey) → Reach parent blocks origin child → blocks child ≡ false →
      parent child ≡ Some above →
      Reach parent blocks origin above
  Down : (above child : NodeKey) → Reach parent blocks origin above → parent child ≡ Some above →
      Reach parent blocks origin child

-- the mark makes the node dispensable: only a SetDispensable that took effect does
abbrev pub is_dispensable : NodeKey → Mark → Bool
is_dispensable node (Called client Reply.Done (Call.SetDispensable key)) = same_key key node
is_dispensable node _ = false

-- the mark allocates the unit with this head: no other kind of mark allocates
abbrev pub is_allocation : NodeKey → Mark → Bool
is_allocation head (Allocated key) = same_key key head
is_allocation head _ = false

-- the node's unit has its buffers
abbrev pub allocated : Timeline → NodeKey → Bool
allocated marks node = list_any (is_allocation (head (births marks) node)) marks

-- the parent of the node, unless it is a root
abbrev pub parent_of : Timeline → NodeKey → Option NodeKey
parent_of marks node = option_map_or (λ (b : Birth). b.parent) (birth_of marks node) None

-- the node's failure does not propagate to its parent: the node is attached, or it is dispensable
-- and its unit is allocated
abbrev pub blocked : Timeline → NodeKey → Bool
blocked marks node =
    option_map_or (λ (b : Birth). b.attached) (birth_of marks node) false
    || (list_any (is_dispensable node) marks && allocated marks node)

-- the highest node that a failure of the node propagates to: the node itself or an ancestor
abbrev pub top : (NodeKey → Bool) → NodeKey → List NodeKey → NodeKey
top blocks node [] = node
top blocks node (parent ∷ above) =
    let on : NodeKey = top blocks parent above in
    if blocks node then node else on

-- a failure of the origin reaches the node: it propagates up to some node, and takes that one and
-- all below it
abbrev pub reaches : Timeline → NodeKey → NodeKey → Bool
reaches marks origin node =
    is_at_or_below (births marks)
    (top (blocked marks) origin (ancestors (births marks) origin)) node

-- the mark, coming after these, takes the node: neither a call nor an allocation takes any
abbrev pub takes : Timeline → Mark → NodeKey → Bool
takes before (Loss origin cause) node = reaches before origin node
takes before (Ended top) node = is_at_or_below (births before) top node
takes before _ node = false

-- the node was taken by a failure, or by the end of its collection or of an attached subtree
abbrev pub gone : Timeline → NodeKey → Bool
gone [] node = false
gone (mark ∷ before) node = takes before mark node || gone before node

-- the fault by which the node fails at the mark, coming after these: only a loss that reaches the
-- node makes one, and only if the node was not gone before
abbrev pub fault_at : Timeline → Mark → NodeKey → Option Fault
fault_at before (Loss origin cause) node =
    when (reaches before origin node && not (gone before node))
    (record { cause = cause; origin = origin })
fault_at before _ node = None

-- the fault by which the node failed, if it did
abbrev pub fault : Timeline → NodeKey → Option Fault
fault [] node = None
fault (mark ∷ before) node = option_map_or Some (fault_at before mark node) (fault before node)

-- the mark releases the node: only a Release that was answered Done does
abbrev pub is_release : NodeKey → Mark → Bool
is_release node (Called client Reply.Done (Call.Release key)) = same_key key node
is_release node _ = false

-- the node was released
abbrev pub released : Timeline → NodeKey → Bool
released marks node = list_any (is_release node) marks

-- born, neither gone nor released
abbrev pub live : Timeline → NodeKey → Bool
live marks node =
    is_some (birth_of marks node) && (not (gone marks node) && not (released marks node))
