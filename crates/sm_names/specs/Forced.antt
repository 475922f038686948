-- The marks that an event forces in its collection.
-- `abandoned` restates `fuchsia.sysmem2.Node.SetWeak`, `logical_allocation` restates
-- `fuchsia.sysmem2.BufferCollection.AttachToken`.
use Rattle.std.specs.Prelude.{ℕ, ◌+◌, Bool, false, ◌||◌, ◌&&◌, ◌==◌, nat_lt, not, List, [], ◌∷◌, Option, Some, None, is_none}
use Rattle.std.specs.List.{list_any, find, sum_by}
use Rattle.std.specs.Option.{option_map_or, option_map, option_and_then}
use Rattle.sm_names.specs.declared.keys.NodeKey.{NodeKey}
use Rattle.sm_names.specs.declared.keys.Interval.{Interval}
use Rattle.sm_names.specs.declared.outcomes.Buffers.{Buffers}
use Rattle.sm_names.specs.declared.outcomes.Cause.{Cause}
use Rattle.sm_names.specs.declared.outcomes.Failure.{Failure}
use Rattle.sm_names.specs.declared.rules.TheConstants.{MAX_BUFFERS}
use Rattle.sm_names.specs.Demands.{Demand}
use Rattle.sm_names.specs.Marks.{Mark, Loss, Allocated, Ended}
use Rattle.sm_names.specs.Members.{Member, is_root, root_left, some_live, subtree, some_strong_live, unit, is_ready, demands, asked, reserved}
use Rattle.sm_names.specs.Pages.{places, pages_of}
use Rattle.sm_names.specs.Sameness.{same_key}
use Rattle.sm_names.specs.Words.{first_some, when}

-- a collection as it stands, and the pool that it stands in
pub record Standing : Type 0 where
  -- its nodes, by birth
  pub members : List Member
  -- what its root unit was given
  pub buffers : Option Buffers
  -- whether a strong handle on one of its buffers is open, in a parcel or out of it
  pub strong_open : Bool
  -- the pages that buffers of any collection hold
  pub held : List Interval

-- the root or an attached node, not gone, with no live node at or below it
abbrev pub is_deserted : List Member → Member → Bool
is_deserted ms m = (is_root m || m.attached) && (not m.gone && not (some_live (subtree m.key ms)))

-- of such nodes the one that was born first ends
abbrev pub ending : Standing → Option Mark
ending s = option_map (λ top. Ended top.key) (find (is_deserted s.members) s.members)

-- the buffers are there, and neither a strong node nor a strong handle keeps them
abbrev pub abandoned : Standing → Option Mark
abandoned s = option_and_then
    (λ root.
    when (root.allocated && (not (some_strong_live s.members) && not s.strong_open))
    (Loss root.key Cause.NoStrong))
    (root_left s.members)

-- why the root unit can't be allocated
abbrev pub initial_failure : ℕ → Standing → Buffers → Option Failure
initial_failure pool s buffers = first_some (
    when (not (some_strong_live s.members)) Failure.NoStrong
    ∷ when (buffers.count == 0) Failure.NoBuffers
    ∷ when (nat_lt MAX_BUFFERS buffers.count) Failure.TooManyBuffers
    ∷ when (is_none (places pool (pages_of buffers.size) buffers.count s.held)) Failure.PoolFull
    ∷ [])

-- the allocation of the unit with this head or, if the allocation failed, the loss of the head
abbrev pub outcome : NodeKey → Option Failure → Mark
outcome head None = Allocated head
outcome head (Some failure) = Loss head (Cause.Failed failure)

-- the root unit is ready, and was not allocated
abbrev pub initial_allocation : ℕ → Standing → Option Mark
initial_allocation pool s = option_and_then
    (λ root. when (not root.allocated && is_ready root.key s.members)
    (outcome root.key (initial_failure pool s (asked s.members))))
    (root_left s.members)

-- why an attached unit can't be allocated against the buffers that there are
abbrev pub logical_failure : List Demand → ℕ → Buffers → Option Failure
logical_failure ds reserved buffers = first_some (
    when (nat_lt buffers.count (reserved + sum_by (λ (d : Demand). d.camping) ds)
    || list_any (λ (d : Demand). nat_lt buffers.count d.at_least) ds) Failure.TooFew
    ∷ when (list_any (λ (d : Demand). nat_lt buffers.size d.size) ds) Failure.TooSmall
    ∷ [])

-- whether the node with this key is in an allocated unit
abbrev pub is_allocated : List Member → NodeKey → Bool
is_allocated ms key = list_any (λ m. m.allocated && same_key m.key key) ms

-- the node heads an attached unit that is ready and not allocated, it is not gone, and the unit of
-- its parent is allocated
abbrev pub is_next_head : List Member → Member → Bool
is_next_head ms m =
    m.attached
    && (not m.gone
    && (not m.allocated && (option_map_or (is_allocated ms) m.parent false && is_ready m.key ms)))

-- of these nodes the one that was born first: its unit is allocated, or it is lost
abbrev pub logical_allocation : Standing → Option Mark
logical_allocation s = option_and_then
    (λ buffers. option_map
    (λ head.
    outcome head.key
    (logical_failure (demands (unit head.key s.members)) (reserved s.members) buffers))
    (find (is_next_head s.members) s.members))
    s.buffers

-- the next mark that the collection forces, if any: the first of these that applies
abbrev pub forced : ℕ → Standing → Option Mark
forced pool s =
    first_some (ending s ∷ abandoned s ∷ initial_allocation pool s ∷ logical_allocation s ∷ [])
