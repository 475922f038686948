-- The trackers that wait, and what an event asks of them.
use Rattle.std.specs.Prelude.{ℕ, Bool, true, false, ◌≡◌, ◌⊎◌, List, [], ◌++◌, reverse, is_none}
use Rattle.std.specs.List.{filter, cons_option}
use Rattle.sm_names.specs.declared.keys.BufferName.{BufferName}
use Rattle.sm_names.specs.declared.keys.NodeKey.{NodeKey}
use Rattle.sm_names.specs.declared.tracking.Condition.{Condition}
use Rattle.sm_names.specs.declared.tracking.Fired.{Fired}
use Rattle.sm_names.specs.Births.{births, was_born}
use Rattle.sm_names.specs.Handles.{doomed, home, left}
use Rattle.sm_names.specs.Losses.{gone, allocated}
use Rattle.sm_names.specs.Marks.{Entry, Timeline, Called}
use Rattle.sm_names.specs.Trackers.{World, Tracked, holds, tracked, tracked_at, fired_at}

-- the trackers that have not fired, the earliest first
abbrev pub unfired_trackers : Timeline → List Tracked
unfired_trackers marks = filter (λ t. is_none (fired_at marks t)) (reverse (tracked marks))

-- the tracker that the event, coming after these marks, attaches, if it attaches one
abbrev pub tracker_made : Timeline → Entry → List Tracked
tracker_made before entry = cons_option (tracked_at before (Called entry.0 entry.2 entry.1)) []

-- those that waited before the event, and the one that it attaches
abbrev pub trackers_to_test : Timeline → Entry → List Tracked
trackers_to_test before entry = unfired_trackers before ++ tracker_made before entry

-- what the tracker waits for holds in this world
abbrev pub is_tracked_met : World → Tracked → Bool
is_tracked_met w t = holds w t.condition

-- the firing of the tracker at this event
abbrev pub tracked_firing : ℕ → Tracked → Fired
tracked_firing event t = record { tracker = t.id; event = event }

-- what a tracker that waits knows of its node or buffer: a node that is tracked is not gone, a node whose lifetime
-- is tracked was allocated if it is gone, a buffer is not doomed
abbrev pub IsWaitedFor : Timeline → Condition → Type 0
IsWaitedFor marks (Condition.Node key) = gone marks key ≡ false
IsWaitedFor marks (Condition.Lifetime key collection most) = gone marks key ≡ true → allocated marks key ≡ true
IsWaitedFor marks (Condition.Weak buffer) = doomed marks buffer ≡ false

-- the world is that after the later marks, but for what was over by the earlier ones: a node that was gone then may
-- be taken for allocated, and nothing is asked of a buffer that was home, nor of a key that no node had
pub record IsRecalled (earlier later : Timeline) (w : World) : Type 0 where
  pub nodes : (key : NodeKey) → was_born (births earlier) key ≡ true → w.gone key ≡ gone later key
  pub units : (key : NodeKey) → was_born (births earlier) key ≡ true →
      (w.allocated key ≡ allocated later key) ⊎ ((gone earlier key ≡ true) × (w.allocated key ≡ true))
  pub counts : (collection : ℕ) → w.left collection ≡ left later collection
  pub dooms : (buffer : BufferName) → home earlier buffer ≡ false → w.doomed buffer ≡ doomed later buffer
