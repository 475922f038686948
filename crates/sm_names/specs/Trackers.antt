-- Trackers, and when they fire.
-- `holds` restates `fuchsia.sysmem2.Node.AttachNodeTracking`,
-- `fuchsia.sysmem2.BufferCollection.AttachLifetimeTracking` and the field `close_weak_asap` of
-- `fuchsia.sysmem2.VmoBuffer`.
use Rattle.std.specs.Prelude.{ℕ, Bool, false, ◌&&◌, ◌==◌, nat_le, if◌then◌else◌, List, [], ◌∷◌, map, reverse, Option, Some, None, is_none}
use Rattle.std.specs.List.{list_any, filter, flat_map, count_by, cons_option}
use Rattle.std.specs.Option.{option_map_or, option_map}
use Rattle.sm_names.specs.declared.keys.NodeKey.{NodeKey}
use Rattle.sm_names.specs.declared.keys.BufferName.{BufferName}
use Rattle.sm_names.specs.declared.messages.Call.{Call}
use Rattle.sm_names.specs.declared.messages.Reply.{Reply}
use Rattle.sm_names.specs.declared.tracking.Condition.{Condition}
use Rattle.sm_names.specs.declared.tracking.Fired.{Fired}
use Rattle.sm_names.specs.Births.{Birth, birth_of}
use Rattle.sm_names.specs.Handles.{left, doomed}
use Rattle.sm_names.specs.Losses.{gone, allocated}
use Rattle.sm_names.specs.Marks.{Mark, Timeline, Called, events, is_event}
use Rattle.sm_names.specs.Words.{last_match}

-- what the condition of a tracker depends on
pub record World : Type 0 where
  pub gone : NodeKey → Bool
  pub allocated : NodeKey → Bool
  pub left : ℕ → ℕ
  pub doomed : BufferName → Bool

-- the condition holds in this world. That of a lifetime holds if the node's unit is allocated and
-- few enough buffers of the collection are not home, or if the node is gone and its unit was never
-- allocated
abbrev pub holds : World → Condition → Bool
holds w (Condition.Node key) = w.gone key
holds w (Condition.Lifetime key collection most) =
    if w.allocated key then nat_le (w.left collection) most else w.gone key
holds w (Condition.Weak buffer) = w.doomed buffer

-- the world after these marks
abbrev pub world : Timeline → World
world marks = record {
  gone = gone marks;
  allocated = allocated marks;
  left = left marks;
  doomed = doomed marks;
}

-- a tracker and its condition
pub record Tracked : Type 0 where
  pub id : ℕ
  pub condition : Condition

-- the collection of the node
abbrev pub collection_of_node : Timeline → NodeKey → ℕ
collection_of_node marks node = option_map_or (λ (b : Birth). b.collection) (birth_of marks node) 0

-- the tracker that the mark, coming after these, attaches: only these three calls make one
abbrev pub tracked_at : Timeline → Mark → Option Tracked
tracked_at before (Called client (Reply.Tracker id) (Call.TrackNode key)) =
    Some (record { id = id; condition = Condition.Node key })
tracked_at before (Called client (Reply.Tracker id) (Call.TrackLifetime key most)) =
    Some (record {
      id = id;
      condition = Condition.Lifetime key (collection_of_node before key) most;
    })
tracked_at before (Called client (Reply.Tracker id) (Call.TrackWeak buffer)) =
    Some (record { id = id; condition = Condition.Weak buffer })
tracked_at before _ = None

-- all trackers, the newest first
abbrev pub tracked : Timeline → List Tracked
tracked [] = []
tracked (mark ∷ before) = cons_option (tracked_at before mark) (tracked before)

-- the timeline as it was before each event, the latest first: all that earlier events forced has
-- then happened
abbrev pub earlier_moments : Timeline → List Timeline
earlier_moments [] = []
earlier_moments (mark ∷ before) =
    if is_event mark then before ∷ earlier_moments before else earlier_moments before

-- the same, with the timeline as it is now
abbrev pub moments : Timeline → List Timeline
moments marks = marks ∷ earlier_moments marks

-- at this moment the tracker is attached, and its condition holds
abbrev pub fires_at : Tracked → Timeline → Bool
fires_at t moment =
    list_any (λ (u : Tracked). u.id == t.id) (tracked moment) && holds (world moment) t.condition

-- the event at which the tracker fired: the first one after which its condition holds. That may be
-- the event that made the tracker
abbrev pub fired_at : Timeline → Tracked → Option ℕ
fired_at marks t = option_map events (last_match (fires_at t) (moments marks))

-- the trackers that fired at this event, by id
abbrev pub fired_in : Timeline → ℕ → List Fired
fired_in marks event =
    map (λ (t : Tracked). record { tracker = t.id; event = event })
    (filter (λ t. option_map_or (λ e. e == event) (fired_at marks t) false)
    (reverse (tracked marks)))

-- the trackers that fired, by event, then by id
abbrev pub fired : Timeline → List Fired
fired marks = flat_map (λ moment. fired_in marks (events moment)) (reverse (moments marks))

-- how many have not fired
abbrev pub unfired : Timeline → ℕ
unfired marks = count_by (λ t. is_none (fired_at marks t)) (tracked marks)
