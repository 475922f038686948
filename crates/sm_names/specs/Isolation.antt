-- What an event does not change in another collection than its own.
use Rattle.std.specs.Prelude.{ℕ, true, ◌==◌, ◌∷◌, Option, Some, ◌≡◌}
use Rattle.std.specs.List.{filter, list_any}
use Rattle.std.specs.Option.{option_map}
use Rattle.sm_names.specs.declared.keys.BufferName.{BufferName}
use Rattle.sm_names.specs.declared.keys.NodeKey.{NodeKey}
use Rattle.sm_names.specs.declared.keys.Strength.{Strength}
use Rattle.sm_names.specs.declared.tracking.Condition.{Condition}
use Rattle.sm_names.specs.Answers.{OpenEnd}
use Rattle.sm_names.specs.Births.{births, collection_in}
use Rattle.sm_names.specs.Ends.{holder, in_transit}
use Rattle.sm_names.specs.Handles.{buffers_of, open_total, doomed, home}
use Rattle.sm_names.specs.Marks.{Entry, Timeline, Called}
use Rattle.sm_names.specs.Members.{members}
use Rattle.sm_names.specs.Reading.{readings}
use Rattle.sm_names.specs.Timelines.{collection_of, held}
use Rattle.sm_names.specs.Trackers.{Tracked, tracked, fired_at}

-- the collection of the event that comes after these marks, if it names one
abbrev pub collection_at : Timeline → Entry → Option ℕ
collection_at before entry = collection_of (Called entry.0 entry.2 entry.1 ∷ before) entry.1 entry.2

-- the condition is on the collection
abbrev pub IsOf : Timeline → ℕ → Condition → Type 0
IsOf marks collection (Condition.Node key) = collection_in (births marks) key ≡ Some collection
IsOf marks collection (Condition.Lifetime key its most) =
    (its ≡ collection) × (collection_in (births marks) key ≡ Some collection)
IsOf marks collection (Condition.Weak buffer) = buffer.collection ≡ collection

-- the collection is after the later marks as it was after the earlier ones
pub record IsAsBefore (pool : ℕ) (earlier later : Timeline) (collection : ℕ) : Type 0 where
  -- how its nodes stand
  pub nodes : members later collection ≡ members earlier collection
  -- what it was given
  pub given : buffers_of later collection ≡ buffers_of earlier collection
  -- the handles that are open on its buffers
  pub handles : (buffer : BufferName) → buffer.collection ≡ collection → (strength : Strength) →
      open_total later buffer strength ≡ open_total earlier buffer strength
  -- which of its buffers are doomed, and which are home
  pub dooms : (buffer : BufferName) → buffer.collection ≡ collection →
      doomed later buffer ≡ doomed earlier buffer
  pub homes : (buffer : BufferName) → buffer.collection ≡ collection →
      home later buffer ≡ home earlier buffer
  -- the pages that its buffers hold
  pub pages : filter (λ h. h.buffer.collection == collection) (held pool later)
      ≡ filter (λ h. h.buffer.collection == collection) (held pool earlier)
  -- its ends, except their holders, and whether they are in a parcel
  pub ends : (node : NodeKey) → collection_in (births earlier) node ≡ Some collection →
      (readings later).end_of node
      ≡ option_map
      (λ (e : OpenEnd). record e { holder = holder later node; in_transit = in_transit later node })
      ((readings earlier).end_of node)
  -- when its trackers fired
  pub trackers : (t : Tracked) → IsOf earlier collection t.condition →
      list_any (λ u. u.id == t.id) (tracked earlier) ≡ true →
      fired_at later t ≡ fired_at earlier t
