-- What an event does to the rows of handles. No public clause cites this module.
use Rattle.std.specs.Prelude.{◌≡◌, ℕ, ◌+◌, ◌<◌, ⊤, Bool, true, false, ◌&&◌, ◌==◌}
use Rattle.std.specs.Int.{bit_at}
use Rattle.sm_names.specs.declared.keys.BufferName.{BufferName}
use Rattle.sm_names.specs.declared.keys.Strength.{Strength}
use Rattle.sm_names.specs.declared.messages.Call.{Call}
use Rattle.sm_names.specs.declared.messages.Reply.{Reply}
use Rattle.sm_names.specs.Handles.{opens, drops, lifts, lands}
use Rattle.sm_names.specs.Marks.{Mark}
use Rattle.sm_names.specs.Sameness.{same_buffer, same_strength}
use Rattle.event_laws.specs.ByEvent.{GoesBy, anyone, only, gains, loses, one_if}
use Rattle.buffer_holds.specs.Changes.{Tidies}
use Rattle.buffer_holds.specs.Counts.{Counts, of, moving_count, total, has_handle_room}

-- a handle of each buffer of the set has room under the limit
abbrev pub CanOpen : Counts → ℕ → Strength → ℕ → Type 0
CanOpen holds collection strength set = (index : ℕ) → bit_at set index ≡ 1 →
    total holds (record { collection = collection; index = index }) strength < holds.limit

-- the handles that the call, answered so, is about may be opened, dropped or moved: those that are opened have room under the
-- limit, and those that are dropped or moved are there
abbrev pub MayMove : Counts → ℕ → Call → Reply → Type 0
MayMove holds client (Call.Take key) (Reply.Taken collection strength set) = CanOpen holds collection strength set
MayMove holds client (Call.DupHandle buffer strength) Reply.Done = total holds buffer strength < holds.limit
MayMove holds client (Call.DropHandle buffer strength) Reply.Done = 0 < of holds client buffer strength
MayMove holds client (Call.GiveHandle buffer strength to) Reply.Done = 0 < of holds client buffer strength
MayMove holds client Call.Collect (Reply.CollectedHandle buffer strength) = 0 < moving_count holds buffer strength
MayMove holds client _ _ = ⊤

-- each count changes as the mark opens and closes such handles
pub record MovesHandles (old new : Counts) (mark : Mark) : Type 0 where
  pub each : (client : ℕ) (buffer : BufferName) (strength : Strength) → GoesBy (of old client buffer strength)
      (of new client buffer strength) (gains (only client) buffer strength mark) (loses (only client) buffer strength mark)
  pub in_parcels : (buffer : BufferName) (strength : Strength) → GoesBy (moving_count old buffer strength)
      (moving_count new buffer strength) (lifts anyone buffer strength mark) (lands anyone buffer strength mark)
  pub in_all : (buffer : BufferName) (strength : Strength) → GoesBy (total old buffer strength)
      (total new buffer strength) (opens anyone buffer strength mark) (drops anyone buffer strength mark)

-- what the call did to the handles can be undone without memory
abbrev pub CanUndo : Counts → ℕ → Call → Reply → Type 0
CanUndo holds client (Call.DropHandle buffer strength) Reply.Done =
    (has_handle_room holds client buffer strength ≡ true) × (total holds buffer strength < holds.limit)
CanUndo holds client (Call.GiveHandle buffer strength to) Reply.Done =
    (has_handle_room holds client buffer strength ≡ true) × (0 < moving_count holds buffer strength)
CanUndo holds client _ _ = ⊤

-- the call collects a handle: the gift made room for it, so that this takes no memory, and is never undone
abbrev pub collects_handle : Call → Reply → Bool
collects_handle Call.Collect (Reply.CollectedHandle buffer strength) = true
collects_handle _ _ = false

-- a call that drops or gives a handle takes back the room of its kind if the client has none open any more; other calls change
-- nothing
abbrev pub TidiesAfter : Counts → Counts → ℕ → Call → Type 0
TidiesAfter old new client (Call.DropHandle buffer strength) = Tidies old new client buffer strength
TidiesAfter old new client (Call.GiveHandle buffer strength to) = Tidies old new client buffer strength
TidiesAfter old new client _ = new ≡ old

-- the event needs room for handles: it opens some, or gives one whose receiver needs it
abbrev pub takes_handle_room : Call → Reply → Bool
takes_handle_room (Call.Take key) (Reply.Taken collection strength set) = true
takes_handle_room (Call.DupHandle buffer strength) Reply.Done = true
takes_handle_room (Call.GiveHandle buffer strength to) Reply.Done = true
takes_handle_room _ _ = false

-- ---- handles that a client opens

-- the buffer and strength are these
abbrev pub is_the : BufferName → Strength → BufferName → Strength → Bool
is_the buffer strength b s = same_buffer buffer b && same_strength strength s

-- from the old counts to the new the client opened one handle of each buffer and strength that pass, and no other
pub record Opens (old new : Counts) (client : ℕ) (passes : BufferName → Strength → Bool) : Type 0 where
  pub counts : (c : ℕ) (b : BufferName) (s : Strength) → of new c b s ≡ of old c b s + one_if (client == c && passes b s)
  pub parcels : (b : BufferName) (s : Strength) → moving_count new b s ≡ moving_count old b s
  pub totals : (b : BufferName) (s : Strength) → total new b s ≡ total old b s + one_if (passes b s)
