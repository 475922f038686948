-- The timeline of a history: the marks of its calls, and those that they forced.
use Rattle.std.specs.Prelude.{ℕ, ◌*◌, zero, suc, not, nat_lt, if◌then◌else◌, List, [], ◌∷◌, ◌++◌, length, map, Option, Some, None, ◌≡◌, is_none}
use Rattle.std.specs.List.{list_any, filter, fold, cons_option}
use Rattle.std.specs.Option.{option_map_or, option_map, option_and_then}
use Rattle.sm_names.specs.declared.keys.NodeKey.{NodeKey}
use Rattle.sm_names.specs.declared.keys.BufferName.{BufferName}
use Rattle.sm_names.specs.declared.keys.HeldBuffer.{HeldBuffer}
use Rattle.sm_names.specs.declared.keys.Interval.{Interval}
use Rattle.sm_names.specs.declared.keys.Strength.{Strength}
use Rattle.sm_names.specs.declared.messages.Call.{Call}
use Rattle.sm_names.specs.declared.messages.Reply.{Reply}
use Rattle.sm_names.specs.declared.outcomes.Buffers.{Buffers}
use Rattle.sm_names.specs.declared.outcomes.Cause.{Cause}
use Rattle.sm_names.specs.Births.{Birth, births, birth_of}
use Rattle.sm_names.specs.Forced.{Standing, forced}
use Rattle.sm_names.specs.Handles.{buffers_of, buffer_names, open_total, home, names}
use Rattle.sm_names.specs.Losses.{gone}
use Rattle.sm_names.specs.Marks.{Entry, Mark, Timeline, Called, Loss, Allocated}
use Rattle.sm_names.specs.Members.{members, asked}
use Rattle.sm_names.specs.Pages.{places, pages_of}
use Rattle.sm_names.specs.Words.{first_some, when}

-- each buffer with its pages; there are as many starts as buffers
abbrev pub laid_out : ℕ → List BufferName → List ℕ → List HeldBuffer
laid_out pages (b ∷ bs) (start ∷ starts) =
    record { buffer = b; pages = record { start = start; pages = pages } }
    ∷ laid_out pages bs starts
laid_out pages _ _ = []

-- the collection's buffers, laid out in the pool as its root unit asks for them
abbrev pub layout : ℕ → ℕ → Buffers → List Interval → List HeldBuffer
layout pool collection buffers held =
    option_map_or (laid_out (pages_of buffers.size) (names collection buffers.count))
    (places pool (pages_of buffers.size) buffers.count held) []

-- what the mark, coming after these, lays out: only the allocation of a root lays out buffers
abbrev pub layout_at : ℕ → Timeline → List Interval → Mark → List HeldBuffer
layout_at pool before held (Allocated head) = option_map_or
    (λ (b : Birth).
    if is_none b.parent
    then layout pool b.collection (asked (members before b.collection)) held else [])
    (birth_of before head) []
layout_at pool before held _ = []

-- those buffers that are not home
abbrev pub still_out : Timeline → List HeldBuffer → List HeldBuffer
still_out marks placed = filter (λ h. not (home marks h.buffer)) placed

-- the pages of each buffer that was ever given any, at the place that it was given
abbrev pub placed : ℕ → Timeline → List HeldBuffer
placed pool [] = []
placed pool (mark ∷ before) =
    layout_at pool before (map (λ h. h.pages) (still_out before (placed pool before))) mark
    ++ placed pool before

-- the pages of each buffer that is not home
abbrev pub held : ℕ → Timeline → List HeldBuffer
held pool marks = still_out marks (placed pool marks)

-- the collection as it stands after these marks
abbrev pub standing : ℕ → Timeline → ℕ → Standing
standing pool marks collection = record {
  members = members marks collection;
  buffers = buffers_of marks collection;
  strong_open =
      list_any (λ b. nat_lt 0 (open_total marks b Strength.Strong)) (buffer_names marks collection);
  held = map (λ h. h.pages) (held pool marks);
}

-- the next mark that the collection forces after these
abbrev pub next_forced : ℕ → ℕ → Timeline → Option Mark
next_forced pool collection marks = forced pool (standing pool marks collection)

-- the marks and then those that the collection forces, one after another, until it forces none
pub data Settles (pool collection : ℕ) : Timeline → Timeline → Type 0 where
  Rests : (marks : Timeline) → next_forced pool collection marks ≡ None →
      Settles pool collection marks marks
  Forces : (marks after : Timeline) (mark : Mark) → next_forced pool collection marks ≡ Some mark →
      Settles pool collection (mark ∷ marks) after → Settles pool collection marks after

-- the marks and then those that the collection forces, at most this many
abbrev pub settled_within : ℕ → ℕ → ℕ → Timeline → Timeline
settled_within pool collection zero marks = marks
settled_within pool collection (suc most) marks =
    option_map_or (λ mark. settled_within pool collection most (mark ∷ marks))
    (next_forced pool collection marks) marks

-- the marks and then all that the collection forces. Each of these takes a node or allocates a
-- unit, so there are at most two for each node
abbrev pub settled : ℕ → ℕ → Timeline → Timeline
settled pool collection marks = settled_within pool collection (2 * length (births marks)) marks

-- the node that the call names
abbrev pub key_of : Call → Option NodeKey
key_of Call.Join = None
key_of Call.Shut = None
key_of Call.OpenRoot = None
key_of (Call.Duplicate key) = Some key
key_of (Call.AttachToken key) = Some key
key_of (Call.Sync key) = Some key
key_of (Call.Give key to) = Some key
key_of Call.Collect = None
key_of (Call.Bind key) = Some key
key_of (Call.SetDispensable key) = Some key
key_of (Call.SetWeak key) = Some key
key_of (Call.SetWeakOk key children) = Some key
key_of (Call.SetConstraints key demand) = Some key
key_of (Call.Check key) = Some key
key_of (Call.Take key) = Some key
key_of (Call.Release key) = Some key
key_of (Call.Close key) = Some key
key_of (Call.DupHandle buffer strength) = None
key_of (Call.DropHandle buffer strength) = None
key_of (Call.GiveHandle buffer strength to) = None
key_of (Call.TrackNode key) = Some key
key_of (Call.TrackLifetime key most) = Some key
key_of (Call.TrackWeak buffer) = None

-- the buffer that the call names: each other call names a node or nothing
abbrev pub buffer_of : Call → Option BufferName
buffer_of (Call.DupHandle buffer strength) = Some buffer
buffer_of (Call.DropHandle buffer strength) = Some buffer
buffer_of (Call.GiveHandle buffer strength to) = Some buffer
buffer_of (Call.TrackWeak buffer) = Some buffer
buffer_of _ = None

-- the collection that the call opened: only OpenRoot opens one
abbrev pub opened_by : Call → Reply → Option ℕ
opened_by Call.OpenRoot (Reply.Token key collection) = Some collection
opened_by _ _ = None

-- the collection of the call
abbrev pub collection_of : Timeline → Call → Reply → Option ℕ
collection_of marks call reply = first_some (
    option_map (λ (b : Birth). b.collection) (option_and_then (birth_of marks) (key_of call))
    ∷ option_map (λ (b : BufferName). b.collection) (buffer_of call)
    ∷ opened_by call reply
    ∷ [])

-- the loss that the call itself makes: a Close of a node that is not gone, or a misuse. No other
-- call and reply make one
abbrev pub own_loss : Timeline → Call → Reply → Option Mark
own_loss before (Call.Close key) Reply.Done = when (not (gone before key)) (Loss key Cause.Lost)
own_loss before call (Reply.Misused misuse) =
    option_map (λ key. Loss key (Cause.Misused misuse)) (key_of call)
own_loss before call _ = None

-- the marks after one more event
abbrev pub after : ℕ → Timeline → Entry → Timeline
after pool before entry =
    let called : Timeline = Called entry.0 entry.2 entry.1 ∷ before in
    let lost : Timeline = cons_option (own_loss before entry.1 entry.2) called in
    option_map_or (λ collection. settled pool collection lost)
    (collection_of called entry.1 entry.2) lost

-- the marks of a history, whose events stand in order
abbrev pub timeline : ℕ → List Entry → Timeline
timeline pool history = fold (after pool) [] history
