-- What one event does to handles, parcels, ends and clients.
use Rattle.std.specs.Prelude.{ℕ, ◌+◌, ◌<◌, ◌≡◌, Bool, true, false, ◌||◌, ◌&&◌, ◌==◌, if◌then◌else◌, Option, Some, None, is_some}
use Rattle.sm_names.specs.declared.keys.BufferName.{BufferName}
use Rattle.sm_names.specs.declared.keys.NodeKey.{NodeKey}
use Rattle.sm_names.specs.declared.keys.Strength.{Strength}
use Rattle.sm_names.specs.declared.messages.Call.{Call}
use Rattle.sm_names.specs.declared.messages.Parcel.{Parcel}
use Rattle.sm_names.specs.declared.messages.Reply.{Reply}
use Rattle.sm_names.specs.Births.{births}
use Rattle.sm_names.specs.Ends.{clients, is_shut, spent, kind, parcels, in_transit, holder, collector_at}
use Rattle.sm_names.specs.Handles.{opens, drops, lifts, lands, open_of, open_total, moving}
use Rattle.sm_names.specs.Marks.{Entry, Mark, Timeline, Called}
use Rattle.sm_names.specs.Sameness.{same_key, same_buffer, same_strength}

-- the event as a mark
abbrev pub entry_mark : Entry → Mark
entry_mark entry = Called entry.0 entry.2 entry.1

-- 1 where the test holds, else 0
abbrev pub one_if : Bool → ℕ
one_if b = if b then 1 else 0

-- each client passes
abbrev pub anyone : ℕ → Bool
anyone client = true

-- the client alone passes
abbrev pub only : ℕ → ℕ → Bool
only client c = c == client

-- the parcel is the end of some node: every other is a handle
abbrev pub is_end : Parcel → Bool
is_end (Parcel.End key) = true
is_end (Parcel.Handle buffer strength) = false

-- ---- handles

-- the mark brings such a client such a handle: it opens one, or takes one out of a parcel
abbrev pub gains : (ℕ → Bool) → BufferName → Strength → Mark → Bool
gains who buffer strength mark = opens who buffer strength mark || lands who buffer strength mark

-- the mark takes such a handle from such a client: it drops one, or puts one into a parcel
abbrev pub loses : (ℕ → Bool) → BufferName → Strength → Mark → Bool
loses who buffer strength mark = drops who buffer strength mark || lifts who buffer strength mark

-- the mark is about handles: no other opens, drops, gives or collects any
abbrev pub is_about_handles : Mark → Bool
is_about_handles (Called client (Reply.Taken collection taken set) (Call.Take key)) = true
is_about_handles (Called client Reply.Done (Call.DupHandle name strength)) = true
is_about_handles (Called client Reply.Done (Call.DropHandle name strength)) = true
is_about_handles (Called client Reply.Done (Call.GiveHandle name strength to)) = true
is_about_handles (Called client (Reply.CollectedHandle name strength) Call.Collect) = true
is_about_handles _ = false

-- a count grows by one if something is gained, and shrinks by one if something is lost, which it counted before
pub record GoesBy (old new : ℕ) (gained lost : Bool) : Type 0 where
  pub adds_up : new + one_if lost ≡ old + one_if gained
  pub was_there : lost ≡ true → 0 < old
  pub not_both : lost ≡ true → gained ≡ false

-- the client now has `held` of these handles open, `in_parcels` are in parcels and `in_all` are open in all; no
-- other count changes
pub record SetsHandles (old new : Timeline) (client : ℕ) (buffer : BufferName) (strength : Strength)
    (held in_parcels in_all : ℕ) : Type 0 where
  pub counts : (c : ℕ) (b : BufferName) (s : Strength)
      → open_of new c b s
      ≡ (if client == c && (same_buffer buffer b && same_strength strength s) then held else open_of old c b s)
  pub parcels : (b : BufferName) (s : Strength)
      → moving new b s ≡ (if same_buffer buffer b && same_strength strength s then in_parcels else moving old b s)
  pub totals : (b : BufferName) (s : Strength)
      → open_total new b s ≡ (if same_buffer buffer b && same_strength strength s then in_all else open_total old b s)

-- ---- parcels and ends

-- the parcel that the client gets at the mark: only a Collect gets one
abbrev pub collected_at : ℕ → Mark → Option Parcel
collected_at client (Called caller (Reply.Collected key kind collection) Call.Collect) =
    if caller == client then Some (Parcel.End key) else None
collected_at client (Called caller (Reply.CollectedHandle buffer strength) Call.Collect) =
    if caller == client then Some (Parcel.Handle buffer strength) else None
collected_at client _ = None

-- the mark puts the node's end into a parcel: only a Give that took effect does
abbrev pub sends : NodeKey → Mark → Bool
sends node (Called giver Reply.Done (Call.Give key to)) = same_key key node
sends node _ = false

-- the mark takes the node's end out of a parcel
abbrev pub delivers : NodeKey → Mark → Bool
delivers node mark = is_some (collector_at node mark)

-- ---- what marks that are no event leave

-- from the earlier marks to the later nobody's handles, parcels or ends changed, and no client or node was made
pub record SameHands (earlier later : Timeline) : Type 0 where
  pub born : births later ≡ births earlier
  pub joined : clients later ≡ clients earlier
  pub shut : is_shut later ≡ is_shut earlier
  pub had : open_of later ≡ open_of earlier
  pub in_parcels : moving later ≡ moving earlier
  pub in_all : open_total later ≡ open_total earlier
  pub waiting : parcels later ≡ parcels earlier
  pub over : spent later ≡ spent earlier
  pub under_way : in_transit later ≡ in_transit earlier
  pub holders : holder later ≡ holder earlier
  pub kinds : kind later ≡ kind earlier
