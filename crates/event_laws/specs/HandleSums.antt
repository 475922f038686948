-- The handles that events open, drop and move, counted over a history, and what is open, added up over buffers.
use Rattle.std.specs.Prelude.{ℕ, ◌≤◌, ◌≡◌, Bool, true, ◌==◌, ◌&&◌, if◌then◌else◌, List, [], ◌∷◌, length, Option, None, is_some, is_none}
use Rattle.std.specs.Int.{bit_at}
use Rattle.std.specs.List.{cons_option, filter, list_any, range_with_len, sum_by}
use Rattle.std.specs.Option.{option_and_then}
use Rattle.sm_names.specs.declared.rules.TheConstants.{MAX_BUFFERS}
use Rattle.sm_names.specs.declared.keys.BufferName.{BufferName}
use Rattle.sm_names.specs.declared.keys.Strength.{Strength}
use Rattle.sm_names.specs.declared.messages.Call.{Call}
use Rattle.sm_names.specs.declared.messages.Reply.{Reply}
use Rattle.sm_names.specs.Births.{Birth, birth_of}
use Rattle.sm_names.specs.Handles.{buffers_of, moving, open_of, open_total}
use Rattle.sm_names.specs.Marks.{Entry, Mark, Timeline, Called, Allocated}
use Rattle.sm_names.specs.Sameness.{same_strength}
use Rattle.sm_names.specs.Words.{times, when}
use Rattle.event_laws.specs.ByEvent.{entry_mark}

-- ---- what events do

-- the buffers of a set whose indices are below this one: bit i stands for buffer i
abbrev pub indices_below : ℕ → ℕ → List ℕ
indices_below most set = filter (λ i. bit_at set i == 1) (range_with_len 0 most)

-- all buffers of a set, by their indices
unfoldable pub indices_in : ℕ → List ℕ
indices_in set = indices_below MAX_BUFFERS set

-- this many, where the strengths are one
abbrev pub count_if : Strength → Strength → ℕ → ℕ
count_if strength other count = if same_strength other strength then count else 0

-- this many, where such a client calls and the strengths are one
abbrev pub count_for : (ℕ → Bool) → ℕ → Strength → Strength → ℕ → ℕ
count_for who client strength other count = if who client && same_strength other strength then count else 0

-- how many handles of this strength the mark opens for such a client: a Take one on each buffer of its set, a
-- DupHandle one
abbrev pub opened_at : (ℕ → Bool) → Strength → Mark → ℕ
opened_at who strength (Called client (Reply.Taken collection taken set) (Call.Take key)) =
    count_for who client strength taken (length (indices_in set))
opened_at who strength (Called client Reply.Done (Call.DupHandle name dup)) = count_for who client strength dup 1
opened_at who strength _ = 0

-- how many such a client drops: a DropHandle one
abbrev pub dropped_at : (ℕ → Bool) → Strength → Mark → ℕ
dropped_at who strength (Called client Reply.Done (Call.DropHandle name dropped)) =
    count_for who client strength dropped 1
dropped_at who strength _ = 0

-- how many such a client puts into parcels: a GiveHandle one
abbrev pub sent_at : (ℕ → Bool) → Strength → Mark → ℕ
sent_at who strength (Called client Reply.Done (Call.GiveHandle name given to)) =
    count_for who client strength given 1
sent_at who strength _ = 0

-- how many such a client takes out: a Collect that was answered so one
abbrev pub got_at : (ℕ → Bool) → Strength → Mark → ℕ
got_at who strength (Called client (Reply.CollectedHandle name given) Call.Collect) =
    count_for who client strength given 1
got_at who strength _ = 0

-- how many handles of this strength such clients opened
abbrev pub opened : (ℕ → Bool) → Strength → List Entry → ℕ
opened who strength history = sum_by (λ (e : Entry). opened_at who strength (entry_mark e)) history

-- how many they dropped
abbrev pub dropped : (ℕ → Bool) → Strength → List Entry → ℕ
dropped who strength history = sum_by (λ (e : Entry). dropped_at who strength (entry_mark e)) history

-- how many they put into parcels
abbrev pub sent : (ℕ → Bool) → Strength → List Entry → ℕ
sent who strength history = sum_by (λ (e : Entry). sent_at who strength (entry_mark e)) history

-- how many they took out
abbrev pub got : (ℕ → Bool) → Strength → List Entry → ℕ
got who strength history = sum_by (λ (e : Entry). got_at who strength (entry_mark e)) history

-- ---- what is open on buffers

-- the list has each collection that was given buffers, and none twice
pub record ListsAllocated (marks : Timeline) (collections : List ℕ) : Type 0 where
  pub once : (collection : ℕ) → times (λ c. c == collection) collections ≤ 1
  pub all : (collection : ℕ) → is_some (buffers_of marks collection) ≡ true
      → list_any (λ c. c == collection) collections ≡ true

-- the collection to which the mark, coming after these, gives buffers: only the allocation of a root does
abbrev pub newly_allocated : Timeline → Mark → Option ℕ
newly_allocated before (Allocated head) =
    option_and_then (λ (b : Birth). when (is_none b.parent) b.collection) (birth_of before head)
newly_allocated before _ = None

-- the collections that were given buffers, the last one first
abbrev pub allocated_collections : Timeline → List ℕ
allocated_collections [] = []
allocated_collections (mark ∷ before) = cons_option (newly_allocated before mark) (allocated_collections before)

-- a count of each buffer, added up over these collections: no collection has more than may be, with indices from 0
abbrev pub over_buffers : List ℕ → (BufferName → ℕ) → ℕ
over_buffers collections count =
    sum_by (λ c. sum_by (λ i. count (record { collection = c; index = i })) (range_with_len 0 MAX_BUFFERS)) collections

-- ---- over all buffers of a timeline

-- how many handles of this strength are open, those in parcels among them
unfoldable pub all_open : Timeline → Strength → ℕ
all_open marks strength = over_buffers (allocated_collections marks) (λ b. open_total marks b strength)

-- how many are in parcels
unfoldable pub all_moving : Timeline → Strength → ℕ
all_moving marks strength = over_buffers (allocated_collections marks) (λ b. moving marks b strength)

-- how many the client has open
unfoldable pub all_open_of : Timeline → ℕ → Strength → ℕ
all_open_of marks client strength = over_buffers (allocated_collections marks) (λ b. open_of marks client b strength)
