-- What calls change of the counts.
use Rattle.std.specs.Prelude.{◌≡◌, ℕ, ◌+◌, ◌==◌, ◌&&◌, ◌||◌, Bool, if◌then◌else◌, nat_lt}
use Rattle.std.specs.Int.{bit_at}
use Rattle.sm_names.specs.Sameness.{same_strength}
use Rattle.sm_names.specs.declared.keys.BufferName.{BufferName}
use Rattle.sm_names.specs.declared.keys.Strength.{Strength}
use Rattle.buffer_holds.specs.Counts.{Counts, of, moving_count, sent, total, has_handle_room}
use Rattle.buffer_holds.specs.Kinds.{kind_of, hold_of, same_handle_kind, same_hold}

-- the client now has `held` of these handles open, `in_parcels` are in parcels and `in_all` are open in all; no other count
-- changes, and this client has room for one more
pub record Sets (old new : Counts) (client : ℕ) (buffer : BufferName) (strength : Strength) (held in_parcels in_all : ℕ) : Type 0 where
  pub limit : new.limit ≡ old.limit
  pub counts : (c : ℕ) (b : BufferName) (s : Strength)
      → of new c b s ≡ (if same_hold (hold_of client buffer strength) (hold_of c b s) then held else of old c b s)
  pub parcels : (b : BufferName) (s : Strength)
      → moving_count new b s ≡ (if same_handle_kind (kind_of buffer strength) (kind_of b s) then in_parcels else moving_count old b s)
  pub totals : (b : BufferName) (s : Strength)
      → total new b s ≡ (if same_handle_kind (kind_of buffer strength) (kind_of b s) then in_all else total old b s)
  pub sent : sent new + moving_count old buffer strength ≡ sent old + in_parcels
  pub rooms : (c : ℕ) (b : BufferName) (s : Strength)
      → has_handle_room new c b s ≡ (same_hold (hold_of client buffer strength) (hold_of c b s) || has_handle_room old c b s)

-- no count changes, and this client has room only if it has such a handle open
pub record Tidies (old new : Counts) (client : ℕ) (buffer : BufferName) (strength : Strength) : Type 0 where
  pub limit : new.limit ≡ old.limit
  pub counts : (c : ℕ) (b : BufferName) (s : Strength) → of new c b s ≡ of old c b s
  pub parcels : (b : BufferName) (s : Strength) → moving_count new b s ≡ moving_count old b s
  pub totals : (b : BufferName) (s : Strength) → total new b s ≡ total old b s
  pub sent : sent new ≡ sent old
  pub places : new.places ≡ old.places
  pub rooms : (c : ℕ) (b : BufferName) (s : Strength)
      → has_handle_room new c b s
      ≡ (if same_hold (hold_of client buffer strength) (hold_of c b s) then nat_lt 0 (of old c b s) else has_handle_room old c
      b s)

-- the buffer is one of the set, below this index, and the strength is this one
abbrev pub is_in_set_below : ℕ → Strength → ℕ → ℕ → BufferName → Strength → Bool
is_in_set_below collection strength set end b s =
    collection == b.collection && (same_strength strength s && (bit_at set b.index == 1 && nat_lt b.index end))

-- the client opened one handle more on each buffer of the set below this index; no other count changes, and the client has room for
-- one more of each of these
pub record AddsSet (old new : Counts) (client collection : ℕ) (strength : Strength) (set end : ℕ) : Type 0 where
  pub limit : new.limit ≡ old.limit
  pub places : new.places ≡ old.places
  pub counts : (c : ℕ) (b : BufferName) (s : Strength)
      → of new c b s ≡ of old c b s + (if client == c && is_in_set_below collection strength set end b s then 1 else 0)
  pub parcels : (b : BufferName) (s : Strength) → moving_count new b s ≡ moving_count old b s
  pub totals : (b : BufferName) (s : Strength)
      → total new b s ≡ total old b s + (if is_in_set_below collection strength set end b s then 1 else 0)
  pub sent : sent new ≡ sent old
  pub rooms : (c : ℕ) (b : BufferName) (s : Strength)
      → has_handle_room new c b s ≡ ((client == c && is_in_set_below collection strength set end b s) || has_handle_room old c b s)
