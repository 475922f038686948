-- Handles that are opened in the cells of one page.
use Rattle.std.specs.Prelude.{◌≡◌, ◌+◌, ◌&&◌, ◌||◌, ◌<◌, ℕ, true, if◌then◌else◌}
use Rattle.sm_names.specs.declared.keys.BufferName.{BufferName}
use Rattle.sm_names.specs.declared.keys.Strength.{Strength}
use Rattle.buffer_holds.specs.declared.names.Owner.{Owner}
use Rattle.buffer_holds.specs.Counts.{Counts, has_handle_room, moving_count, of, sent, total}
use Rattle.buffer_holds.specs.Kinds.{hold_of, kind_of}
use Rattle.buffer_holds.specs.Pages.{is_in, owner_of, part_of, same_owner, same_part, slot_of, IsIn}

-- fewer handles than may be are open of the kinds of these cells
abbrev pub HasRoomIn : Counts → Owner → (first set : ℕ) → Type 0
HasRoomIn counts owner first set = (b : BufferName) (s : Strength) → same_part owner.part (part_of (kind_of b s)) ≡ true →
    IsIn first set (slot_of (kind_of b s)) → total counts b s < counts.limit

-- the owner opened one handle more of each of these cells; no other count changes, and it has room for one more of each
pub record Gains (old new : Counts) (owner : Owner) (first set : ℕ) : Type 0 where
  pub limit : new.limit ≡ old.limit
  pub places : new.places ≡ old.places
  pub counts : (c : ℕ) (b : BufferName) (s : Strength) → of new c b s ≡ of old c b s
      + (if same_owner owner (owner_of (hold_of c b s)) && is_in first set (slot_of (kind_of b s)) then 1 else 0)
  pub parcels : (b : BufferName) (s : Strength) → moving_count new b s ≡ moving_count old b s
  pub totals : (b : BufferName) (s : Strength) → total new b s ≡ total old b s
      + (if same_part owner.part (part_of (kind_of b s)) && is_in first set (slot_of (kind_of b s)) then 1 else 0)
  pub sent : sent new ≡ sent old
  pub rooms : (c : ℕ) (b : BufferName) (s : Strength) → has_handle_room new c b s
      ≡ ((same_owner owner (owner_of (hold_of c b s)) && is_in first set (slot_of (kind_of b s))) || has_handle_room old c b s)
