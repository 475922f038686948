-- What contracts see of `Holds`: the handles that clients have open, and those in parcels.
use Rattle.std.specs.Prelude.{ℕ, ◌+◌, ◌≤◌, Bool, if◌then◌else◌, List, unwrap_or, is_some, sum_by}
use Rattle.std.specs.Map.{lookup}
use Rattle.sm_names.specs.declared.keys.BufferName.{BufferName}
use Rattle.sm_names.specs.declared.keys.Strength.{Strength}
use Rattle.buffer_holds.specs.declared.kinds.HandleKind.{HandleKind}
use Rattle.buffer_holds.specs.declared.kinds.Hold.{Hold}
use Rattle.buffer_holds.specs.Kinds.{kind_of, hold_of, same_handle_kind, same_hold}

-- at most `limit` handles of a kind; places for this many handles that land with any client; a row for each hold that has room
-- here, and one for each kind; no row means 0
pub record Counts : Type 0 where
  pub limit : ℕ
  pub places : ℕ
  pub rows : List (Hold × ℕ)
  pub parcels : List (HandleKind × ℕ)

-- how many of these handles the client has open; those in parcels are nobody's
abbrev pub of : Counts → ℕ → BufferName → Strength → ℕ
of counts client buffer strength = unwrap_or (lookup (same_hold (hold_of client buffer strength)) counts.rows) 0

-- how many of these handles are in parcels
abbrev pub moving_count : Counts → BufferName → Strength → ℕ
moving_count counts buffer strength = unwrap_or (lookup (same_handle_kind (kind_of buffer strength)) counts.parcels) 0

-- how many handles are in parcels, of all kinds
abbrev pub sent : Counts → ℕ
sent counts = sum_by (λ (p : HandleKind × ℕ). p.1) counts.parcels

-- each handle in a parcel has a place, so that none takes memory where it lands
abbrev pub HasPlaces : Counts → Type 0
HasPlaces counts = sent counts ≤ counts.places

-- the row's count, if it is of this kind
abbrev pub share : HandleKind → Hold × ℕ → ℕ
share kind row = if same_handle_kind row.0.kind kind then row.1 else 0

-- how many of these handles are open: those of each client, and those in parcels
abbrev pub total : Counts → BufferName → Strength → ℕ
total counts buffer strength = sum_by (share (kind_of buffer strength)) counts.rows + moving_count counts buffer strength

-- one more of these handles takes no memory for this client
abbrev pub has_handle_room : Counts → ℕ → BufferName → Strength → Bool
has_handle_room counts client buffer strength = is_some (lookup (same_hold (hold_of client buffer strength)) counts.rows)
