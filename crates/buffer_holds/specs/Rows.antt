-- The entries of a map from keys to counts, and what becomes of them when one changes.
use Rattle.std.specs.Prelude.{◌≡◌, ℕ, ◌+◌, Bool, if◌then◌else◌, List, Option, Some, None, sum_by, slice_get}
use Rattle.std.specs.List.{IsDistinct}
use Rattle.std.specs.Map.{lookup, keys_of}
use Rattle.buffer_holds.specs.declared.kinds.Hold.{Hold}
use Rattle.buffer_holds.specs.Kinds.{same_hold}

-- the row of this hold
abbrev pub row_at : List (Hold × ℕ) → Hold → Option ℕ
row_at rows hold = lookup (same_hold hold) rows

module _ {K X : Type 0} where
  -- what the entry at this key weighs, 0 without one
  abbrev pub weight_at : (K × X → ℕ) → K → Option X → ℕ
  weight_at weight key None = 0
  weight_at weight key (Some value) = weight (key, value)

  -- the entry of this key stands at this place
  abbrev pub StandsAt : List (K × X) → ℕ → K → Type 0
  StandsAt entries place key = (value : X) × (slice_get entries place ≡ Some (key, value))

  -- the entry at this key was this and is that now, and all others are as they were
  pub record Resets (same : K → K → Bool) (old new : List (K × X)) (key : K) (was now : Option X) : Type 0 where
    pub had : lookup (same key) old ≡ was
    pub finds : (other : K) → lookup (same other) new ≡ (if same key other then now else lookup (same other) old)
    pub weighs : (weight : K × X → ℕ) → sum_by weight new + weight_at weight key was ≡ sum_by weight old + weight_at weight key now
    pub distinct : IsDistinct same (keys_of new)
