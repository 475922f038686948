-- Who has handles on a buffer.
use Rattle.std.specs.Prelude.{ℕ, Bool, ◌||◌, nat_lt, List, ◌∷◌, map}
use Rattle.std.specs.List.{filter}
use Rattle.sm_names.specs.declared.keys.BufferName.{BufferName}
use Rattle.sm_names.specs.declared.keys.Strength.{Strength}
use Rattle.buffer_holds.specs.Counts.{Counts, moving_count, of}
use Rattle.core_state.specs.State.{Client, State}
use Rattle.sysmem.specs.declared.holders.HolderWords.{HolderWords}

-- the handles on the buffer that are in parcels, as those of client 0, which never joins
abbrev pub moving_words : Counts → BufferName → HolderWords
moving_words holds buffer = record {
  client = 0;
  strong = moving_count holds buffer Strength.Strong;
  weak = moving_count holds buffer Strength.Weak;
}

-- the handles on the buffer that the client has open
abbrev pub open_words : Counts → BufferName → ℕ → HolderWords
open_words holds buffer client = record {
  client = client;
  strong = of holds client buffer Strength.Strong;
  weak = of holds client buffer Strength.Weak;
}

-- there is a handle
abbrev pub has_handles : HolderWords → Bool
has_handles words = nat_lt 0 words.strong || nat_lt 0 words.weak

-- who has handles on the buffer: the parcels, and then each client, by its number
abbrev pub holders_in : State → BufferName → List HolderWords
holders_in s buffer = filter has_handles (moving_words s.holds buffer ∷ map (open_words s.holds buffer) (map (λ (c : Client). c.id) s.clients))
