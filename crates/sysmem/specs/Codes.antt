-- The codes that a call from C is answered with.
use Rattle.std.specs.Prelude.{◌==◌, ℕ, Bool, List, [], ◌∷◌}
use Rattle.std.specs.List.{list_any}

-- the code is one of these
abbrev pub is_among : List ℕ → ℕ → Bool
is_among codes code = list_any (λ c. c == code) codes

-- of a step: done, not open, bad call, history full, no memory
abbrev pub step_codes : List ℕ
step_codes = 0 ∷ 1 ∷ 4 ∷ 5 ∷ 6 ∷ []

-- of an opening: done, already open, bad limits, no memory
abbrev pub open_codes : List ℕ
open_codes = 0 ∷ 2 ∷ 3 ∷ 6 ∷ []

-- of a vanishing: done, not open, history full, no memory, no client
abbrev pub vanish_codes : List ℕ
vanish_codes = 0 ∷ 1 ∷ 5 ∷ 6 ∷ 9 ∷ []
