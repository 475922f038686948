-- What a list leaves of the places over which it is written.
use Rattle.std.specs.Prelude.{ℕ, List, ◌++◌, ◌∷◌, ◌-◌, [], length, min, take, drop}

-- the words over the first places, as many as there are of both, and the further places as they were
abbrev pub written_over : {A : Type 0} → List A → List A → List A
written_over words places = let both = min (length places) (length words) in take both words ++ drop both places

-- the text and a zero, where there are so many places: the text is cut so that the zero has one
abbrev pub text_in : List ℕ → ℕ → List ℕ
text_in text places = take (places - 1) text ++ 0 ∷ []
