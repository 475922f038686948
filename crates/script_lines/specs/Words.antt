-- The words of a line.
use Rattle.std.specs.Prelude.{ℕ, ◌≡◌, ◌==◌, List, [], Option, Some, None, MatchOption}
use Rattle.std.specs.List.{slice_split}
use denote.Ref.{Bor}

-- the words, of which each space ends one; there is one more than there are spaces
abbrev pub words : List ℕ → List (List ℕ)
words bytes = slice_split (λ byte. byte == 32) bytes

-- the words of the rest of a line, if there is any
abbrev pub words_left : Option (Bor (List ℕ)) → List (List ℕ)
words_left None = []
words_left (Some text) = words text.now

-- this was read of the first words, and these are behind them
abbrev pub Reads : {A : Type 0} → Option (A × Option (Bor (List ℕ))) → Option (A × List (List ℕ)) → Type 0
Reads result said = MatchOption result (said ≡ None) (λ r. said ≡ Some (r.0, words_left r.1))
