-- Numbers in a line.
use Rattle.std.specs.Prelude.{ℕ, ◌+◌, ◌*◌, ◌-◌, ◌^◌, Bool, false, not, ◌&&◌, ◌||◌, ◌==◌, nat_lt, if◌then◌else◌, List, [], ◌∷◌, length, Option, Some, None}
use Rattle.std.specs.List.{list_all, fold}
use Rattle.script_lines.specs.Labels.{is_digit}

-- the word is 0, or digits of which the first is not 0
abbrev pub is_numeral : List ℕ → Bool
is_numeral [] = false
is_numeral (first ∷ others) =
    is_digit first && (not (first == 48) || length others == 0) && list_all is_digit others

-- the number, with one more digit
abbrev pub with_digit : ℕ → ℕ → ℕ
with_digit number byte = number * 10 + (byte - 48)

-- the number that these digits spell
abbrev pub value : List ℕ → ℕ
value digits = fold with_digit 0 digits

-- the number that the word spells, if it has 32 bits at most
abbrev pub number_of : List ℕ → Option ℕ
number_of word = if is_numeral word && nat_lt (value word) (2 ^ 32) then Some (value word) else None
