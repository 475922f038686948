-- Lists of clients: their labels, or `all` alone.
use Rattle.std.specs.Prelude.{ℕ, ◌==◌, ◌&&◌, ◌||◌, nat_eq, Bool, false, if◌then◌else◌, List, drop, length, codes, Option, Some, None}
use Rattle.std.specs.List.{list_all, list_any, slice_split, starts_with}
use Rattle.std.specs.Option.{option_map_or}
use Rattle.std.specs.Str.{bytes_eq}
use Rattle.script_lines.specs.declared.label.Label.{Label}
use Rattle.script_lines.specs.Labels.{label_of, same_label}

-- what stands behind the first words of a line that says which clients may vanish
abbrev pub vanish_text : List ℕ → Option (List ℕ)
vanish_text line = if starts_with nat_eq line (codes "#! vanish ") then Some (drop 10 line) else None

-- the words of a text that this byte separates; there is one more than there are such bytes
abbrev pub listed : ℕ → List ℕ → List (List ℕ)
listed separator text = slice_split (λ byte. byte == separator) text

-- the word is the label
abbrev pub is_called : Label → List ℕ → Bool
is_called client word = option_map_or (same_label client) (label_of word) false

-- the word is `all`
abbrev pub says_all : List ℕ → Bool
says_all word = bytes_eq word (codes "all")

-- `all` is the only word
abbrev pub is_all : List (List ℕ) → Bool
is_all words = length words == 1 && list_any says_all words

-- the client of this label is in the list: all are, or its label is one of the words
abbrev pub is_among : List (List ℕ) → Label → Bool
is_among words client = is_all words || list_any (is_called client) words

-- the list is of some of these clients: `all` alone, or labels of theirs alone
abbrev pub are_clients : List (List ℕ) → List Label → Bool
are_clients words labels = is_all words || list_all (λ word. list_any (λ (label : Label). is_called label word) labels) words
