-- What a script calls its clients, nodes and trackers.
use Rattle.std.specs.Prelude.{ℕ, zero, suc, ◌+◌, ◌*◌, ◌/◌, ◌%◌, ◌==◌, Bool, false, ◌&&◌, ◌||◌, nat_le, if◌then◌else◌, List, [], ◌∷◌, length, Option, Some, None}
use Rattle.std.specs.List.{list_all, fold}
use Rattle.script_lines.specs.declared.label.Label.{Label}

-- the byte is a letter from a to z
abbrev pub is_letter : ℕ → Bool
is_letter byte = nat_le 97 byte && nat_le byte 122

-- the byte is a digit
abbrev pub is_digit : ℕ → Bool
is_digit byte = nat_le 48 byte && nat_le byte 57

-- the word may stand for a client, a node or a tracker: a letter, and up to fifteen letters or digits
abbrev pub is_label : List ℕ → Bool
is_label [] = false
is_label (first ∷ others) =
    is_letter first && nat_le (length others) 15 && list_all (λ byte. is_letter byte || is_digit byte) others

-- the number, with one more byte as its lowest digit to the base 256
abbrev pub with_byte : ℕ → ℕ → ℕ
with_byte code byte = code * 256 + byte

-- the bytes as digits to the base 256, the first the highest
abbrev pub packed : List ℕ → ℕ
packed bytes = fold with_byte 0 bytes

-- the label that is spelled so
abbrev pub label_of : List ℕ → Option Label
label_of word = if is_label word then Some (record { code = packed word }) else None

-- this many of the lowest digits to the base 256, without zeros in front, before these
abbrev pub spelled : ℕ → ℕ → List ℕ → List ℕ
spelled zero code behind = behind
spelled (suc most) code behind = if code == 0 then behind else spelled most (code / 256) (code % 256 ∷ behind)

-- how the label is spelled
abbrev pub text_of_label : Label → List ℕ
text_of_label label = spelled 16 label.code []

-- the label, if there is one
abbrev pub label_text : Option Label → List ℕ
label_text None = []
label_text (Some label) = text_of_label label

-- the labels are one
abbrev pub same_label : Label → Label → Bool
same_label a b = a.code == b.code
