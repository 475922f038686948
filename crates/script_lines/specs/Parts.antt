-- The text of a part.
use Rattle.std.specs.Prelude.{ℕ, ◌==◌, if◌then◌else◌, List, [], ◌++◌, codes, decimal}
use Rattle.script_lines.specs.Labels.{label_text}
use Rattle.script_lines.specs.declared.parts.Part.{Part}

-- what follows a word that this many are counted of
abbrev pub plural_end : ℕ → List ℕ
plural_end number = if number == 1 then [] else codes "s"

-- the text of the part
abbrev pub text_of : Part → List ℕ
text_of (Part.Word word) = word.now
text_of (Part.Bytes bytes) = bytes.now
text_of (Part.Number number) = decimal number
text_of (Part.Counted number word) = decimal number ++ codes " " ++ word.now ++ plural_end number
text_of (Part.Name label) = label_text label
