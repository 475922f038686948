-- The lines of bytes that come in pieces.
use Rattle.std.specs.Prelude.{ℕ, ◌==◌, if◌then◌else◌, List, [], ◌∷◌, ◌++◌}

-- the lines that end in these bytes, where the front of the first came before
abbrev pub lines_from : List ℕ → List ℕ → List (List ℕ)
lines_from front [] = []
lines_from front (byte ∷ bytes) =
    let ended : List (List ℕ) = front ∷ lines_from [] bytes in
    let on : List (List ℕ) = lines_from (front ++ byte ∷ []) bytes in
    if byte == 10 then ended else on

-- what stands behind the last end of a line, where the front of the first came before
abbrev pub rest_from : List ℕ → List ℕ → List ℕ
rest_from front [] = front
rest_from front (byte ∷ bytes) =
    let ended : List ℕ = rest_from [] bytes in
    let on : List ℕ = rest_from (front ++ byte ∷ []) bytes in
    if byte == 10 then ended else on

-- the whole lines of a script, without their ends
abbrev pub whole_lines : List ℕ → List (List ℕ)
whole_lines script = lines_from [] script

-- what stands behind the last end of a line
abbrev pub last_part : List ℕ → List ℕ
last_part script = rest_from [] script
