-- The lines of a transcript that are not indented, one more at a time.
use Rattle.std.proofs.Common.{◌≡◌, ℕ, true, false, not, List, [], ◌∷◌, ◌++◌, append-nil, refl, ◌∙◌}
use Rattle.std.proofs.lemmas.List.Elements.{filter-append}
use Rattle.report_io.specs.IndentedLines.{is_indented, unindented}

-- an indented line is none of the script
pub unindented-skip : (lines : List (List ℕ)) (line : List ℕ) → is_indented line ≡ true → unindented (lines ++ line ∷ []) ≡ unindented lines
unindented-skip lines line skip =
    filter-append (λ l. not (is_indented l)) lines (line ∷ []) ∙ rw skip (append-nil (unindented lines))

-- any other is the next of it
pub unindented-more : (lines : List (List ℕ)) (line : List ℕ) → is_indented line ≡ false →
    unindented (lines ++ line ∷ []) ≡ unindented lines ++ line ∷ []
unindented-more lines line whole = filter-append (λ l. not (is_indented l)) lines (line ∷ []) ∙ rw whole refl
