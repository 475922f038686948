-- Entries of which one loses keys, or is removed.
use Rattle.forest_store.proofs.Common.{◌≡◌, ℕ, ◌==◌, true, false, List, [], ◌∷◌, get_or, set, Some, None}
use Rattle.forest_store.proofs.Common.{option_map, sym, ap, ◌∙◌, eq-eqb, find, Table, Entry, Node, CollectionRow, AreRising}
use Rattle.forest_store.proofs.Common.{place_in, row_of, rows_of, is_bare, thin_in, thinned, without_bare, remove}
use Rattle.forest_store.proofs.leaving.Tidying.{above_other, bare_others, none_others, thin_others}
use Rattle.forest_store.proofs.Basics.{none_in, place_cases, row_found}

-- where no entry has the id no row has it
pub no_row : (id : ℕ) (es : List Entry) → place_in id es ≡ None → find (λ (s : CollectionRow). s.id == id) (rows_of es) ≡ None
no_row id es none = row_found id es ∙ ap (option_map row_of) (none_in id es none)

-- and nothing is removed
pub bare_none : (id : ℕ) (es : List Entry) → place_in id es ≡ None → rows_of es ≡ without_bare id (rows_of es)
bare_none id es none = sym (bare_others _ _ (none_others _ _ (no_row id es none)))

-- the entry at the place of the id keeps the keys that the table has
pub set_thin : (t : Table Node) (id : ℕ) (es : List Entry) (at : ℕ) (e : Entry) → AreRising (rows_of es) → place_in id es ≡ Some at →
    row_of e ≡ thinned t (row_of (get_or es at e)) → rows_of (set es at e) ≡ thin_in t id (rows_of es)
set_thin t id [] at e rising told is = absurd (cc)
set_thin t id (x ∷ es) at e rising told is =
    place_cases _ x _ at (λ at. row_of e ≡ thinned t (row_of (get_or (x ∷ es) at e)) →
    rows_of (set (x ∷ es) at e) ≡ thin_in t id (rows_of (x ∷ es))) told
    (λ same is. rw (same, thin_others t _ _ (above_other _ _ _ rising.0 same)) (ap (λ s. s ∷ rows_of es) is))
    (λ n other told is. rw other (ap (λ l. row_of x ∷ l) (set_thin t id es n e rising.1 told is))) is

-- the entry at the place of the id is removed, if it is bare
pub remove_bare : (id : ℕ) (es : List Entry) (at : ℕ) (d : Entry) → AreRising (rows_of es) → place_in id es ≡ Some at →
    is_bare (row_of (get_or es at d)) ≡ true → rows_of (remove es at) ≡ without_bare id (rows_of es)
remove_bare id [] at d rising told bare = absurd (cc)
remove_bare id (x ∷ es) at d rising told bare =
    place_cases _ x _ at (λ at. is_bare (row_of (get_or (x ∷ es) at d)) ≡ true →
    rows_of (remove (x ∷ es) at) ≡ without_bare id (rows_of (x ∷ es))) told
    (λ same bare. rw (same, bare) (sym (bare_others _ _ (above_other _ _ _ rising.0 same))))
    (λ n other told bare. rw other (ap (λ l. row_of x ∷ l) (remove_bare id es n d rising.1 told bare))) bare

-- and stays, if it is not
pub keep_bare : (id : ℕ) (es : List Entry) (at : ℕ) (d : Entry) → AreRising (rows_of es) → place_in id es ≡ Some at →
    is_bare (row_of (get_or es at d)) ≡ false → rows_of es ≡ without_bare id (rows_of es)
keep_bare id [] at d rising told bare = absurd (cc)
keep_bare id (x ∷ es) at d rising told bare =
    place_cases _ x _ at (λ at. is_bare (row_of (get_or (x ∷ es) at d)) ≡ false →
    rows_of (x ∷ es) ≡ without_bare id (rows_of (x ∷ es))) told (λ same bare. rw (same, bare) (ap (λ l.
    row_of x ∷ l) (sym (bare_others _ _ (above_other _ _ _ rising.0 same)))))
    (λ n other told bare. rw other (ap (λ l. row_of x ∷ l) (keep_bare id es n d rising.1 told bare))) bare

-- nor does one that is put in its place, if that is not bare
pub keep_set : (id : ℕ) (es : List Entry) (at : ℕ) (e : Entry) → AreRising (rows_of es) → place_in id es ≡ Some at → e.id ≡ id →
    is_bare (row_of e) ≡ false → without_bare id (rows_of (set es at e)) ≡ rows_of (set es at e)
keep_set id [] at e rising told own bare = absurd (cc)
keep_set id (x ∷ es) at e rising told own bare =
    place_cases _ x _ at (λ at. without_bare id (rows_of (set (x ∷ es) at e)) ≡ rows_of (set (x ∷ es) at e)) told
    (λ same. rw (eq-eqb e.id id own, bare) (ap (λ l.
    row_of e ∷ l) (bare_others _ _ (above_other _ _ _ rising.0 same))))
    (λ n other told. rw other (ap (λ l. row_of x ∷ l) (keep_set id es n e rising.1 told own bare)))
