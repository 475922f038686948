-- The turns of a way, gone back one after another.
use Rattle.play_search.proofs.Common.{Bool, List, None, Option, Row, Some, Turn, [], ap, arith, cond, false, length, option_map_or, refl}
use Rattle.play_search.proofs.Common.{slice_get, subst, suc, sym, true, way_to, zero, ℕ, ◌++◌, ◌+◌, ◌<◌, ◌∙◌, ◌∷◌, ◌≡◌, ◌≤◌}
use Rattle.std.proofs.Common.{◌==◌, reverse, append_assoc}
use Rattle.std.proofs.lemmas.Bool.{eqb-true}
use Rattle.std.proofs.lemmas.List.{reverse-append}
use Rattle.play_search.specs.Closing.{turn_numbered, way_behind}

-- behind so many rows, these are the last turns of the way, the last one first
abbrev pub IsPart : List Row → ℕ → ℕ → List Turn → List Turn → Type 0
IsPart rows behind at turns way =
    (rest : ℕ) × (rest + behind ≡ length rows) × (way_behind rows rest at ++ reverse turns ≡ way)

-- Nothing was gone back.
pub part_none : (rows : List Row) (place : ℕ) → IsPart rows 0 place [] (way_to rows place)
part_none rows place = (length rows, omega arith, append_nothing (way_to rows place))
  where
    -- nothing is added
    append_nothing : (turns : List Turn) → turns ++ reverse [] ≡ turns
    append_nothing [] = refl
    append_nothing (turn ∷ turns) = ap (λ ts. turn ∷ ts) (append_nothing turns)

-- At the first value the way is whole.
pub part_first : (rows : List Row) (behind at : ℕ) (turns way : List Turn) → at ≡ 0 → IsPart rows behind at turns way →
    reverse turns ≡ way
part_first rows behind at turns way is (zero, count, so) = so
part_first rows behind at turns way is (suc rest, count, so) =
    subst (λ (n : ℕ). way_behind rows (suc rest) n ++ reverse turns ≡ way) is so

-- So it is at a value that was not met.
pub part_missing : (rows : List Row) (behind at : ℕ) (turns way : List Turn) → slice_get rows at ≡ None → IsPart rows behind at turns way →
    reverse turns ≡ way
part_missing rows behind at turns way none (zero, count, so) = so
part_missing rows behind at turns way none (suc rest, count, so) =
    sym (ap (λ ts. ts ++ reverse turns) (nothing (at == 0))) ∙ so
  where
    -- whether it is the first value or not
    nothing : (b : Bool) → cond b [] (option_map_or (λ (row : Row). way_behind rows rest row.parent ++ turn_numbered row.turn ∷ [])
        (slice_get rows at) []) ≡ []
    nothing true = refl
    nothing false = ap (λ (o : Option Row). option_map_or
        (λ (row : Row). way_behind rows rest row.parent ++ turn_numbered row.turn ∷ []) o []) none

-- And where all rows were gone back.
pub part_end : (rows : List Row) (behind at : ℕ) (turns way : List Turn) → length rows ≤ behind → IsPart rows behind at turns way →
    reverse turns ≡ way
part_end rows behind at turns way all (zero, count, so) = so
part_end rows behind at turns way all (suc rest, count, so) = absurd (omega (arith, all, count))

-- The last turn of the way to a value is that of its row.
last_turn : (rows : List Row) (rest at : ℕ) (row : Row) → (at ≡ 0 → ⊥) → slice_get rows at ≡ Some row →
    way_behind rows (suc rest) at ≡ way_behind rows rest row.parent ++ turn_numbered row.turn ∷ []
last_turn rows rest at row apart there = by (at == 0) refl
  where
    -- by whether it is the first value
    by : (b : Bool) → (at == 0) ≡ b → cond b [] (option_map_or (λ (r : Row). way_behind rows rest r.parent ++ turn_numbered r.turn ∷ [])
        (slice_get rows at) []) ≡ way_behind rows rest row.parent ++ turn_numbered row.turn ∷ []
    by true is = absurd (apart (eqb-true at 0 is))
    by false is = ap (λ (o : Option Row). option_map_or
        (λ (r : Row). way_behind rows rest r.parent ++ turn_numbered r.turn ∷ []) o []) there

-- One turn more is gone back.
pub part_further : (rows : List Row) (behind at : ℕ) (row : Row) (turns way : List Turn) → behind < length rows → (at ≡ 0 → ⊥) →
    slice_get rows at ≡ Some row → IsPart rows behind at turns way →
    IsPart rows (behind + 1) row.parent (turns ++ turn_numbered row.turn ∷ []) way
part_further rows behind at row turns way less apart there (zero, count, so) = absurd (omega (arith, less, count))
part_further rows behind at row turns way less apart there (suc rest, count, so) = (
  rest,
  omega (arith, count),
  ap (λ ts. way_behind rows rest row.parent ++ ts) (reverse-append turns (turn_numbered row.turn ∷ []))
      ∙ (sym (append_assoc (way_behind rows rest row.parent) (turn_numbered row.turn ∷ []) (reverse turns))
      ∙ (sym (ap (λ ts. ts ++ reverse turns) (last_turn rows rest at row apart there)) ∙ so)),
)
