-- A key that is taken out of a list whose first cells are left over.
use Rattle.forest_store.proofs.Common.{ℕ, suc, ◌≡◌, ◌+◌, ◌<◌, ◌≤◌, ap, sym, ◌∙◌, List, ◌++◌, length, take, drop, arith, ◌-◌}
use Rattle.forest_store.proofs.Common.{append_assoc, remove, copy_within, drop-drop, drop_at, length-take-le, take-append-drop}
use Rattle.std.proofs.lemmas.List.Edits.{remove-append_right}

-- those before it move up by one, over it
pub moved_over : {X : Type 0} (xs : List X) (from to : ℕ) → from ≤ to → to < length xs →
    drop (from + 1) (copy_within xs from to (from + 1)) ≡ remove (drop from xs) (to - from)
moved_over xs from to order within =
    let rest = drop from xs in
    let n : ℕ = to - from in
    let low : length (take (from + 1) xs) ≡ from + 1 = length-take-le (from + 1) xs (omega arith) in
    let place : from + suc n ≡ from + 1 + n = omega arith in
    ap (drop (from + 1)) (append_assoc (take (from + 1) xs) (take n rest) (drop (from + 1 + n) xs))
    ∙ drop_at (take (from + 1) xs) (take n rest ++ drop (from + 1 + n) xs) (from + 1) low
    ∙ ap (λ k. take n rest ++ drop k xs) (sym place)
    ∙ ap (λ r. take n rest ++ r) (sym (drop-drop (suc n) from xs))

-- or those behind it move down
pub moved_down : {X : Type 0} (xs : List X) (front at : ℕ) → front ≤ length xs →
    drop front (remove xs (front + at)) ≡ remove (drop front xs) at
moved_down xs front at within =
    let low : length (take front xs) ≡ front = length-take-le front xs within in
    let same : front + at - front ≡ at = omega arith in
    ap (λ ys. drop front (remove ys (front + at))) (sym (take-append-drop front xs))
    ∙ ap (drop front) (remove-append_right _ _ _ _ low (omega arith))
    ∙ drop_at (take front xs) (remove (drop front xs) (front + at - front)) front low
    ∙ ap (remove (drop front xs)) same
