-- Nodes by their places, one more at a time.
use Rattle.std.proofs.Common.{◌≡◌, ◌∙◌, refl, ap, sym, arith, ℕ, suc, ◌+◌, ◌-◌, ◌<◌, ◌≤◌, Bool, true, false, if◌then◌else◌}
use Rattle.std.proofs.Common.{List, [], ◌∷◌, ◌++◌, append_assoc, append-nil, length, length-append, Option, Some, None}
use Rattle.std.specs.Option.{option_or}
use Rattle.sm_names.specs.declared.keys.NodeKey.{NodeKey}
use Rattle.forest_store.specs.declared.node.Node.{Node}
use Rattle.forest_store.specs.Nodes.{is_of}
use Rattle.picture_layout.specs.declared.layout.Corner.{Corner}
use Rattle.picture_layout.specs.declared.layout.NodeBox.{NodeBox}
use Rattle.picture_layout.specs.Layouts.{box_of, boxes_from, column_of, columns_from, parent_place, place_from, taken_columns}

-- one more comes last
pub place-more : (key : NodeKey) (at : ℕ) (ns : List Node) (n : Node) →
    place_from key at (ns ++ n ∷ []) ≡ option_or (place_from key at ns) (if is_of key n then Some (at + length ns) else None)
place-more key at [] n =
    let here : at + 0 ≡ at = omega arith in
    ap (λ (p : ℕ). if is_of key n then Some p else None) (sym here)
place-more key at (m ∷ ns) n =
    let on : (at + 1) + length ns ≡ at + suc (length ns) = omega arith in
    elim (is_of key m) as (λ (b : Bool). (if b then Some at else place_from key (at + 1) (ns ++ n ∷ []))
    ≡ option_or (if b then Some at else place_from key (at + 1) ns) (if is_of key n then Some (at + suc (length ns)) else None)) [
      | true ↦ refl
      | false ↦
          place-more key (at + 1) ns n
          ∙ ap (λ (p : ℕ). option_or (place_from key (at + 1) ns) (if is_of key n then Some p else None)) on
    ]

-- one more column, and the columns behind it are those that are left
pub column-more : (parents : List (Option ℕ)) (widths : List ℕ) (n at : ℕ) (old new columns more : List ℕ) → at < n →
    more ≡ columns ++ column_of old (parent_place parents at) ∷ [] → new ≡ taken_columns parents widths at old →
    more ++ columns_from parents widths (n - (at + 1)) (at + 1) new ≡ columns ++ columns_from parents widths (n - at) at old
column-more parents widths n at old new columns more within pushed taken =
    let left : ℕ = n - (at + 1) in
    let one : n - at ≡ suc left = omega arith in
    (λ i. pushed i ++ columns_from parents widths left (at + 1) (taken i))
    ∙ (append_assoc columns (column_of old (parent_place parents at) ∷ [])
    (columns_from parents widths left (at + 1) (taken_columns parents widths at old))
    ∙ sym (ap (λ (k : ℕ). columns ++ columns_from parents widths k at old) one))

-- none is left
pub columns-end : (parents : List (Option ℕ)) (widths : List ℕ) (n at : ℕ) (free columns : List ℕ) → n ≤ at →
    columns ++ columns_from parents widths (n - at) at free ≡ columns
columns-end parents widths n at free columns all =
    let none : n - at ≡ 0 = omega arith in
    ap (λ (k : ℕ). columns ++ columns_from parents widths k at free) none ∙ append-nil columns

-- one more node, and those behind it are those that are left
pub box-more : (start : Corner) (parents : List (Option ℕ)) (corners : List Corner)
    (keys : List NodeKey) (n : Node) (rest later : List Node)
    (boxes more : List NodeBox) → rest ≡ n ∷ later → more ≡ boxes ++ box_of start parents corners keys (length boxes) n ∷ [] →
    more ++ boxes_from start parents corners keys (length more) later ≡ boxes ++ boxes_from start parents corners keys (length boxes) rest
box-more start parents corners keys n rest later boxes more is pushed =
    let at : ℕ = length boxes in
    let on : length more ≡ at + 1 = ap length pushed ∙ length-append boxes (box_of start parents corners keys at n ∷ []) in
    (λ i. pushed i ++ boxes_from start parents corners keys (on i) later)
    ∙ (append_assoc boxes (box_of start parents corners keys at n ∷ []) (boxes_from start parents corners keys (at + 1) later)
    ∙ sym (ap (λ (ns : List Node). boxes ++ boxes_from start parents corners keys at ns) is))
