-- What a change of the slots does to the table that they make.
use Rattle.node_table.proofs.Common.{Bool, EditsRows, IfSome, IsSome, List, NodeKey, None, Option, Row, Slot, SlotEntry, Some, Table}
use Rattle.node_table.proofs.Common.{Taken, [], ap, arith, at_parent, at_slot, cases_eq, cond, core_of, count_by, entry_in, eqb-true}
use Rattle.node_table.proofs.Common.{false, given_count, if◌then◌else◌, inl, inr, is_some, link_in, map, next_at, next_in, option_map}
use Rattle.node_table.proofs.Common.{refl, row_at, row_in, row_of, rows_of, run_from, slice_index_or, slice_set, subst, suc, sym}
use Rattle.node_table.proofs.Common.{table_of, true, with_children, zero, ℕ, ◌+◌, ◌==◌, ◌∙◌, ◌∷◌, ◌≡◌, ◌≢◌}
use Rattle.std.proofs.Math.ListN.{get_or-map}
use Rattle.node_table.specs.declared.slot.Slot.TheVariants.{Retired}
use Rattle.node_table.proofs.Rows.{count-same}
use Rattle.node_table.proofs.Keys.{eq-true, eq-false, slot_tells_key}
use Rattle.node_table.proofs.Depths.{next-there, slot-there}

-- a value is there after a map as before
pub is_some-option_map : {X Y : Type 0} (f : X → Y) (o : Option X) → is_some (option_map f o) ≡ is_some o
is_some-option_map f None = refl
is_some-option_map f (Some x) = refl

-- a map goes past a test, where it does the same when the test holds
pub map-then : {X : Type 0} (b : Bool) (o : Option X) (f h : X → X) → (b ≡ true → (x : X) → f x ≡ h x) →
    cond b (option_map f o) None ≡ option_map h (cond b o None)
map-then true None f h same = refl
map-then true (Some x) f h same = ap Some (same refl x)
map-then false o f h same = refl

-- a map that changes no value changes nothing
pub option_map-keeps : {X : Type 0} (f : X → X) → ((x : X) → f x ≡ x) → (o : Option X) → option_map f o ≡ o
option_map-keeps f keeps None = refl
option_map-keeps f keeps (Some x) = ap Some (keeps x)

-- a write before a map is a write after it
pub map-write : {X Y : Type 0} (f : X → Y) (xs : List X) (i : ℕ) (x : X) → map f (slice_set xs i x) ≡ slice_set (map f xs) i (f x)
map-write f [] i x = refl
map-write f (y ∷ ys) zero x = refl
map-write f (y ∷ ys) (suc i) x = ap (λ zs. f y ∷ zs) (map-write f ys i x)

-- a write is read where there was a value
pub write-same : {X : Type 0} (xs : List (Option X)) (i : ℕ) (x : Option X) → IsSome (slice_index_or xs i None) →
    slice_index_or (slice_set xs i x) i None ≡ x
write-same [] i x there = absurd (cc)
write-same (y ∷ ys) zero x there = refl
write-same (y ∷ ys) (suc i) x there = write-same ys i x there

-- every other place keeps what it had
pub write-other : {X : Type 0} (xs : List (Option X)) (i j : ℕ) (x : Option X) → j ≢ i →
    slice_index_or (slice_set xs i x) j None ≡ slice_index_or xs j None
write-other [] i j x differ = refl
write-other (y ∷ ys) zero zero x differ = absurd (differ refl)
write-other (y ∷ ys) zero (suc j) x differ = refl
write-other (y ∷ ys) (suc i) zero x differ = refl
write-other (y ∷ ys) (suc i) (suc j) x differ = write-other ys i j x (λ same. differ (ap suc same))

module _ {N : Type 0} where
  -- the row of a slot is read from the slot
  pub row-at : (slots : List (Option (Slot N))) (most i : ℕ) →
      slice_index_or (rows_of slots most) i None ≡ row_in (next_in slots) most (slice_index_or slots i None)
  row-at slots most i = get_or-map (row_in (next_in slots) most) slots i None

  -- what a row is made of
  pub row-parts : (next : ℕ → Option NodeKey) (most : ℕ) (o : Option (SlotEntry N)) →
      option_map (row_of next most) o ≡ option_map (with_children (run_from next most (link_in (λ (e : SlotEntry N). e.first) o)))
      (option_map core_of o)
  row-parts next most None = refl
  row-parts next most (Some e) = refl

  -- a slot with a row is taken by an entry
  pub entry-of-row : (next : ℕ → Option NodeKey) (most : ℕ) (o : Option (Slot N)) → IsSome (row_in next most o) →
      (e : SlotEntry N) × (o ≡ Some (Taken e))
  entry-of-row next most None some = absurd (cc)
  entry-of-row next most (Some Retired) some = absurd (cc)
  entry-of-row next most (Some (Taken e)) some = (e, refl)

  -- a slot whose entry this is is taken by it
  pub taken-by : (o : Option (Slot N)) (e : SlotEntry N) → entry_in o ≡ Some e → o ≡ Some (Taken e)
  taken-by None e is = absurd (cc)
  taken-by (Some Retired) e is = absurd (cc)
  taken-by (Some (Taken other)) e is = ap (λ (entry : SlotEntry N). Some (Taken entry)) (cc)

  -- a key that is there has an entry in its slot
  pub entry-there : (slots : List (Option (Slot N))) (nexts : List ℕ) (first limit : ℕ) (key : NodeKey) →
      IsSome (row_at (table_of slots nexts first limit) key) → (e : SlotEntry N) × (slice_index_or slots key.slot None ≡ Some (Taken e))
  entry-there slots nexts first limit key there =
      entry-of-row (next_in slots) (given_count first nexts) (slice_index_or slots key.slot None) (subst (λ (o : Option (Row N)).
      IsSome o) (row-at slots (given_count first nexts) key.slot) (slot-there (table_of slots nexts first limit) key there))

  -- so has a parent that is there
  pub entry-parent : (slots : List (Option (Slot N))) (nexts : List ℕ) (first limit : ℕ) (parent : Option NodeKey) →
      IfSome parent (λ p. IsSome (row_at (table_of slots nexts first limit) p)) →
      IfSome parent (λ p. (e : SlotEntry N) × (slice_index_or slots p.slot None ≡ Some (Taken e)))
  entry-parent slots nexts first limit None there = tt
  entry-parent slots nexts first limit (Some p) there = entry-there slots nexts first limit p there

  -- a write of one row is an edit of it
  pub edit-one : (rows : List (Option (Row N))) (key : NodeKey) (f : Row N → Row N) → IsSome (slice_index_or rows key.slot None) →
      EditsRows rows (slice_set rows key.slot (option_map f (slice_index_or rows key.slot None))) (Some key) f
  edit-one rows key f there i =
      elim (cases_eq i key.slot) [
        | inl same ↦
            ap (λ j. slice_index_or (slice_set rows key.slot (option_map f (slice_index_or rows key.slot None))) j None) same
            ∙ (write-same rows key.slot (option_map f (slice_index_or rows key.slot None)) there
            ∙ (sym (ap (λ b. option_map (λ (row : Row N). if b then f row else row) (slice_index_or rows key.slot None))
            (eq-true key.slot key.slot refl))
            ∙ ap (λ j. option_map (at_slot (Some key) f j) (slice_index_or rows j None)) (sym same)))
        | inr differ ↦
            write-other rows key.slot i (option_map f (slice_index_or rows key.slot None)) differ
            ∙ sym (option_map-keeps (at_slot (Some key) f i) (λ (row : Row N).
            ap (λ b. if b then f row else row) (eq-false key.slot i (λ same. differ (sym same)))) (slice_index_or rows i None))
      ]

  -- where the parent is there, its slot tells its key
  pub slot_as_parent : (t : Table N) (parent : Option NodeKey) (f : Row N → Row N) (key : NodeKey) →
      IfSome parent (λ p. IsSome (row_at t p)) → (next_at t key.slot == key.generation + 1) ≡ true → (row : Row N) →
      at_slot parent f key.slot row ≡ at_parent parent f key row
  slot_as_parent t None f key there test row = refl
  slot_as_parent t (Some p) f key there test row = ap (λ b. if b then f row else row) (slot_tells_key p key same)
    where
      same : p.slot ≡ key.slot → p.generation ≡ key.generation
      same slots =
          let one : next_at t p.slot ≡ p.generation + 1 = next-there t p there in
          let two : next_at t key.slot ≡ key.generation + 1 = eqb-true (next_at t key.slot) (key.generation + 1) test in
          let both : next_at t p.slot ≡ next_at t key.slot = ap (next_at t) slots in
          omega arith

  -- the row of each key after an edit of the parent's row
  pub edited-key : (old new : List (Option (Row N))) (nexts : List ℕ) (first limit : ℕ) (parent : Option NodeKey) (f : Row N → Row N) →
      EditsRows old new parent f → IfSome parent (λ p.
      IsSome (row_at (record { rows = old; nexts = nexts; first = first; limit = limit; vacant = 0 }) p)) → (key : NodeKey) →
      row_at (record { rows = new; nexts = nexts; first = first; limit = limit; vacant = 0 }) key ≡ option_map (at_parent parent f key)
      (row_at (record { rows = old; nexts = nexts; first = first; limit = limit; vacant = 0 }) key)
  edited-key old new nexts first limit parent f edits there key =
      rw (edits key.slot)
      (map-then _ _ (at_slot parent f key.slot) (at_parent parent f key)
      (slot_as_parent (record { rows = old; nexts = nexts; first = first; limit = limit; vacant = 0 }) parent f key there))

  -- there are as many nodes after an edit
  pub edited-count : (old new : List (Option (Row N))) (parent : Option NodeKey) (f : Row N → Row N) → EditsRows old new parent f →
      count_by is_some new ≡ count_by is_some old
  edited-count old new parent f edits =
      count-same old new (λ i. ap is_some (edits i) ∙ is_some-option_map (at_slot parent f i) (slice_index_or old i None))

  -- a slot is vacant after an edit only if it was before
  pub vacant-before : (o p : Option (Slot N)) → is_some p ≡ is_some o → p ≡ None → o ≡ None
  vacant-before None p same none = refl
  vacant-before (Some slot) p same none = absurd (cc)
