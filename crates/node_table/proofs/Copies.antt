-- A clone of the slots is the same slots.
use Rattle.node_table.proofs.Common.{List, None, Option, Slot, Some, [], refl, ◌∷◌, ◌≡◌}
use Rattle.std.specs.List.{AllZip}
use Rattle.slab.specs.Slab.{IsSlotClone}

module _ {N : Type 0} where
  -- the copy is the same
  abbrev pub IsSame : Slot N → Slot N → Type 0
  IsSame slot copy = copy ≡ slot

  -- slots whose copies are the same are the same
  pub copied : (slots copies : List (Option (Slot N))) → AllZip (IsSlotClone IsSame) slots copies → copies ≡ slots
  copied [] [] each = refl
  copied [] (copy ∷ copies) each = absurd each
  copied (slot ∷ slots) [] each = absurd each
  copied (None ∷ slots) (None ∷ copies) each = λ i. None ∷ copied slots copies each.1 i
  copied (None ∷ slots) (Some copy ∷ copies) each = let none = each.0 in absurd (cc)
  copied (Some slot ∷ slots) (None ∷ copies) each = absurd each.0
  copied (Some slot ∷ slots) (Some copy ∷ copies) each = λ i. Some (each.0 i) ∷ copied slots copies each.1 i
