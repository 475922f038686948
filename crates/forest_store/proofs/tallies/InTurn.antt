-- Counts of units that a list of nodes changes, each node those in one slot.
use Rattle.forest_store.proofs.Common.{◌≡◌, ◌≢◌, ℕ, ◌<◌, refl, ap, sym, ◌∙◌, Bool, false, inl, inr, if◌then◌else◌, List, [], ◌∷◌, length}
use Rattle.forest_store.proofs.Common.{set, Option, Some, None, option_map_or, NodeKey, same_key, same_key-refl, same_key-true, In}
use Rattle.forest_store.proofs.Common.{both_ways, either_way, Node, Unit, unit_at, no_unit, get_or-set_other, get_or-set_same, length-set}

-- the unit has this head
abbrev pub is_above : NodeKey → Option NodeKey → Bool
is_above k o = option_map_or (λ h. same_key h k) o false

-- the counts in the slot of the key are as the function makes them, if there is a key
abbrev pub put_at : Option NodeKey → (Unit → Unit) → List Unit → List Unit
put_at None g us = us
put_at (Some k) g us = set us k.slot (g (unit_at us k.slot))

-- setting one element keeps the length
put_long : (o : Option NodeKey) (g : Unit → Unit) (us : List Unit) → length (put_at o g us) ≡ length us
put_long None g us = refl
put_long (Some k) g us = length-set us k.slot _

-- another slot is set
put_other : (o : Option NodeKey) (g : Unit → Unit) (us : List Unit) (slot : ℕ) → ((h : NodeKey) → o ≡ Some h → h.slot ≢ slot) →
    unit_at (put_at o g us) slot ≡ unit_at us slot
put_other None g us slot differ = refl
put_other (Some h) g us slot differ = get_or-set_other us h.slot slot _ no_unit (λ e. differ h refl (sym e))

-- by whether it is the slot of this key, as no other key of it is set
put_own : (o : Option NodeKey) (g : Unit → Unit) (us : List Unit) (k : NodeKey) → k.slot < length us →
    ((h : NodeKey) → o ≡ Some h → h.slot ≡ k.slot → h ≡ k) →
    unit_at (put_at o g us) k.slot ≡ (if is_above k o then g (unit_at us k.slot) else unit_at us k.slot)
put_own None g us k within one = refl
put_own (Some h) g us k within one = elim (either_way (same_key h k)) [
  | inl e ↦ rw (e, same_key-true h k e) (get_or-set_same us k.slot _ no_unit within)
  | inr e ↦ rw e (get_or-set_other us h.slot k.slot _ no_unit (λ slots.
      both_ways (same_key h k) (rw (one h refl (sym slots)) (same_key-refl k)) e))
]

-- the list changes counts node after node: each changes those in the slot of its key, if it has one
pub record Changes (all : List Node → List Unit → List Unit) (at : Node → Option NodeKey) (g : Node → Unit → Unit) : Type 0 where
  pub none : (us : List Unit) → all [] us ≡ us
  pub next : (n : Node) (ns : List Node) (us : List Unit) → all (n ∷ ns) us ≡ all ns (put_at (at n) (g n) us)

-- the counts of one unit, changed by each node with its key
abbrev pub in_turn : (Node → Option NodeKey) → (Node → Unit → Unit) → NodeKey → List Node → Unit → Unit
in_turn at g k [] u = u
in_turn at g k (n ∷ ns) u = in_turn at g k ns (if is_above k (at n) then g n u else u)

module _ {all : List Node → List Unit → List Unit} {at : Node → Option NodeKey} {g : Node → Unit → Unit} (by : Changes all at g) where
  -- by induction over the nodes
  pub same_long : (ns : List Node) (us : List Unit) → length (all ns us) ≡ length us
  same_long [] us = ap length (by.none us)
  same_long (n ∷ ns) us = ap length (by.next n ns us) ∙ same_long ns (put_at (at n) (g n) us) ∙ put_long (at n) (g n) us

  -- by induction: none of them has a key of that slot
  pub other_slots : (ns : List Node) (us : List Unit) (slot : ℕ) → ((n : Node) → In n ns → (h : NodeKey) → at n ≡ Some h → h.slot ≢ slot) →
      unit_at (all ns us) slot ≡ unit_at us slot
  other_slots [] us slot differ = ap (λ (l : List Unit). unit_at l slot) (by.none us)
  other_slots (n ∷ ns) us slot differ = ap (λ (l : List Unit). unit_at l slot) (by.next n ns us)
      ∙ other_slots ns (put_at (at n) (g n) us) slot (λ m on. differ m (inr on))
      ∙ put_other (at n) (g n) us slot (differ n (inl refl))

  -- by induction: each node with the key changes them
  pub own_slot : (ns : List Node) (us : List Unit) (k : NodeKey) → k.slot < length us →
      ((n : Node) → In n ns → (h : NodeKey) → at n ≡ Some h → h.slot ≡ k.slot → h ≡ k) →
      unit_at (all ns us) k.slot ≡ in_turn at g k ns (unit_at us k.slot)
  own_slot [] us k within one = ap (λ (l : List Unit). unit_at l k.slot) (by.none us)
  own_slot (n ∷ ns) us k within one = ap (λ (l : List Unit). unit_at l k.slot) (by.next n ns us)
      ∙ own_slot ns (put_at (at n) (g n) us) k (rw (put_long (at n) (g n) us) within) (λ m on. one m (inr on))
      ∙ ap (in_turn at g k ns) (put_own (at n) (g n) us k within (one n (inl refl)))
