-- What a change of one entry does to the links of all slots.
use Rattle.node_table.proofs.Common.{Edits, HasEntry, Joins, LinksLast, NodeKey, None, Option, Row, Slab, Slot, SlotEntry, Some, Taken}
use Rattle.node_table.proofs.Common.{ap, cases_eq, cond, core_of, entry_in, get, inl, inr, is_some, link_in, option_map, refl, stamp_in}
use Rattle.node_table.proofs.Common.{sym, with_adopted, with_first, with_next, ℕ, ◌==◌, ◌∙◌, ◌≡◌, ◌≢◌}
use Rattle.node_table.specs.Sound.{Relinks, with_last, with_prev, childless}
use Rattle.node_table.proofs.Keys.{eq-true, eq-false}
use Rattle.node_table.proofs.Slots.{write-same, write-other, option_map-keeps}

module _ {N : Type 0} where
  module _ (old new : Slab (Slot N)) (slot : ℕ) (f : SlotEntry N → SlotEntry N) (edits : Edits old new slot f) where
    -- the slot has what f makes of its entry
    pub here : get new slot ≡ Some (Taken (f edits.before))
    here = ap (λ (s : Slab (Slot N)). get s slot) edits.becomes
        ∙ write-same old.slots slot (Some (Taken (f edits.before))) (ap is_some edits.was)

    -- every other slot has what it had
    pub there : (i : ℕ) → i ≢ slot → get new i ≡ get old i
    there i differ = ap (λ (s : Slab (Slot N)). get s i) edits.becomes ∙ write-other old.slots slot i (Some (Taken (f edits.before))) differ

    -- no slot is taken or left
    pub kinds : (i : ℕ) → is_some (get new i) ≡ is_some (get old i)
    kinds i =
        elim (cases_eq i slot) [
          | inl same ↦ ap (λ j. is_some (get new j)) same
              ∙ (ap is_some here ∙ (sym (ap is_some edits.was) ∙ ap (λ j. is_some (get old j)) (sym same)))
          | inr differ ↦ ap is_some (there i differ)
        ]

    -- an entry stays an entry
    pub has : (i : ℕ) → HasEntry old i → HasEntry new i
    has i entry =
        elim (cases_eq i slot) [
          | inl same ↦ (f edits.before, ap (get new) same ∙ here)
          | inr differ ↦ (entry.0, there i differ ∙ entry.1)
        ]

    -- a part that f keeps stays everywhere
    pub part-kept : {X : Type 0} (part : Option (SlotEntry N) → X) → ((e : SlotEntry N) → part (Some (f e)) ≡ part (Some e)) → (i : ℕ) →
        part (entry_in (get new i)) ≡ part (entry_in (get old i))
    part-kept part keeps i =
        elim (cases_eq i slot) [
          | inl same ↦
              ap (λ j. part (entry_in (get new j))) same ∙ (ap (λ o. part (entry_in o)) here ∙ (keeps edits.before
              ∙ (sym (ap (λ o. part (entry_in o)) edits.was) ∙ ap (λ j. part (entry_in (get old j))) (sym same))))
          | inr differ ↦ ap (λ o. part (entry_in o)) (there i differ)
        ]

    -- a field that f sets has that value at the slot
    pub part-set : {X : Type 0} (part : Option (SlotEntry N) → X) (value : X) → ((e : SlotEntry N) → part (Some (f e)) ≡ value) → (i : ℕ) →
        part (entry_in (get new i)) ≡ cond (slot == i) value (part (entry_in (get old i)))
    part-set part value sets i =
        elim (cases_eq i slot) [
          | inl same ↦
              ap (λ j. part (entry_in (get new j))) same ∙ (ap (λ o. part (entry_in o)) here ∙ (sets edits.before
              ∙ sym (ap (λ b. cond b value (part (entry_in (get old i)))) (eq-true slot i (sym same)))))
          | inr differ ↦
              ap (λ o. part (entry_in o)) (there i differ)
              ∙ sym (ap (λ b. cond b value (part (entry_in (get old i)))) (eq-false slot i (λ same. differ (sym same))))
        ]

    -- with a change that keeps the core, the slab is linked anew and no more
    pub relinks : ((e : SlotEntry N) → core_of (f e) ≡ core_of e) → ((e : SlotEntry N) → (f e).generation ≡ e.generation) →
        Relinks old new (λ i row. row)
    relinks keeps same =
        record {
          vacant_key = ap (λ (s : Slab (Slot N)). s.vacant_key) edits.becomes;
          capacity = ap (λ (s : Slab (Slot N)). s.capacity) edits.becomes;
          kinds = kinds;
          cores = λ i. part-kept (option_map core_of) (λ e. ap Some (keeps e)) i
              ∙ sym (option_map-keeps (λ (row : Row N). row) (λ row. refl) (option_map core_of (entry_in (get old i))));
          stamps = part-kept stamp_in (λ e. ap Some (same e));
        }

  -- one change after the other
  pub relinks-both : (old mid new : Slab (Slot N)) → Relinks old mid (λ i row. row) → Relinks mid new (λ i row. row) →
      Relinks old new (λ i row. row)
  relinks-both old mid new one two =
      record {
        vacant_key = two.vacant_key ∙ one.vacant_key;
        capacity = two.capacity ∙ one.capacity;
        kinds = λ i. two.kinds i ∙ one.kinds i;
        cores = λ i. two.cores i ∙ (option_map-keeps (λ (row : Row N). row) (λ row. refl) (option_map core_of (entry_in (get mid i)))
            ∙ one.cores i);
        stamps = λ i. two.stamps i ∙ one.stamps i;
      }

  -- with no change all links stay
  pub relinks-none : (slots : Slab (Slot N)) → Relinks slots slots (λ i row. row)
  relinks-none slots =
      record {
        vacant_key = refl;
        capacity = refl;
        kinds = λ i. refl;
        cores = λ i. sym (option_map-keeps (λ (row : Row N). row) (λ row. refl) (option_map core_of (entry_in (get slots i))));
        stamps = λ i. refl;
      }

  -- with no parent nothing is linked
  pub links_none : (slots : Slab (Slot N)) (key : NodeKey) → LinksLast slots slots None key None
  links_none slots key =
      record { same_rows = relinks-none slots; firsts = λ i. refl; lasts = λ i. refl; prevs = λ i. refl; nexts = λ i. refl }

  -- a first child is linked to its parent
  pub links_first : (old new : Slab (Slot N)) (parent key : NodeKey) → Edits old new parent.slot (with_adopted None key) →
      LinksLast old new (Some parent) key None
  links_first old new parent key one =
      record {
        same_rows = relinks old new parent.slot (with_adopted None key) one (λ e. refl) (λ e. refl);
        firsts = part-set old new parent.slot (with_adopted None key) one (link_in (λ (e : SlotEntry N). e.first)) (Some key) (λ e. refl);
        lasts = part-set old new parent.slot (with_adopted None key) one (link_in (λ (e : SlotEntry N). e.last)) (Some key) (λ e. refl);
        prevs = part-kept old new parent.slot (with_adopted None key) one (link_in (λ (e : SlotEntry N). e.prev)) (λ e. refl);
        nexts = part-kept old new parent.slot (with_adopted None key) one (link_in (λ (e : SlotEntry N). e.next)) (λ e. refl);
      }

  -- a further child is linked to the last one
  pub links_more : (old mid new : Slab (Slot N)) (parent key last : NodeKey) → Edits old mid parent.slot (with_adopted (Some last) key) →
      Edits mid new last.slot (with_next (Some key)) → LinksLast old new (Some parent) key (Some last)
  links_more old mid new parent key last one two =
      record {
        same_rows = relinks-both old mid new (relinks old mid parent.slot (with_adopted (Some last) key) one (λ e. refl) (λ e. refl))
            (relinks mid new last.slot (with_next (Some key)) two (λ e. refl) (λ e. refl));
        firsts = λ i. part-kept mid new last.slot (with_next (Some key)) two (link_in (λ (e : SlotEntry N). e.first)) (λ e. refl) i
            ∙ part-kept old mid parent.slot (with_adopted (Some last) key) one (link_in (λ (e : SlotEntry N). e.first)) (λ e. refl) i;
        lasts = λ i. part-kept mid new last.slot (with_next (Some key)) two (link_in (λ (e : SlotEntry N). e.last)) (λ e. refl) i
            ∙ part-set old mid parent.slot (with_adopted (Some last) key) one (link_in (λ (e : SlotEntry N). e.last)) (Some key) (λ e. refl) i;
        prevs = λ i. part-kept mid new last.slot (with_next (Some key)) two (link_in (λ (e : SlotEntry N). e.prev)) (λ e. refl) i
            ∙ part-kept old mid parent.slot (with_adopted (Some last) key) one (link_in (λ (e : SlotEntry N). e.prev)) (λ e. refl) i;
        nexts = λ i. part-set mid new last.slot (with_next (Some key)) two (link_in (λ (e : SlotEntry N). e.next)) (Some key) (λ e. refl) i
            ∙ ap (λ o. cond (last.slot == i) (Some key) o) (part-kept old mid parent.slot (with_adopted (Some last) key) one
            (link_in (λ (e : SlotEntry N). e.next)) (λ e. refl) i);
      }

  -- an only child leaves none
  pub joins_only : (old new : Slab (Slot N)) (parent : NodeKey) → Edits old new parent.slot childless → Joins old new parent None None
  joins_only old new parent one =
      record {
        same_rows = relinks old new parent.slot childless one (λ e. refl) (λ e. refl);
        firsts = part-set old new parent.slot childless one (link_in (λ (e : SlotEntry N). e.first)) None (λ e. refl);
        lasts = part-set old new parent.slot childless one (link_in (λ (e : SlotEntry N). e.last)) None (λ e. refl);
        prevs = part-kept old new parent.slot childless one (link_in (λ (e : SlotEntry N). e.prev)) (λ e. refl);
        nexts = part-kept old new parent.slot childless one (link_in (λ (e : SlotEntry N). e.next)) (λ e. refl);
      }

  -- a first child leaves the next as the first
  pub joins_first : (old mid new : Slab (Slot N)) (parent after : NodeKey) → Edits old mid parent.slot (with_first (Some after)) →
      Edits mid new after.slot (with_prev None) → Joins old new parent None (Some after)
  joins_first old mid new parent after one two =
      record {
        same_rows = relinks-both old mid new (relinks old mid parent.slot (with_first (Some after)) one (λ e. refl) (λ e. refl))
            (relinks mid new after.slot (with_prev None) two (λ e. refl) (λ e. refl));
        firsts = λ i. part-kept mid new after.slot (with_prev None) two (link_in (λ (e : SlotEntry N). e.first)) (λ e. refl) i
            ∙ part-set old mid parent.slot (with_first (Some after)) one (link_in (λ (e : SlotEntry N). e.first)) (Some after) (λ e. refl) i;
        lasts = λ i. part-kept mid new after.slot (with_prev None) two (link_in (λ (e : SlotEntry N). e.last)) (λ e. refl) i
            ∙ part-kept old mid parent.slot (with_first (Some after)) one (link_in (λ (e : SlotEntry N). e.last)) (λ e. refl) i;
        prevs = λ i. part-set mid new after.slot (with_prev None) two (link_in (λ (e : SlotEntry N). e.prev)) None (λ e. refl) i
            ∙ ap (λ o. cond (after.slot == i) None o) (part-kept old mid parent.slot (with_first (Some after)) one
            (link_in (λ (e : SlotEntry N). e.prev)) (λ e. refl) i);
        nexts = λ i. part-kept mid new after.slot (with_prev None) two (link_in (λ (e : SlotEntry N). e.next)) (λ e. refl) i
            ∙ part-kept old mid parent.slot (with_first (Some after)) one (link_in (λ (e : SlotEntry N). e.next)) (λ e. refl) i;
      }

  -- a last child leaves the one before as the last
  pub joins_last : (old mid new : Slab (Slot N)) (parent before : NodeKey) → Edits old mid before.slot (with_next None) →
      Edits mid new parent.slot (with_last (Some before)) → Joins old new parent (Some before) None
  joins_last old mid new parent before one two =
      record {
        same_rows = relinks-both old mid new (relinks old mid before.slot (with_next None) one (λ e. refl) (λ e. refl))
            (relinks mid new parent.slot (with_last (Some before)) two (λ e. refl) (λ e. refl));
        firsts = λ i. part-kept mid new parent.slot (with_last (Some before)) two (link_in (λ (e : SlotEntry N). e.first)) (λ e. refl) i
            ∙ part-kept old mid before.slot (with_next None) one (link_in (λ (e : SlotEntry N). e.first)) (λ e. refl) i;
        lasts = λ i. part-set mid new parent.slot (with_last (Some before)) two (link_in (λ (e : SlotEntry N). e.last)) (Some before) (λ e.
            refl) i ∙ ap (λ o. cond (parent.slot == i) (Some before) o) (part-kept old mid before.slot (with_next None) one
            (link_in (λ (e : SlotEntry N). e.last)) (λ e. refl) i);
        prevs = λ i. part-kept mid new parent.slot (with_last (Some before)) two (link_in (λ (e : SlotEntry N). e.prev)) (λ e. refl) i
            ∙ part-kept old mid before.slot (with_next None) one (link_in (λ (e : SlotEntry N). e.prev)) (λ e. refl) i;
        nexts = λ i. part-kept mid new parent.slot (with_last (Some before)) two (link_in (λ (e : SlotEntry N). e.next)) (λ e. refl) i
            ∙ part-set old mid before.slot (with_next None) one (link_in (λ (e : SlotEntry N). e.next)) None (λ e. refl) i;
      }

  -- a child between two leaves them side by side
  pub joins_mid : (old mid new : Slab (Slot N)) (parent before after : NodeKey) → Edits old mid before.slot (with_next (Some after)) →
      Edits mid new after.slot (with_prev (Some before)) → Joins old new parent (Some before) (Some after)
  joins_mid old mid new parent before after one two =
      record {
        same_rows = relinks-both old mid new (relinks old mid before.slot (with_next (Some after)) one (λ e. refl) (λ e. refl))
            (relinks mid new after.slot (with_prev (Some before)) two (λ e. refl) (λ e. refl));
        firsts = λ i. part-kept mid new after.slot (with_prev (Some before)) two (link_in (λ (e : SlotEntry N). e.first)) (λ e. refl) i
            ∙ part-kept old mid before.slot (with_next (Some after)) one (link_in (λ (e : SlotEntry N). e.first)) (λ e. refl) i;
        lasts = λ i. part-kept mid new after.slot (with_prev (Some before)) two (link_in (λ (e : SlotEntry N). e.last)) (λ e. refl) i
            ∙ part-kept old mid before.slot (with_next (Some after)) one (link_in (λ (e : SlotEntry N). e.last)) (λ e. refl) i;
        prevs = λ i. part-set mid new after.slot (with_prev (Some before)) two (link_in (λ (e : SlotEntry N). e.prev)) (Some before) (λ e.
            refl) i ∙ ap (λ o. cond (after.slot == i) (Some before) o) (part-kept old mid before.slot (with_next (Some after)) one
            (link_in (λ (e : SlotEntry N). e.prev)) (λ e. refl) i);
        nexts = λ i. part-kept mid new after.slot (with_prev (Some before)) two (link_in (λ (e : SlotEntry N). e.next)) (λ e. refl) i
            ∙ part-set old mid before.slot (with_next (Some after)) one (link_in (λ (e : SlotEntry N). e.next)) (Some after) (λ e. refl) i;
      }
