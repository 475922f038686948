-- What the removal of a node without links does to a table.
use Rattle.node_table.proofs.Common.{Contains, Cuts, IsRun, IsSome, IsSound, List, NodeKey, None, Option, Removes, Row, Slab, Slot}
use Rattle.node_table.proofs.Common.{SlotEntry, Some, Table, Taken, [], ap, arith, cases_eq, children_at, children_in, cond, core_of}
use Rattle.node_table.proofs.Common.{count_by, entry_in, first_in, get, given_count, inl, inr, is_some, last_in, length, link_in, next_at}
use Rattle.node_table.proofs.Common.{next_in, node_at, option_map, parent_at, parent_in, prev_in, refl, row_at, row_in, row_of, rows_of}
use Rattle.node_table.proofs.Common.{run_in, slice_index_or, stamp_in, subst, sym, table_in, true, with_children, without_parent, ℕ, ◌+◌}
use Rattle.node_table.proofs.Common.{◌-◌, ◌<◌, ◌==◌, ◌^◌, ◌∙◌, ◌≡◌, ◌≢◌, ◌≤◌, ◌⊎◌}
use Rattle.node_table.proofs.Rows.{count-gain}
use Rattle.node_table.proofs.Keys.{key_cases, eq-true, eq-false, same-fields}
use Rattle.node_table.proofs.Parents.{parent-without, children-kept}
use Rattle.node_table.proofs.Links.{IsLinked-same}
use Rattle.node_table.proofs.Runs.{run-frame}
use Rattle.node_table.proofs.Chains.{row-is, rows_are, chained_so, member, member-there, one_key, owner, runs_short}
use Rattle.node_table.proofs.Depths.{next-there, none-then}
use Rattle.node_table.proofs.Slots.{row-at, is_some-option_map}

-- a row without its parent has its node
node-through : {N : Type 0} (o : Option (Row N)) → option_map (λ (row : Row N). row.node) (option_map without_parent o) ≡ option_map
    (λ (row : Row N). row.node) o
node-through None = refl
node-through (Some row) = refl

module _ {N : Type 0} (whole : Table N) (old new : Slab (Slot N)) (nexts : List ℕ) (first count limit : ℕ) (key : NodeKey) (e : SlotEntry N)
    (there : IsSome (row_at whole key))
    (leaf : children_at whole key ≡ [])
    (cut : Cuts whole (table_in old nexts first limit) key)
    (sound : IsSound old.slots nexts first count limit)
    (was : get old key.slot ≡ Some (Taken e))
    (empty : entry_in (get new key.slot) ≡ None)
    (same : (i : ℕ) → i ≢ key.slot → get new i ≡ get old i)
    (retired : key.generation ≡ 4294967295 → is_some (get new key.slot) ≡ true)
    (narrow-key : key.generation < 2 ^ 32)
  where
    -- the table after the cut, and in the end
    abbrev before : Table N
    before = table_in old nexts first limit

    -- the table after the removal
    abbrev after : Table N
    after = table_in new nexts first limit

    -- since the key had a row
    had-next : slice_index_or nexts key.slot first ≡ key.generation + 1
    had-next = next-there before key (ap is_some cut.loose ∙ is_some-option_map without_parent (row_at whole key) ∙ there)

    -- how many children there may be
    abbrev most : ℕ
    most = given_count first nexts

    -- the key has no parent
    no-parent : parent_at before key ≡ None
    no-parent = ap parent_in cut.loose ∙ parent-without (row_at whole key)

    -- since the key had a row, and cutting keeps it
    there-now : IsSome (row_at before key)
    there-now = ap is_some cut.loose ∙ (is_some-option_map without_parent (row_at whole key) ∙ there)

    -- so it is nobody's child
    away : (i : ℕ) (x : NodeKey) → Contains (run_in old.slots most i) x → x.slot ≢ key.slot
    away i x child at =
        let is : x ≡ key = one_key old.slots nexts first count limit sound x key (member-there old.slots nexts first count limit sound i x
        child) there-now at in
        let has : parent_at before x ≡ Some (owner old.slots nexts first count limit sound i) =
        member old.slots nexts first count limit sound i x child in
        let none : parent_at before x ≡ None = ap (parent_at before) is ∙ no-parent in
        absurd (cc)

    -- a link of what lies in another slot stays
    link-kept : (link : SlotEntry N → Option NodeKey) (i : ℕ) → i ≢ key.slot →
        link_in link (entry_in (get new i)) ≡ link_in link (entry_in (get old i))
    link-kept link i differ = ap (λ (o : Option (Slot N)). link_in link (entry_in o)) (same i differ)

    -- the key's slot has no children now, and others have what they had
    abbrev left : (i : ℕ) → ((i ≡ key.slot) ⊎ (i ≢ key.slot)) → List NodeKey
    left i (inl at) = []
    left i (inr differ) = run_in old.slots most i

    -- the children in a slot after the removal
    abbrev lists : ℕ → List NodeKey
    lists i = left i (cases_eq i key.slot)

    -- by cases: the slot that became vacant has no children, and each other keeps its run
    each-by : (i : ℕ) (c : (i ≡ key.slot) ⊎ (i ≢ key.slot)) →
        IsRun (next_in new.slots) (prev_in new.slots) None (first_in new.slots i) (left i c) (last_in new.slots i)
    each-by i (inl at) = (
      ap (λ j. link_in (λ (e : SlotEntry N). e.first) (entry_in (get new j))) at ∙ ap (link_in (λ (e : SlotEntry N). e.first)) empty,
      ap (λ j. link_in (λ (e : SlotEntry N). e.last) (entry_in (get new j))) at ∙ ap (link_in (λ (e : SlotEntry N). e.last)) empty,
    )
    each-by i (inr differ) =
        subst (λ o. IsRun (next_in new.slots) (prev_in new.slots) None o (run_in old.slots most i) (last_in new.slots i))
        (sym (link-kept (λ (e : SlotEntry N). e.first) i differ))
        (subst (λ o. IsRun (next_in new.slots) (prev_in new.slots) None (first_in old.slots i) (run_in old.slots most i) o)
        (sym (link-kept (λ (e : SlotEntry N). e.last) i differ))
        (run-frame (next_in old.slots) (prev_in old.slots) (next_in new.slots) (prev_in new.slots) None (first_in old.slots i)
        (run_in old.slots most i) (last_in old.slots i)
        (λ x child. link-kept (λ (e : SlotEntry N). e.next) x.slot (away i x child))
        (λ x child. link-kept (λ (e : SlotEntry N). e.prev) x.slot (away i x child))
        (sound.chained i)))

    -- by cases: a vacant slot has none, and each other has no more than before
    short-by : (i : ℕ) (c : (i ≡ key.slot) ⊎ (i ≢ key.slot)) → length (left i c) ≤ most
    short-by i (inl at) = omega arith
    short-by i (inr differ) = runs_short old.slots nexts first count limit sound i

    -- by cases: any other slot keeps its children
    lists-other : (i : ℕ) (c : (i ≡ key.slot) ⊎ (i ≢ key.slot)) → i ≢ key.slot → left i c ≡ run_in old.slots most i
    lists-other i (inl at) differ = absurd (differ at)
    lists-other i (inr apart) differ = refl

    -- since its slot had the entry that was taken out
    old-row : slice_index_or (rows_of old.slots most) key.slot None ≡ Some (row_of (next_in old.slots) most e)
    old-row = row-at old.slots most key.slot ∙ ap (row_in (next_in old.slots) most) was

    -- since its slot is vacant
    new-row : slice_index_or (rows_of new.slots most) key.slot None ≡ None
    new-row = row-at new.slots most key.slot ∙ ap (option_map (row_of (next_in new.slots) most)) empty

    -- the slot has the same core and the same children
    other-row : (i : ℕ) → i ≢ key.slot → slice_index_or (rows_of new.slots most) i None ≡ slice_index_or (rows_of old.slots most) i None
    other-row i differ =
        rows_are new.slots most lists (λ j. each-by j (cases_eq j key.slot)) (λ j. short-by j (cases_eq j key.slot)) i
        ∙ (ap (λ (keys : List NodeKey). option_map (with_children keys) (option_map core_of (entry_in (get new i))))
        (lists-other i (cases_eq i key.slot) differ)
        ∙ (ap (λ (o : Option (Slot N)). option_map (with_children (run_in old.slots most i)) (option_map core_of (entry_in o)))
        (same i differ)
        ∙ sym (row-is old.slots most i)))

    -- since one row went and the others are as they were
    shorter : count_by is_some (rows_of old.slots most) ≡ count_by is_some (rows_of new.slots most) + 1
    shorter = count-gain key.slot (rows_of new.slots most) (rows_of old.slots most) (ap is_some new-row) (ap is_some old-row) (λ i differ.
        ap is_some (sym (other-row i differ)))

    -- since a slot whose last generation was given is retired, not vacant
    not-retired : get new key.slot ≡ None → key.generation ≡ 4294967295 → ⊥
    not-retired none last = let held : is_some (get new key.slot) ≡ true = retired last in absurd (cc (held, none))

    -- since no row stands in its slot
    gone : row_at after key ≡ None
    gone = none-then (next_at after key.slot == key.generation + 1) (slice_index_or (rows_of new.slots most) key.slot None) new-row

    -- another key of the slot has another generation, which has no row; each other slot keeps its row
    others : (k : NodeKey) → k ≢ key → row_at after k ≡ row_at before k
    others k differ =
        elim (cases_eq k.slot key.slot) [
          | inl at ↦
              let apart : k.generation ≡ key.generation → ⊥ = λ generations. differ (same-fields k key at generations) in
              rw (at, had-next, eq-false (key.generation + 1) (k.generation + 1) (λ generations. apart (omega arith))) refl
          | inr apart ↦ ap (λ (o : Option (Row N)). cond (slice_index_or nexts k.slot first == k.generation + 1) o None)
              (other-row k.slot apart)
        ]

    -- the key had no links left
    ups : (k : NodeKey) → parent_at after k ≡ parent_at before k
    ups k =
        elim (key_cases k key) [
          | inl is ↦ ap (parent_at after) is ∙ ap parent_in gone ∙ sym (ap (parent_at before) is ∙ ap parent_in cut.loose
              ∙ parent-without (row_at whole key))
          | inr differ ↦ ap parent_in (others k differ)
        ]

    -- the key had no children, and the others keep their rows
    downs : (k : NodeKey) → children_at after k ≡ children_at before k
    downs k =
        elim (key_cases k key) [
          | inl is ↦ ap (children_at after) is ∙ ap children_in gone ∙ sym (ap (children_at before) is ∙ ap children_in cut.loose
              ∙ children-kept (row_at whole key) ∙ leaf)
          | inr differ ↦ ap children_in (others k differ)
        ]

    -- each part stays: one row less is counted, and the others are as they were
    pub sound-removed : IsSound new.slots nexts first (count - 1) limit
    sound-removed =
        record {
          counted = let c : count ≡ count_by is_some (rows_of old.slots most) = sound.counted in omega (arith, shorter);
          within = omega (arith, sound.within);
          vacant = λ i none. elim (cases_eq i key.slot) [
            | inl at ↦
                let empty : get new key.slot ≡ None = subst (λ j. get new j ≡ None) at none in
                let low : key.generation ≡ 4294967295 → ⊥ = not-retired empty in
                rw (at, had-next) (omega arith)
            | inr differ ↦ sound.vacant i (sym (same i differ) ∙ none)
          ];
          rising = sound.rising;
          narrow = sound.narrow;
          begun = λ i some. elim (cases_eq i key.slot) [
            | inl at ↦ let none : slice_index_or (rows_of new.slots most) i None ≡ None =
                ap (λ j. slice_index_or (rows_of new.slots most) j None) at ∙ new-row in absurd (cc)
            | inr differ ↦ sound.begun i (ap is_some (sym (other-row i differ)) ∙ some)
          ];
          stamped = λ i generation is. elim (cases_eq i key.slot) [
            | inl at ↦ let none : stamp_in (entry_in (get new i)) ≡ None =
                ap (λ j. stamp_in (entry_in (get new j))) at ∙ ap stamp_in empty in absurd (cc)
            | inr differ ↦ sound.stamped i generation (ap (λ o. stamp_in (entry_in o)) (sym (same i differ)) ∙ is)
          ];
          forest = IsLinked-same (parent_at before) (children_at before) (parent_at after) (children_at after) sound.forest ups downs;
          chained = chained_so new.slots most lists (λ j. each-by j (cases_eq j key.slot)) (λ j. short-by j (cases_eq j key.slot));
        }

    -- each part, from the facts above and from those of the cut
    pub removes : (key.generation < 4294967295 → new.vacant_key ≡ key.slot) → Removes whole after key e.node
    removes back =
        record {
          was = sym (node-through (row_at whole key)) ∙ ap (option_map (λ (row : Row N). row.node)) (sym cut.loose) ∙ found;
          gone = gone;
          others = λ k differ. others k differ ∙ cut.others k differ;
          keys = record { given = cut.keys.given; nexts = cut.keys.nexts; limit = cut.keys.limit };
          shorter = sym shorter ∙ cut.len;
          vacant = back;
        }
      where
        found : node_at before key ≡ Some e.node
        found = rw (had-next, eq-true (key.generation + 1) (key.generation + 1) refl, old-row) refl
