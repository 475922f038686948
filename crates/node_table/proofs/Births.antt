-- What a birth does to a table.
use Rattle.node_table.proofs.Common.{Births, Bool, Bumped, IfSome, IsLinked, IsRun, IsSome, IsSound, List, NodeKey, None, Option, Row}
use Rattle.node_table.proofs.Common.{Slot, Some, Table, [], ap, arith, at_parent, at_slot, cases_eq, children_at, children_in, count_by}
use Rattle.node_table.proofs.Common.{entry_in, false, first_in, given_count, inl, inr, is_some, last_in, nat_le, nat_lt, nat_tests}
use Rattle.node_table.proofs.Common.{next_at, next_in, option_map, parent_at, parent_in, prev_in, refl, row_at, row_in, rows_of, run_in}
use Rattle.node_table.proofs.Common.{same_key, slice_index_or, stamp_in, subst, sym, table_of, true, was_given, with_child, with_vacant}
use Rattle.node_table.proofs.Common.{ℕ, ◌&&◌, ◌+◌, ◌<◌, ◌==◌, ◌^◌, ◌∙◌, ◌≡◌, ◌≢◌, ◌≤◌}
use Rattle.std.proofs.Common.{◌||◌}
use Rattle.std.proofs.Math.Bool.{and-false}
use Rattle.node_table.proofs.Rows.{count-gain}
use Rattle.node_table.proofs.Keys.{eq-true, eq-false, same-fields, key_cases, same_key-equal, same_key-apart}
use Rattle.node_table.proofs.Parents.{map-parent, map-stranger, map-up, children-with}
use Rattle.node_table.proofs.Links.{IsLinked-birth}
use Rattle.node_table.proofs.Depths.{none-then}
use Rattle.node_table.proofs.Slots.{row-at, map-then, is_some-option_map, slot_as_parent, vacant-before}
use Rattle.node_table.proofs.Readings.{given-between}

-- one generation more was given, and no other
given-more : (first generation next : ℕ) → generation ≢ next →
    (nat_le first generation && nat_lt generation (next + 1)) ≡ (nat_le first generation && nat_lt generation next)
given-more first generation next differ = ap (λ b. nat_le first generation && b) (by_test (nat_lt generation next) refl)
  where
    -- by cases on the test: one that was given stays so, and the next one is another
    by_test : (b : Bool) → nat_lt generation next ≡ b → nat_lt generation (next + 1) ≡ nat_lt generation next
    by_test true test = let more : nat_lt generation (next + 1) ≡ true = grind (arith, nat_tests) in more ∙ sym test
    by_test false test =
        let high : next ≤ generation = grind (arith, nat_tests) in
        let above : next < generation = omega arith in
        let more : nat_lt generation (next + 1) ≡ false = grind (arith, nat_tests) in
        more ∙ sym test

module _ {N : Type 0} (old new : List (Option (Slot N))) (nexts nexts2 : List ℕ) (first count limit : ℕ) (parent : Option NodeKey)
    (key : NodeKey) (node : N)
    (sound : IsSound old nexts first count limit)
    (next : slice_index_or nexts key.slot first ≡ key.generation)
    (was_vacant : slice_index_or old key.slot None ≡ None)
    (bumped : Bumped nexts nexts2 first key.slot)
    (now_taken : is_some (slice_index_or new key.slot None) ≡ true)
    (kinds : (i : ℕ) → i ≢ key.slot → is_some (slice_index_or new i None) ≡ is_some (slice_index_or old i None))
    (other-row : (i : ℕ) → i ≢ key.slot →
    slice_index_or (rows_of new (given_count first nexts2)) i None ≡ option_map (at_slot parent (with_child key) i)
    (slice_index_or (rows_of old (given_count first nexts)) i None))
    (new-row : slice_index_or (rows_of new (given_count first nexts2)) key.slot None ≡ Some
    (record { parent = parent; children = []; node = node }))
    (chained : (i : ℕ) → IsRun (next_in new) (prev_in new) None (first_in new i) (run_in new (given_count first nexts2) i) (last_in new i))
    (there : IfSome parent (λ p. IsSome (row_at (table_of old nexts first limit) p)))
    (room : count < limit)
  where
    -- the rows and the table, before and after
    abbrev old-rows : List (Option (Row N))
    old-rows = rows_of old (given_count first nexts)

    -- the rows after the birth
    abbrev new-rows : List (Option (Row N))
    new-rows = rows_of new (given_count first nexts2)

    -- the table before the birth
    abbrev before : Table N
    before = table_of old nexts first limit

    -- the table after the birth
    abbrev after : Table N
    after = table_of new nexts2 first limit

    -- since the slot was vacant
    no-row : slice_index_or old-rows key.slot None ≡ None
    no-row = row-at old (given_count first nexts) key.slot ∙ ap (row_in (next_in old) (given_count first nexts)) was_vacant

    -- since no row stands in its slot
    absent : row_at before key ≡ None
    absent = none-then (next_at before key.slot == key.generation + 1) (slice_index_or old-rows key.slot None) no-row

    -- since one row came and the others are as they were
    longer : count_by is_some new-rows ≡ count_by is_some old-rows + 1
    longer =
        count-gain key.slot old-rows new-rows (ap is_some no-row) (ap is_some new-row)
        (λ i differ. ap is_some (other-row i differ)
        ∙ is_some-option_map (at_slot parent (with_child key) i) (slice_index_or old-rows i None))

    -- since a vacant slot has a next generation
    fits : key.generation < 2 ^ 32
    fits = let below : slice_index_or nexts key.slot first < 2 ^ 32 = sound.vacant key.slot was_vacant in rw next at below

    -- since its slot has the new row, and its generation is the last given there
    born-row : row_at after key ≡ Some (record { parent = parent; children = []; node = node })
    born-row = rw (bumped.at, next, eq-true (key.generation + 1) (key.generation + 1) refl) new-row

    -- the row of every other key
    others : (k : NodeKey) → k ≢ key → row_at after k ≡ option_map (at_parent parent (with_child key) k) (row_at before k)
    others k differ =
        elim (cases_eq k.slot key.slot) [
          | inl same ↦
              let apart : k.generation ≡ key.generation → ⊥ = λ generations. differ (same-fields k key same generations) in
              let at : slice_index_or nexts2 k.slot first ≡ key.generation + 1 = rw (same, bumped.at, next) refl in
              let none : slice_index_or old-rows k.slot None ≡ None = rw same no-row in
              rw (at, eq-false (key.generation + 1) (k.generation + 1) (λ generations. apart (omega arith)), none-then _ _ none) refl
          | inr apart ↦
              rw (bumped.others k.slot apart, other-row k.slot apart)
              (map-then _ _ (at_slot parent (with_child key) k.slot) (at_parent parent (with_child key) k) (slot_as_parent before parent
              (with_child key) k there))
        ]

    -- since its parent has a row, and the new key had none
    stranger : (p : Option NodeKey) → IfSome p (λ k. IsSome (row_at before k)) → p ≢ Some key
    stranger None some same = absurd (cc)
    stranger (Some k) some same =
        let is : k ≡ key = cc in let none : row_at before k ≡ None = subst (λ j. row_at before j ≡ None) (sym is) absent in absurd (cc)

    -- by cases on the parent: it is the one that has a row
    parent-row : (p : Option NodeKey) (above : NodeKey) → IfSome p (λ k. IsSome (row_at before k)) → p ≡ Some above →
        IsSome (row_at before above)
    parent-row None above some is = absurd (cc)
    parent-row (Some k) above some is = let same : k ≡ above = cc in subst (λ j. IsSome (row_at before j)) same some

    -- since one node was added below a parent that is there
    forest-born : IsLinked (parent_at after) (children_at after)
    forest-born =
        IsLinked-birth (parent_at before) (children_at before) (parent_at after) (children_at after) sound.forest parent key
        (ap parent_in absent)
        (ap children_in absent)
        (stranger parent there)
        (ap parent_in born-row)
        (ap children_in born-row)
        (λ k differ. ap parent_in (others k differ) ∙ map-up parent (with_child key) k (row_at before k) (λ row. refl))
        (λ above is.
        ap children_in (others above (λ same. stranger parent there (is ∙ ap Some same))
        ∙ map-parent parent (with_child key) above (row_at before above) is)
        ∙ children-with key (row_at before above) (parent-row parent above there is))
        (λ above differ away. ap children_in (others above differ ∙ map-stranger parent (with_child key) above (row_at before above) away))

    -- each part stays: one row more is counted, the slot is taken, and the others are as they were
    pub sound-born : stamp_in (entry_in (slice_index_or new key.slot None)) ≡ Some key.generation →
        ((i : ℕ) → i ≢ key.slot → stamp_in (entry_in (slice_index_or new i None)) ≡ stamp_in (entry_in (slice_index_or old i None))) →
        IsSound new nexts2 first (count + 1) limit
    sound-born stamp other-stamps =
        record {
          counted = let c : count ≡ count_by is_some old-rows = sound.counted in omega (arith, longer);
          within = omega arith;
          vacant = λ i none. elim (cases_eq i key.slot) [
            | inl same ↦ let gone : slice_index_or new key.slot None ≡ None =
                subst (λ j. slice_index_or new j None ≡ None) same none in absurd (cc (now_taken))
            | inr differ ↦ rw (bumped.others i differ) (sound.vacant i (vacant-before _ _ (kinds i differ) none))
          ];
          rising = λ i. elim (cases_eq i key.slot) [
            | inl same ↦ rw (same, bumped.at) (omega (arith, sound.rising key.slot))
            | inr differ ↦ rw (bumped.others i differ) (sound.rising i)
          ];
          narrow = λ i. elim (cases_eq i key.slot) [
            | inl same ↦ rw (same, bumped.at, next) (omega (arith, fits))
            | inr differ ↦ rw (bumped.others i differ) (sound.narrow i)
          ];
          begun = λ i some. elim (cases_eq i key.slot) [
            | inl same ↦ rw (same, bumped.at) (omega (arith, sound.rising key.slot))
            | inr differ ↦
                rw (bumped.others i differ) (sound.begun i (sym (is_some-option_map (at_slot parent (with_child key) i)
                (slice_index_or old-rows i None)) ∙ ap is_some (sym (other-row i differ)) ∙ some))
          ];
          stamped = λ i generation is. elim (cases_eq i key.slot) [
            | inl same ↦
                let both : Some key.generation ≡ Some generation =
                sym stamp ∙ (ap (λ j. stamp_in (entry_in (slice_index_or new j None))) (sym same) ∙ is) in
                let it : key.generation ≡ generation = cc in
                rw (same, bumped.at, next) (ap (λ g. g + 1) it)
            | inr differ ↦ rw (bumped.others i differ) (sound.stamped i generation (sym (other-stamps i differ) ∙ is))
          ];
          forest = forest-born;
          chained = chained;
        }

    -- the new key was given now, and of every other key nothing changed
    given : (k : NodeKey) → was_given after k ≡ (same_key key k || was_given before k)
    given k =
        elim (key_cases key k) [
          | inl same ↦
              let slots : key.slot ≡ k.slot = ap (λ (j : NodeKey). j.slot) same in
              let generations : key.generation ≡ k.generation = ap (λ (j : NodeKey). j.generation) same in
              let at : slice_index_or nexts2 k.slot first ≡ key.generation + 1 = rw (sym slots, bumped.at, next) refl in
              let low : first ≤ key.generation = rw next at (sound.rising key.slot) in
              given-between first k.generation (slice_index_or nexts2 k.slot first) (omega arith) (omega arith)
              ∙ sym (ap (λ b. b || was_given before k) (same_key-equal key k same))
          | inr differ ↦ by_slot k differ ∙ sym (ap (λ b. b || was_given before k) (same_key-apart key k differ))
        ]
      where
        by_slot : (k : NodeKey) → key ≢ k → was_given after k ≡ was_given before k
        by_slot k differ =
            elim (cases_eq k.slot key.slot) [
              | inl same ↦
                  let apart : k.generation ≢ key.generation = λ generations. differ (sym (same-fields k key same generations)) in
                  let now : slice_index_or nexts2 k.slot first ≡ key.generation + 1 = rw (same, bumped.at, next) refl in
                  let was : slice_index_or nexts k.slot first ≡ key.generation = rw same next in
                  rw (now, was) (given-more first k.generation key.generation apart)
              | inr apart ↦ rw (bumped.others k.slot apart) refl
            ]

    -- each part, from the facts above
    pub births : (vacant vacant2 : ℕ) → key.slot ≡ vacant → Births (with_vacant vacant before) (with_vacant vacant2 after) parent node key
    births vacant vacant2 slot =
        record {
          fresh = let none : nat_lt key.generation key.generation ≡ false =
              grind (arith, nat_tests) in rw (next, none) (and-false (nat_le first key.generation));
          slot = slot;
          next = sym next;
          born = born-row;
          others = others;
          given = given;
          nexts = λ slot differ. bumped.others slot differ;
          longer = longer;
          limit = refl;
        }
