-- The runs of children in the slots of a sound table.
use Rattle.node_table.proofs.Common.{Contains, IsRun, IsSome, IsSound, List, NodeKey, None, Option, Row, Slot, SlotEntry, Some, Table, []}
use Rattle.node_table.proofs.Common.{ap, arith, children_at, children_in, cond, core_of, entry_in, first_in, first_key, given_count}
use Rattle.node_table.proofs.Common.{is_some, last_in, length, link_in, next_in, next_key, node_at, option_map, option_map_or, parent_at}
use Rattle.node_table.proofs.Common.{parent_in, prev_in, refl, row_at, row_of, rows_of, run_from, run_in, siblings_at, slice_index_or}
use Rattle.node_table.proofs.Common.{stamp_in, subst, sym, table_of, true, with_children, with_vacant, ℕ, ◌+◌, ◌-◌, ◌<◌, ◌==◌, ◌∙◌, ◌≡◌}
use Rattle.node_table.proofs.Common.{◌≤◌}
use Rattle.node_table.proofs.Keys.{eq-true, eq-false, same-fields}
use Rattle.node_table.proofs.Runs.{run-first, run-next, run_is, run_from-none, run_from-short}
use Rattle.node_table.proofs.Slots.{row-at, row-parts}
use Rattle.node_table.proofs.Depths.{next-there, there-above, parent-there}

module _ {N : Type 0} where
  -- what the entry of a slot, if it has one, says of the key that the slot gave last
  pub record Shows (t : Table N) (key : NodeKey) (o : Option (SlotEntry N)) : Type 0 where
    pub there : is_some o ≡ is_some (row_at t key)
    pub node : option_map (λ (e : SlotEntry N). e.node) o ≡ node_at t key
    pub parent : link_in (λ (e : SlotEntry N). e.parent) o ≡ parent_at t key
    pub first : link_in (λ (e : SlotEntry N). e.first) o ≡ first_key (children_at t key)

  -- a key that is not there shows nothing
  pub none-shown : (t : Table N) (key : NodeKey) → row_at t key ≡ None → Shows t key None
  none-shown t key none = record {
    there = sym (ap is_some none);
    node = sym (ap (option_map (λ (row : Row N). row.node)) none);
    parent = sym (ap parent_in none);
    first = sym (ap (λ q. first_key (children_in q)) none);
  }

  -- and has no parent
  pub none-above : (t : Table N) (key : NodeKey) → row_at t key ≡ None → IsSome (parent_at t key) → ⊥
  none-above t key none some = let gone : parent_at t key ≡ None = ap parent_in none in absurd (cc)

  -- the row of a slot, by its parts
  pub row-is : (slots : List (Option (Slot N))) (most i : ℕ) →
      slice_index_or (rows_of slots most) i None ≡ option_map (with_children (run_in slots most i))
      (option_map core_of (entry_in (slice_index_or slots i None)))
  row-is slots most i = row-at slots most i ∙ row-parts (next_in slots) most (entry_in (slice_index_or slots i None))

  module _ (slots : List (Option (Slot N))) (most : ℕ) (lists : ℕ → List NodeKey)
      (each : (i : ℕ) → IsRun (next_in slots) (prev_in slots) None (first_in slots i) (lists i) (last_in slots i))
      (short : (i : ℕ) → length (lists i) ≤ most)
    where
      -- lists that are linked to and fro are the runs
      pub runs_are : (i : ℕ) → run_in slots most i ≡ lists i
      runs_are i = run_is (next_in slots) (prev_in slots) None (first_in slots i) (lists i) (last_in slots i) most (each i) (short i)

      -- the run of each slot is linked to and fro, since the run is the given list
      pub chained_so : (i : ℕ) → IsRun (next_in slots) (prev_in slots) None (first_in slots i) (run_in slots most i) (last_in slots i)
      chained_so i = subst (λ keys. IsRun (next_in slots) (prev_in slots) None (first_in slots i) keys (last_in slots i)) (sym (runs_are i))
          (each i)

      -- and the children in the rows
      pub rows_are : (i : ℕ) → slice_index_or (rows_of slots most) i None ≡ option_map (with_children (lists i))
          (option_map core_of (entry_in (slice_index_or slots i None)))
      rows_are i = row-is slots most i ∙ ap (λ (keys : List NodeKey).
          option_map (with_children keys) (option_map core_of (entry_in (slice_index_or slots i None)))) (runs_are i)

  -- a slot with a child has an entry
  entry-with-child : (next : ℕ → Option NodeKey) (most : ℕ) (o : Option (SlotEntry N)) (x : NodeKey) →
      Contains (run_from next most (link_in (λ (e : SlotEntry N). e.first) o)) x → IsSome o
  entry-with-child next most None x there =
      let none : Contains [] x = subst (λ keys. Contains keys x) (run_from-none next most) there in absurd (omega (arith, none.1))
  entry-with-child next most (Some e) x there = refl

  -- the children of a row that is there
  children-there : (keys : List NodeKey) (o : Option (Row N)) → IsSome o → children_in (option_map (with_children keys) o) ≡ keys
  children-there keys None some = absurd (cc)
  children-there keys (Some row) some = refl

  -- an entry that is there has a core
  some-core : (o : Option (SlotEntry N)) → IsSome o → IsSome (option_map core_of o)
  some-core None some = absurd (cc)
  some-core (Some e) some = refl

  -- if a row with its children is there, the row without them is there
  core-some : (keys : List NodeKey) (o : Option (Row N)) → IsSome (option_map (with_children keys) o) → IsSome o
  core-some keys None some = absurd (cc)
  core-some keys (Some row) some = refl

  -- a row that is there is still there once it has its children
  some-row : (keys : List NodeKey) (o : Option (Row N)) → IsSome o → IsSome (option_map (with_children keys) o)
  some-row keys None some = absurd (cc)
  some-row keys (Some row) some = refl

  module _ (slots : List (Option (Slot N))) (nexts : List ℕ) (first count limit : ℕ) (sound : IsSound slots nexts first count limit) where
    -- the key that a slot gave last
    abbrev pub owner : ℕ → NodeKey
    owner i = record { slot = i; generation = slice_index_or nexts i first - 1 }

    -- a child of what lies in a slot is a child of the slot's key
    pub member : (i : ℕ) (x : NodeKey) → Contains (run_in slots (given_count first nexts) i) x →
        parent_at (table_of slots nexts first limit) x ≡ Some (owner i)
    member i x there =
        let most = given_count first nexts in
        let entry : IsSome (entry_in (slice_index_or slots i None)) =
        entry-with-child (next_in slots) most (entry_in (slice_index_or slots i None)) x there in
        let core : IsSome (option_map core_of (entry_in (slice_index_or slots i None))) =
        some-core (entry_in (slice_index_or slots i None)) entry in
        let row : IsSome (slice_index_or (rows_of slots most) i None) =
        subst (λ (o : Option (Row N)). IsSome o) (sym (row-is slots most i)) (some-row (run_in slots most i)
        (option_map core_of (entry_in (slice_index_or slots i None))) core) in
        let begun : first < slice_index_or nexts i first = sound.begun i row in
        let test : (slice_index_or nexts i first == (slice_index_or nexts i first - 1) + 1) ≡ true =
        eq-true (slice_index_or nexts i first) ((slice_index_or nexts i first - 1) + 1) (omega (arith, begun)) in
        let at : row_at (table_of slots nexts first limit) (owner i) ≡ slice_index_or (rows_of slots most) i None =
        ap (λ b. cond b (slice_index_or (rows_of slots most) i None) None) test in
        let keys : children_at (table_of slots nexts first limit) (owner i) ≡ run_in slots most i =
        ap children_in (at ∙ row-is slots most i)
        ∙ children-there (run_in slots most i) (option_map core_of (entry_in (slice_index_or slots i None))) core in
        (sound.forest.linked (owner i) x).1 (subst (λ ks. Contains ks x) (sym keys) there)

    -- so it is there
    pub member-there : (i : ℕ) (x : NodeKey) → Contains (run_in slots (given_count first nexts) i) x →
        IsSome (row_at (table_of slots nexts first limit) x)
    member-there i x there = there-above (row_at (table_of slots nexts first limit) x) (owner i) (member i x there)

    -- two slots that list one key are one
    pub same_list : (i j : ℕ) (x : NodeKey) → Contains (run_in slots (given_count first nexts) i) x →
        Contains (run_in slots (given_count first nexts) j) x → i ≡ j
    same_list i j x in_i in_j =
        let both : Some (owner i) ≡ Some (owner j) = sym (member i x in_i) ∙ member j x in_j in
        let same : owner i ≡ owner j = cc in
        ap (λ (k : NodeKey). k.slot) same

    -- keys that are there and have one slot are one key
    pub one_key : (x y : NodeKey) → IsSome (row_at (table_of slots nexts first limit) x) →
        IsSome (row_at (table_of slots nexts first limit) y) → x.slot ≡ y.slot → x ≡ y
    one_key x y here there same =
        let one : slice_index_or nexts x.slot first ≡ x.generation + 1 = next-there (table_of slots nexts first limit) x here in
        let two : slice_index_or nexts y.slot first ≡ y.generation + 1 = next-there (table_of slots nexts first limit) y there in
        let both : slice_index_or nexts x.slot first ≡ slice_index_or nexts y.slot first = ap (λ i. slice_index_or nexts i first) same in
        same-fields x y same (omega arith)

    -- the children of a key that is there
    pub children_run : (p : NodeKey) → IsSome (row_at (table_of slots nexts first limit) p) →
        children_at (table_of slots nexts first limit) p ≡ run_in slots (given_count first nexts) p.slot
    children_run p there =
        let most = given_count first nexts in
        let test : (slice_index_or nexts p.slot first == p.generation + 1) ≡ true =
        eq-true (slice_index_or nexts p.slot first) (p.generation + 1) (next-there (table_of slots nexts first limit) p there) in
        let at : row_at (table_of slots nexts first limit) p ≡ slice_index_or (rows_of slots most) p.slot None =
        ap (λ b. cond b (slice_index_or (rows_of slots most) p.slot None) None) test in
        let row : IsSome (option_map (with_children (run_in slots most p.slot))
        (option_map core_of (entry_in (slice_index_or slots p.slot None)))) =
        subst (λ (o : Option (Row N)). IsSome o) (at ∙ row-is slots most p.slot) there in
        ap children_in (at ∙ row-is slots most p.slot)
        ∙ children-there (run_in slots most p.slot) (option_map core_of (entry_in (slice_index_or slots p.slot None)))
        (core-some (run_in slots most p.slot) (option_map core_of (entry_in (slice_index_or slots p.slot None))) row)

    -- a list of children is no longer than may be
    pub runs_short : (i : ℕ) → length (run_in slots (given_count first nexts) i) ≤ given_count first nexts
    runs_short i = run_from-short (next_in slots) (given_count first nexts) (first_in slots i)

    -- a child is followed by its next sibling
    pub next_shown : (vacant : ℕ) (t : Table N) → with_vacant vacant (table_of slots nexts first limit) ≡ t →
        (key : NodeKey) → IsSome (parent_at t key) →
        next_in slots key.slot ≡ next_key key (siblings_at t key)
    next_shown vacant t is key = subst (λ u. IsSome (parent_at u key) → next_in slots key.slot ≡ next_key key (siblings_at u key)) is
        (by_parent (parent_at (table_of slots nexts first limit) key) refl)
      where
        by_parent : (o : Option NodeKey) → parent_at (table_of slots nexts first limit) key ≡ o → IsSome o →
            next_in slots key.slot ≡ next_key key (option_map_or (children_at (table_of slots nexts first limit)) o [])
        by_parent None above some = absurd (cc)
        by_parent (Some p) above some =
            let keys : children_at (table_of slots nexts first limit) p ≡ run_in slots (given_count first nexts) p.slot =
            children_run p (parent-there (table_of slots nexts first limit) sound.forest p key above) in
            run-next (next_in slots) (prev_in slots) key None (first_in slots p.slot) (run_in slots (given_count first nexts) p.slot)
            (last_in slots p.slot) (sound.chained p.slot)
            (subst (λ ks. Contains ks key) keys ((sound.forest.linked p key).0 above))
            ∙ ap (next_key key) (sym keys)

    -- a key of another generation than the entry in its slot is not there
    pub not-there : (vacant : ℕ) (t : Table N) → with_vacant vacant (table_of slots nexts first limit) ≡ t → (key : NodeKey) (e : SlotEntry N) →
        entry_in (slice_index_or slots key.slot None) ≡ Some e → (e.generation ≡ key.generation → ⊥) → row_at t key ≡ None
    not-there vacant t is key e at differ =
        let next : slice_index_or nexts key.slot first ≡ e.generation + 1 = sound.stamped key.slot e.generation (ap stamp_in at) in
        subst (λ u. row_at u key ≡ None) is
        (ap (λ b. cond b (slice_index_or (rows_of slots (given_count first nexts)) key.slot None) None)
        (eq-false (slice_index_or nexts key.slot first) (key.generation + 1) (λ same. differ (omega (arith, next, same)))))

    -- an entry says what its key's row has, since the row is made of it
    pub entry-shows : (vacant : ℕ) (t : Table N) → with_vacant vacant (table_of slots nexts first limit) ≡ t → (key : NodeKey)
        (o : Option (SlotEntry N)) → entry_in (slice_index_or slots key.slot None) ≡ o →
        slice_index_or nexts key.slot first ≡ key.generation + 1 → Shows t key o
    entry-shows vacant t is key o at next = subst (λ u. Shows u key o) is (by_entry o at
        (ap (λ b. cond b (slice_index_or (rows_of slots (given_count first nexts)) key.slot None) None)
        (eq-true (slice_index_or nexts key.slot first) (key.generation + 1) next)
        ∙ (row-at slots (given_count first nexts) key.slot ∙ ap (option_map (row_of (next_in slots) (given_count first nexts))) at)))
      where
        by_entry : (o : Option (SlotEntry N)) → entry_in (slice_index_or slots key.slot None) ≡ o →
            row_at (table_of slots nexts first limit) key ≡ option_map (row_of (next_in slots) (given_count first nexts)) o →
            Shows (with_vacant vacant (table_of slots nexts first limit)) key o
        by_entry None at row = record {
          there = sym (ap is_some row);
          node = sym (ap (option_map (λ (row : Row N). row.node)) row);
          parent = sym (ap parent_in row);
          first = sym (ap (λ q. first_key (children_in q)) row);
        }
        by_entry (Some e) at row = record {
          there = sym (ap is_some row);
          node = sym (ap (option_map (λ (row : Row N). row.node)) row);
          parent = sym (ap parent_in row);
          first = subst (λ (q : Option (SlotEntry N)). link_in (λ (e : SlotEntry N). e.first) q
              ≡ first_key (run_from (next_in slots) (given_count first nexts) (link_in (λ (e : SlotEntry N). e.first) q))) at
              (run-first (next_in slots) (prev_in slots) None (first_in slots key.slot) (run_in slots (given_count first nexts) key.slot)
              (last_in slots key.slot) (sound.chained key.slot))
              ∙ sym (ap (λ q. first_key (children_in q)) row);
        }
