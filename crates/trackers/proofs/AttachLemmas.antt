-- What one row more leaves.
use Rattle.trackers.proofs.Common.{AllByRecursion, Attaches, Bool, Cell, Fired, IdsRise, List, NoneHas, Over, RowState, TableInvariant}
use Rattle.trackers.proofs.Common.{TrackerRow, WaitIndex, Waiting, Waits, [], ap, arith, cell_of_row, cond, cons_option, count_by}
use Rattle.trackers.proofs.Common.{filter_map, firing_of, firing_of_row, if◌then◌else◌, is_waiting, length, length_push, map, map_push}
use Rattle.trackers.proofs.Common.{refl, sum_by-append, sum_by-cons, sym, table_of, trackers_in, untaken_of_row, waiters_of}
use Rattle.trackers.proofs.Common.{waiting_of_row, ℕ, ◌++◌, ◌+◌, ◌<◌, ◌==◌, ◌∙◌, ◌∷◌, ◌≡◌, ◌≤◌}
use Rattle.trackers.specs.Held.{attached}
use Rattle.trackers.proofs.IndexLemmas.{indexed_push}
use Rattle.trackers.proofs.FoundLemmas.{table_with}
use Rattle.trackers.proofs.Walks.{filter_map_push}

-- a row that waits is shown
shown_at : (id cell : ℕ) (state : RowState) (has : Bool) (rows : List TrackerRow) →
    length (filter_map waiting_of_row rows) ≡ count_by is_waiting rows →
    length (cons_option (waiting_of_row (record { id = id; cell = cell; state = state; has_reader = has }))
    (filter_map waiting_of_row rows)) ≡ cond (is_waiting (record { id = id; cell = cell; state = state; has_reader = has })) 1
    0 + count_by is_waiting rows
shown_at id cell (Over event) has rows same = omega arith
shown_at id cell (Waits place c) has rows same = omega arith

-- as many rows wait as are shown
pub count_shown : (rows : List TrackerRow) → length (filter_map waiting_of_row rows) ≡ count_by is_waiting rows
count_shown [] = refl
count_shown (row ∷ rows) =
    shown_at row.id row.cell row.state row.has_reader rows (count_shown rows) ∙ sym (sum_by-cons (λ r. cond (is_waiting r) 1 0) row rows)

-- the ids of the cells are those of the rows
pub all_below : (n : ℕ) (rows : List TrackerRow) → AllByRecursion (λ (c : Cell). c.id < n) (map cell_of_row rows) →
    AllByRecursion (λ (r : TrackerRow). r.id < n) rows
all_below n [] all = tt
all_below n (row ∷ rows) all = (all.0, all_below n rows all.1)

-- a greater id is one that no row has
pub fresh : (n : ℕ) (rows : List TrackerRow) → AllByRecursion (λ (r : TrackerRow). r.id < n) rows → NoneHas n rows
fresh n [] all = tt
fresh n (row ∷ rows) all = ((λ same. omega (arith, all.0)), fresh n rows all.1)

module _ (row : TrackerRow) where
  -- an id below all stays so, if the new one is greater
  below_push : (n : ℕ) (rows : List TrackerRow) → n < row.id → AllByRecursion (λ (r : TrackerRow). n < r.id) rows →
      AllByRecursion (λ (r : TrackerRow). n < r.id) (rows ++ row ∷ [])
  below_push n [] above below = (above, tt)
  below_push n (other ∷ rows) above below = (below.0, below_push n rows above below.1)

  -- the ids rise on with a greater one
  pub rising_push : (rows : List TrackerRow) → AllByRecursion (λ (r : TrackerRow). r.id < row.id) rows → IdsRise rows →
      IdsRise (rows ++ row ∷ [])
  rising_push [] all rising = (tt, tt)
  rising_push (other ∷ rows) all rising = (below_push other.id rows all.0 rising.0, rising_push rows all.1 rising.1)

  -- each firing is found under its id with one row more
  told_push : (fired : List Fired) (rows : List TrackerRow) → firing_of fired row.id ≡ firing_of_row row →
      AllByRecursion (λ (r : TrackerRow). firing_of fired r.id ≡ firing_of_row r) rows →
      AllByRecursion (λ (r : TrackerRow). firing_of fired r.id ≡ firing_of_row r) (rows ++ row ∷ [])
  told_push fired [] here told = (here, tt)
  told_push fired (other ∷ rows) here told = (told.0, told_push fired rows here told.1)

  -- an id that none has was had by none before
  none_push : (id : ℕ) (rows : List TrackerRow) → NoneHas id (rows ++ row ∷ []) → NoneHas id rows
  none_push id [] none = tt
  none_push id (other ∷ rows) none = (none.0, none_push id rows none.1)

module _ (limit capacity capacity' spare spare' : ℕ) (rows rows' : List TrackerRow) (fired fired' : List Fired) (old new : WaitIndex)
    (sound : TableInvariant limit rows fired capacity spare old) (same : fired' ≡ fired) where
  -- the table is right with one row more
  pub sound_push : (cell : ℕ) (t : Waiting) → AllByRecursion (λ (r : TrackerRow). r.id < t.id) rows → count_by is_waiting rows < limit →
      length rows + 1 ≤ capacity' → count_by is_waiting rows + 1 ≤ spare' → rows' ≡ rows ++ attached cell t ∷ [] →
      (hint : ℕ) → ((k : ℕ) → waiters_of new k
      ≡ (if k == t.collection then waiters_of old k ++ record { tracker = t; hint = hint } ∷ [] else waiters_of old k)) →
      TableInvariant limit rows' fired' capacity' spare' new
  sound_push cell t all room_left room spare_left pushed hint indexed =
      let row : TrackerRow = attached cell t in
      rw (same, pushed) record {
        held = record {
          rising = rising_push row rows all sound.held.rising;
          counted = omega (arith, sound.held.counted, length_push rows row, sum_by-append (λ r. cond (is_waiting r) 1 0) rows (row ∷ []));
          room = omega (arith, room, length_push rows row);
          within = omega (arith, room_left, sum_by-append (λ r. cond (is_waiting r) 1 0) rows (row ∷ []));
          told = told_push row fired rows (sound.held.own t.id (fresh t.id rows all)) sound.held.told;
          own = λ other none. sound.held.own other (none_push row other rows none);
        };
        indexed = rw (filter_map_push waiting_of_row rows row) (indexed_push old new (filter_map waiting_of_row rows) t hint sound.indexed indexed);
        spare_room = omega (arith, spare_left, sum_by-append (λ r. cond (is_waiting r) 1 0) rows (row ∷ []));
      }

  -- and with more room alone
  pub sound_grown : capacity ≤ capacity' → spare ≤ spare' → rows' ≡ rows →
      ((k : ℕ) → waiters_of new k ≡ waiters_of old k) →
      TableInvariant limit rows' fired' capacity' spare' new
  sound_grown more more_spare stay indexed = rw (same, stay) record {
    held = record {
      rising = sound.held.rising;
      counted = sound.held.counted;
      room = omega (arith, sound.held.room);
      within = sound.held.within;
      told = sound.held.told;
      own = sound.held.own;
    };
    indexed = record { at = λ k. ap trackers_in (indexed k) ∙ sound.indexed.at k };
    spare_room = omega (arith, sound.spare_room, more_spare);
  }

-- the table shows a row more
pub table_push : (limit : ℕ) (rows rows' : List TrackerRow) (fired fired' : List Fired) (cell : ℕ) (t : Waiting) → fired' ≡ fired →
    rows' ≡ rows ++ attached cell t ∷ [] →
    Attaches (table_of limit rows fired) (table_of limit rows' fired') t
table_push limit rows rows' fired fired' cell t same pushed =
    let row : TrackerRow = attached cell t in
    rw (same, pushed) record {
      name = cell;
      next =
          ap (λ l. table_with limit l (filter_map waiting_of_row (rows ++ row ∷ [])) (filter_map untaken_of_row (rows ++ row ∷ [])) fired)
          (map_push cell_of_row rows row)
          ∙ ap (λ l. table_with limit (map cell_of_row rows ++ cell_of_row row ∷ []) l (filter_map untaken_of_row (rows ++ row ∷ [])) fired)
          (filter_map_push waiting_of_row rows row)
          ∙ ap (λ l. table_with limit (map cell_of_row rows ++ cell_of_row row ∷ [])
          (filter_map waiting_of_row rows ++ t ∷ []) l fired)
          (filter_map_push untaken_of_row rows row);
    }
