-- What a change of one place, its slot and the firings leaves of the rows.
use Rattle.trackers.proofs.Common.{All-from_recursion, AllByRecursion, Fired, Found, IdsRise, InSlot, IsKept, IsKeptAt, IsSomeAnd, List}
use Rattle.trackers.proofs.Common.{None, NoneHas, OnTrue, Option, Place, RowsInvariant, Slots, Some, Stage, Taken, TrackerRow, Untaken}
use Rattle.trackers.proofs.Common.{WaitingRow, [], ap, arith, false, firing_or_none, get_or, get_or_default, here, later, length}
use Rattle.trackers.proofs.Common.{length-map, map, map_push, refl, row_as, row_at, row_in, row_over, rows_of, set, slot_at, subst, suc}
use Rattle.trackers.proofs.Common.{sym, true, zero, ℕ, ◌++◌, ◌<◌, ◌∙◌, ◌∷◌, ◌≡◌, ◌≢◌, ◌≤◌}
use Rattle.trackers.specs.Row.{KeptRows, row_of_waiting}
use Rattle.trackers.specs.Places.{Leaves, Names}
use Rattle.trackers.proofs.FoundLemmas.{found_at}
use Rattle.trackers.proofs.AttachLemmas.{rising_push, fresh}
use Rattle.trackers.proofs.DetachLemmas.{front_of, below_last, front_rises}

-- rows as they are kept
abbrev pub kept_with : List TrackerRow → List Fired → ℕ → KeptRows
kept_with rows fired room = record { rows = rows; fired = fired; room = room }

-- what a function gives of the element at an index
pub get_map : {X Y : Type 0} (f : X → Y) (xs : List X) (i : ℕ) (d : X) → get_or (map f xs) i (f d) ≡ f (get_or xs i d)
get_map f [] i d = refl
get_map f (x ∷ xs) zero d = refl
get_map f (x ∷ xs) (suc i) d = get_map f xs i d

-- ---- the place at an index

module _ (slots : Slots) (fired : List Fired) (places : List Place) (at : ℕ) (place : Place) (is : get_or places at place ≡ place)
    (within : at < length places) where
  -- so long are the rows
  rows_within : at < length (rows_of slots fired places)
  rows_within = rw (length-map places (row_at slots fired)) within

  -- its row stands there
  pub row_there : (d : TrackerRow) → get_or (rows_of slots fired places) at d ≡ row_at slots fired place
  row_there d = get_or_default (rows_of slots fired places) at d (row_at slots fired place) rows_within
      ∙ get_map (row_at slots fired) places at place
      ∙ ap (row_at slots fired) is

  -- what it names is there
  pub kept_there : AllByRecursion (IsKeptAt slots fired) places → IsKeptAt slots fired place
  kept_there kept = subst (IsKeptAt slots fired) is (All-from_recursion (IsKeptAt slots fired) places kept at place within)

  -- its row is found there
  pub found_there : IdsRise (rows_of slots fired places) →
      Found (row_at slots fired place).id (rows_of slots fired places) at (row_at slots fired place)
  found_there rising = subst (λ (r : TrackerRow). Found r.id (rows_of slots fired places) at r) (row_there (row_at slots fired place))
      (found_at (rows_of slots fired places) rising at (row_at slots fired place) rows_within)

-- ---- another row of the same id

module _ (id : ℕ) (row' : TrackerRow) (same : row'.id ≡ id) where
  -- an id below all stays so
  set_below : (n : ℕ) {rows : List TrackerRow} {at : ℕ} {row : TrackerRow} → Found id rows at row →
      AllByRecursion (λ (r : TrackerRow). n < r.id) rows → AllByRecursion (λ (r : TrackerRow). n < r.id) (set rows at row')
  set_below n (here is rest) below = (omega (arith, same, is, below.0), below.1)
  set_below n (later differ found) below = (below.0, set_below n found below.1)

  -- the ids rise on
  set_rising : {rows : List TrackerRow} {at : ℕ} {row : TrackerRow} → Found id rows at row → IdsRise rows → IdsRise (set rows at row')
  set_rising (here {rows = rows} is rest) rising =
      (subst (λ (n : ℕ). AllByRecursion (λ (r : TrackerRow). n < r.id) rows) (is ∙ sym same) rising.0, rising.1)
  set_rising (later {other = other} differ found) rising = (set_below other.id found rising.0, set_rising found rising.1)

-- there are as many rows as places
pub rows_long : (slots : Slots) (fired : List Fired) (places : List Place) → length (rows_of slots fired places) ≡ length places
rows_long slots fired places = length-map places (row_at slots fired)

-- ---- what a place names, by its stage

module _ (slots : Slots) (fired : List Fired) (number name : ℕ) (known : Option Fired) (stage : Stage)
    (kept : IsKept slots fired number name known stage) where
  -- in a slot there is a row
  pub in_slot : stage ≡ InSlot → IsSomeAnd (slot_at slots number) (λ (row : WaitingRow). row.cell ≡ name)
  in_slot is = subst (IsKept slots fired number name known) is kept

-- ---- one slot changes

-- two places of one slot have one row
same_slot : (slots : Slots) (fired : List Fired) (number name : ℕ) (stage : Stage) (number' name' : ℕ) (stage' : Stage) →
    stage ≡ InSlot → stage' ≡ InSlot → number ≡ number' →
    (row_as slots fired number name stage).id ≡ (row_as slots fired number' name' stage').id
same_slot slots fired number name stage number' name' stage' one two same = rw (one, two, same) refl

module _ (slots slots' : Slots) (fired fired' : List Fired) (longer : length fired ≤ length fired')
    (grown : (n : ℕ) → n < length fired → firing_or_none fired' n ≡ firing_or_none fired n) where
  -- what a place of this stage names is as it was, where its slot is
  stays_as : (number name : ℕ) (known : Option Fired) (stage : Stage) → IsKept slots fired number name known stage →
      (stage ≡ InSlot → slot_at slots' number ≡ slot_at slots number) →
      (row_as slots' fired' number name stage ≡ row_as slots fired number name stage) × IsKept slots' fired' number name known stage
  stays_as number name known InSlot kept same =
      (ap row_in (same refl), subst (λ (o : Option WaitingRow). IsSomeAnd o (λ (row : WaitingRow). row.cell ≡ name)) (sym (same refl)) kept)
  stays_as number name known Untaken kept same = (ap (row_over name true) (grown number kept), omega (arith, kept, longer))
  stays_as number name known (Taken was_set) kept same = (
    ap (row_over name false) (grown number kept.0),
    (omega (arith, kept.0, longer), subst (λ (f : Fired). OnTrue was_set (known ≡ Some f)) (sym (grown number kept.0)) kept.1),
  )

  -- so is the row of a place
  pub stays : (q : Place) → IsKeptAt slots fired q → (q.stage ≡ InSlot → slot_at slots' q.number ≡ slot_at slots q.number) →
      (row_at slots' fired' q ≡ row_at slots fired q) × IsKeptAt slots' fired' q
  stays q kept same = stays_as q.number q.note.cell q.note.known q.stage kept same

  module _ (place : Place) (leaves : Leaves slots slots' place) where
    -- a place of another id has another slot
    apart : (q : Place) → (row_at slots fired q).id ≢ (row_at slots fired place).id → q.stage ≡ InSlot →
        slot_at slots' q.number ≡ slot_at slots q.number
    apart q differ stage = leaves q.number (λ stage' same.
        differ (same_slot slots fired q.number q.note.cell q.stage place.number place.note.cell place.stage stage stage' same))

    -- places of other ids stay
    pub others : (qs : List Place) → NoneHas (row_at slots fired place).id (rows_of slots fired qs) →
        AllByRecursion (IsKeptAt slots fired) qs →
        (rows_of slots' fired' qs ≡ rows_of slots fired qs) × AllByRecursion (IsKeptAt slots' fired') qs
    others [] none kept = (refl, tt)
    others (q ∷ qs) none kept =
        let first = stays q kept.0 (apart q none.0) in
        let more = others qs none.1 kept.1 in
        ((λ i. first.0 i ∷ more.0 i), (first.1, more.1))

    -- and where the place itself is another, its row alone is another
    changed : (qs : List Place) (at : ℕ) {row : TrackerRow} (place' : Place) → IsKeptAt slots' fired' place' →
        Found (row_at slots fired place).id (rows_of slots fired qs) at row → AllByRecursion (IsKeptAt slots fired) qs →
        (rows_of slots' fired' (set qs at place') ≡ set (rows_of slots fired qs) at (row_at slots' fired' place'))
        × AllByRecursion (IsKeptAt slots' fired') (set qs at place')
    changed [] at place' now found kept = elim found [ ]
    changed (q ∷ qs) zero place' now (here same none) kept =
        let more = others qs none kept.1 in
        ((λ i. row_at slots' fired' place' ∷ more.0 i), (now, more.1))
    changed (q ∷ qs) (suc at) place' now (later differ found) kept =
        let first = stays q kept.0 (apart q differ) in
        let more = changed qs at place' now found kept.1 in
        ((λ i. first.0 i ∷ more.0 i), (first.1, more.1))

    -- the rows stay sound
    pub at_place : (places : List Place) → RowsInvariant slots fired places → (at : ℕ) →
        get_or places at place ≡ place → at < length places →
        (place' : Place) → IsKeptAt slots' fired' place' → (row_at slots' fired' place').id ≡ (row_at slots fired place).id →
        (rows_of slots' fired' (set places at place') ≡ set (rows_of slots fired places) at (row_at slots' fired' place'))
        × RowsInvariant slots' fired' (set places at place')
    at_place places sound at is within place' now same =
        let found = found_there slots fired places at place is within sound.rising in
        let all = changed places at place' now found sound.kept in (
          all.0,
          record {
            kept = all.1;
            rising = subst IdsRise (sym all.0)
                (set_rising (row_at slots fired place).id (row_at slots' fired' place') same found sound.rising);
          },
        )

-- ---- the last place

-- without the last place the rows are those before it
pub rows_popped : (slots slots' : Slots) (fired : List Fired) (init : List Place) (place : Place) →
    RowsInvariant slots fired (init ++ place ∷ []) → Leaves slots slots' place →
    (rows_of slots fired (init ++ place ∷ []) ≡ rows_of slots' fired init ++ row_at slots fired place ∷ [])
    × RowsInvariant slots' fired init
rows_popped slots slots' fired init place sound leaves =
    let pushed : rows_of slots fired (init ++ place ∷ []) ≡ rows_of slots fired init ++ row_at slots fired place ∷ [] =
    map_push (row_at slots fired) init place in
    let rising = subst IdsRise pushed sound.rising in
    let none = fresh (row_at slots fired place).id (rows_of slots fired init)
    (below_last (rows_of slots fired init) (row_at slots fired place) rising) in
    let stay = others slots slots' fired fired (omega arith) (λ n l. refl) place leaves init none
    (front_of (IsKeptAt slots fired) init place sound.kept) in (
      pushed ∙ ap (λ l. l ++ row_at slots fired place ∷ []) (sym stay.0),
      record {
        kept = stay.1;
        rising = subst IdsRise (sym stay.0) (front_rises (rows_of slots fired init) (row_at slots fired place) rising);
      },
    )

module _ (slots slots' : Slots) (fired : List Fired) (key : ℕ) (row : WaitingRow) (vacant : slot_at slots key ≡ None)
    (put : slot_at slots' key ≡ Some row) (rest : (n : ℕ) → n ≢ key → slot_at slots' n ≡ slot_at slots n) where
  -- no place names the empty slot
  not_vacant : (number name : ℕ) (known : Option Fired) (stage : Stage) →
      IsKept slots fired number name known stage → stage ≡ InSlot → number ≢ key
  not_vacant number name known InSlot kept stage same =
      subst (λ (o : Option WaitingRow). IsSomeAnd o (λ (row : WaitingRow). row.cell ≡ name)) (ap (slot_at slots) same ∙ vacant) kept
  not_vacant number name known Untaken kept stage same = absurd (cc)
  not_vacant number name known (Taken was_set) kept stage same = absurd (cc)

  -- the new row is that of its place
  new_row : (number name : ℕ) (known : Option Fired) (stage : Stage) → number ≡ key → stage ≡ InSlot → name ≡ row.cell →
      (row_as slots' fired number name stage ≡ row_of_waiting row) × IsKept slots' fired number name known stage
  new_row number name known stage number_is stage_is name_is = rw (number_is, stage_is, name_is, put) (refl, refl)

  -- the rows before it stay
  before_new : (places : List Place) → AllByRecursion (IsKeptAt slots fired) places →
      (rows_of slots' fired places ≡ rows_of slots fired places) × AllByRecursion (IsKeptAt slots' fired) places
  before_new [] kept = (refl, tt)
  before_new (q ∷ qs) kept =
      let first = stays slots slots' fired fired (omega arith) (λ n l. refl) q kept.0 (λ stage.
      rest q.number (not_vacant q.number q.note.cell q.note.known q.stage kept.0 stage)) in
      let more = before_new qs kept.1 in
      ((λ i. first.0 i ∷ more.0 i), (first.1, more.1))

  -- what holds of all and of one more holds of all with it
  all_push : (P : Place → Type 0) (qs : List Place) (q : Place) → AllByRecursion P qs → P q → AllByRecursion P (qs ++ q ∷ [])
  all_push P [] q all one = (one, tt)
  all_push P (x ∷ qs) q all one = (all.0, all_push P qs q all.1 one)

  -- one more row stands behind the others
  pub rows_pushed : (places : List Place) (place : Place) → Names place key row.cell → RowsInvariant slots fired places →
      AllByRecursion (λ (r : TrackerRow). r.id < row.tracker.id) (rows_of slots fired places) →
      (rows_of slots' fired (places ++ place ∷ []) ≡ rows_of slots fired places ++ row_of_waiting row ∷ [])
      × RowsInvariant slots' fired (places ++ place ∷ [])
  rows_pushed places place names sound below =
      let new = new_row place.number place.note.cell place.note.known place.stage names.number_is names.stage_is names.cell_is in
      let stay = before_new places sound.kept in
      let pushed : rows_of slots' fired (places ++ place ∷ []) ≡ rows_of slots fired places ++ row_of_waiting row ∷ [] =
      map_push (row_at slots' fired) places place ∙ (λ i. stay.0 i ++ new.0 i ∷ []) in (
        pushed,
        record {
          kept = all_push (IsKeptAt slots' fired) places place stay.1 new.1;
          rising = subst IdsRise (sym pushed) (rising_push (row_of_waiting row) (rows_of slots fired places) below sound.rising);
        },
      )
