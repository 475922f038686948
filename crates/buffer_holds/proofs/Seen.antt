-- The counts that contracts see, by the pages and sums.
use Rattle.buffer_holds.proofs.Common.{Agrees, Bool, BufferName, Counts, HandleKind, Hold, IsDistinct, List, None, Option, Owner, Pages}
use Rattle.buffer_holds.proofs.Common.{Part, Sets, Some, Strength, Sum, SumBecomes, Sums, Tidies, [], ap, arith, cell_at, common_steps}
use Rattle.buffer_holds.proofs.Common.{cond, count_in, eqb-false, eqb-true, false, flat, has_handle_room, held, hold_at, hold_of}
use Rattle.buffer_holds.proofs.Common.{if◌then◌else◌, is_some, keys_of, kind_at, kind_of, lookup, lt-ltb, moving_count, nat_lt, of}
use Rattle.buffer_holds.proofs.Common.{option_map, owner_of, page_in, page_of, page_size, part_of, refl, row_at, rows_in}
use Rattle.buffer_holds.proofs.Common.{same_handle_kind, same_hold, same_owner, same_part, share, slot_of, subst, suc, sum_by}
use Rattle.buffer_holds.proofs.Common.{sum_by-cons, sum_in, sum_of, sym, tidied, total, true, unwrap_or, weight_at, zero, ℕ, ◌&&◌, ◌+◌}
use Rattle.buffer_holds.proofs.Common.{◌<◌, ◌==◌, ◌||◌, ◌∙◌, ◌∷◌, ◌≡◌}
use Rattle.std.proofs.lemmas.Map.Made.{lookup-map_values}
use Rattle.buffer_holds.specs.Sums.{parcel_pages, parcels_in}
use Rattle.buffer_holds.proofs.KindLemmas.{same_hold-one}
use Rattle.buffer_holds.proofs.PageLemmas.{found, moved, moved_set, moved_alike, sum_cells, weighed, weighed_at, weighed_before}
use Rattle.buffer_holds.proofs.PageNames.{hold_law, hold_whole, kind_law, kind_whole, same_owner-one, same_owner-refl, same_part-one}
use Rattle.buffer_holds.proofs.PageNames.{same_part-refl, slot_within}

-- the counts as contracts see them
abbrev pub seen : (limit places : ℕ) → Pages → Sums → Counts
seen limit places rows sums = record { limit = limit; places = places; rows = rows_in rows; parcels = parcels_in sums }

-- ---- rows
module _ {newest : ℕ} {rows : Pages} {sums : Sums} (agrees : Agrees newest rows sums) where
  -- a row is what is in its cell
  pub row_is : (hold : Hold) → row_at (rows_in rows) hold ≡ cell_at (page_in rows (owner_of hold)) (slot_of hold.kind)
  row_is hold =
      found hold_at page_size same_owner same_hold hold_law same_owner-one same_owner-refl owner_of (λ h. slot_of h.kind) hold_whole (λ h.
      slot_within h.kind) hold rows agrees.rows_distinct

-- what a page has of a kind
page_share : (kind : HandleKind) (owner : Owner) (page : List (Option ℕ)) →
    weighed hold_at (share kind) owner page_size page ≡ held (part_of kind) (slot_of kind) (owner, page)
page_share kind owner page = by (same_part owner.part (part_of kind)) refl
  where
    none : (b : Bool) → (b && false) ≡ false
    none true = refl
    none false = refl

    is_same : (n : ℕ) → n < page_size →
        same_handle_kind (kind_at owner.part n) kind ≡ (same_part owner.part (part_of kind) && (n == slot_of kind))
    is_same n small =
        ap (same_handle_kind (kind_at owner.part n)) (sym (kind_whole kind))
        ∙ kind_law owner.part (part_of kind) n (slot_of kind) small (slot_within kind)

    at : (c : Option ℕ) → same_handle_kind (kind_at owner.part (slot_of kind)) kind ≡ true →
        weight_at (share kind) (hold_at owner (slot_of kind)) c ≡ unwrap_or c 0
    at None e = refl
    at (Some x) e = ap (λ (b : Bool). if b then x else 0) e

    by : (b : Bool) → same_part owner.part (part_of kind) ≡ b →
        weighed hold_at (share kind) owner page_size page ≡ cond b (count_in page (slot_of kind)) 0
    by true is =
        weighed_at hold_at (share kind) owner (slot_of kind) page_size page
        (λ n x small other. ap (λ (b : Bool). if b then x else 0)
        (is_same n small ∙ ap (λ b. b && (n == slot_of kind)) is ∙ other)) page_size (omega arith) (slot_within kind)
        ∙ at (cell_at page (slot_of kind)) (is_same (slot_of kind) (slot_within kind)
        ∙ ap (λ b. b && (slot_of kind == slot_of kind)) is ∙ itself (slot_of kind))
      where
        itself : (n : ℕ) → (n == n) ≡ true
        itself n = grind (arith, common_steps)
    by false is =
        weighed_before hold_at (share kind) owner page_size page_size page
        (λ n x small other. ap (λ (b : Bool). if b then x else 0) (is_same n small ∙ ap (λ b. b && (n == slot_of kind)) is)) page_size
        (omega arith) (omega arith)

-- what all clients have of a kind
sum_share : (kind : HandleKind) (rows : Pages) → sum_by (share kind) (rows_in rows) ≡ sum_by (held (part_of kind) (slot_of kind)) rows
unfolding flat
sum_share kind [] = refl
sum_share kind (e ∷ rows) =
    omega (
      arith,
      sum_cells hold_at (share kind) e.0 page_size e.1 (rows_in rows),
      page_share kind e.0 e.1,
      sum_share kind rows,
      sum_by-cons (held (part_of kind) (slot_of kind)) e rows,
    )

-- ---- parcels

-- the keys are those of the sums
parcel_keys : (sums : Sums) → keys_of (parcel_pages sums) ≡ keys_of sums
parcel_keys [] = refl
parcel_keys (e ∷ sums) = ap (λ ks. e.0 ∷ ks) (parcel_keys sums)

-- how many of a kind are in parcels
pub moving_is : {newest : ℕ} {rows : Pages} {sums : Sums} (limit places : ℕ) → Agrees newest rows sums → (b : BufferName) (s : Strength) →
    moving_count (seen limit places rows sums) b s ≡ count_in (sum_in sums (part_of (kind_of b s))).moving (slot_of (kind_of b s))
moving_is {newest} {rows} {sums} limit places agrees b s =
    ap (λ o. unwrap_or o 0) (found kind_at page_size same_part same_handle_kind kind_law same_part-one same_part-refl part_of slot_of kind_whole
    slot_within (kind_of b s) (parcel_pages sums) (subst (IsDistinct same_part) (sym (parcel_keys sums)) agrees.sums_distinct)
    ∙ ap (λ o. cell_at (page_of o) (slot_of (kind_of b s)))
    (lookup-map_values (λ (t : Sum). t.moving) (same_part (part_of (kind_of b s))) sums))
    ∙ by (lookup (same_part (part_of (kind_of b s))) sums)
  where
    by : (o : Option Sum) → count_in (page_of (option_map (λ (t : Sum). t.moving) o)) (slot_of (kind_of b s)) ≡ count_in (sum_of o).moving
        (slot_of (kind_of b s))
    by None = refl
    by (Some t) = refl

-- how many of all kinds are in parcels
abbrev pub sent_in : Sums → ℕ
sent_in sums = sum_by (λ (p : HandleKind × ℕ). p.1) (parcels_in sums)

-- what a sum has in parcels
abbrev moved_in : Part × Sum → ℕ
moved_in e = moved page_size e.1.moving

-- the entries of a page weigh their counts
weighed_moved : (part : Part) (n : ℕ) (page : List (Option ℕ)) → weighed kind_at (λ (p : HandleKind × ℕ). p.1) part n page ≡ moved n page
weighed_moved part zero page = refl
weighed_moved part (suc n) page = omega (arith, by (cell_at page n), weighed_moved part n page)
  where
    by : (c : Option ℕ) → weight_at (λ (p : HandleKind × ℕ). p.1) (kind_at part n) c ≡ unwrap_or c 0
    by None = refl
    by (Some x) = refl

sent_is : (sums : Sums) → sent_in sums ≡ sum_by moved_in sums
unfolding flat
sent_is [] = refl
sent_is (e ∷ sums) =
    omega (
      arith,
      sum_cells kind_at (λ (p : HandleKind × ℕ). p.1) e.0 page_size e.1.moving (parcels_in sums),
      weighed_moved e.0 page_size e.1.moving,
      sent_is sums,
      sum_by-cons moved_in e sums,
    )

-- nothing is in no page
moved_none : (n : ℕ) → moved n [] ≡ 0
moved_none zero = refl
moved_none (suc n) = omega (arith, moved_none n)

-- what the sum of a part has in parcels
weight_at-moved : (part : Part) (sum : Option Sum) → weight_at moved_in part sum ≡ moved page_size (sum_of sum).moving
weight_at-moved part None = sym (moved_none page_size)
weight_at-moved part (Some sum) = refl

module _ {sums sums' : Sums} {part : Part} {clients : ℕ} {totals moving : ℕ → ℕ} (sum : SumBecomes sums sums' part clients totals moving)
  where
    -- one count of those in parcels changes
    pub sent_set : (slot m : ℕ) → slot < page_size
        → ((at : ℕ) → moving at ≡ (if slot == at then m else count_in (sum_in sums part).moving at)) →
        sent_in sums' + count_in (sum_in sums part).moving slot ≡ sent_in sums + m
    sent_set slot m within sets =
        omega (
          arith,
          sent_is sums,
          sent_is sums',
          sum.resets.weighs moved_in,
          weight_at-moved part (lookup (same_part part) sums),
          weight_at-moved part sum.now,
          moved_set page_size slot m (sum_in sums part).moving (sum_of sum.now).moving (λ at. sum.moving_are at ∙ sets at) within,
        )

    -- none changes
    pub sent_same : ((at : ℕ) → moving at ≡ count_in (sum_in sums part).moving at) → sent_in sums' ≡ sent_in sums
    sent_same same =
        omega (
          arith,
          sent_is sums,
          sent_is sums',
          sum.resets.weighs moved_in,
          weight_at-moved part (lookup (same_part part) sums),
          weight_at-moved part sum.now,
          moved_alike page_size (sum_in sums part).moving (sum_of sum.now).moving (λ at. sum.moving_are at ∙ same at),
        )

-- how many of a kind are open
pub total_is : {newest : ℕ} {rows : Pages} {sums : Sums} (limit places : ℕ) → Agrees newest rows sums → (b : BufferName) (s : Strength) →
    total (seen limit places rows sums) b s ≡ count_in (sum_in sums (part_of (kind_of b s))).totals (slot_of (kind_of b s))
total_is {newest} {rows} {sums} limit places agrees b s =
    omega (
      arith,
      sum_share (kind_of b s) rows,
      moving_is limit places agrees b s,
      agrees.totals (part_of (kind_of b s)) (slot_of (kind_of b s)),
    )

-- ---- tests

-- holds are the same if their pages and cells are
pub is_hold : (hold other : Hold) → same_hold hold other ≡ (same_owner (owner_of hold) (owner_of other) && (slot_of hold.kind == slot_of other.kind))
is_hold hold other =
    (λ i. same_hold (sym (hold_whole hold) i) (sym (hold_whole other) i))
    ∙ hold_law (owner_of hold) (owner_of other) (slot_of hold.kind) (slot_of other.kind) (slot_within hold.kind) (slot_within other.kind)

pub is_kind : (kind other : HandleKind) → same_handle_kind kind other ≡ (same_part (part_of kind) (part_of other) && (slot_of kind == slot_of other))
is_kind kind other =
    (λ i. same_handle_kind (sym (kind_whole kind) i) (sym (kind_whole other) i))
    ∙ kind_law (part_of kind) (part_of other) (slot_of kind) (slot_of other) (slot_within kind) (slot_within other)

-- ---- a cell that is tidied

pub tidied_count : (c : Option ℕ) → unwrap_or (tidied c) 0 ≡ unwrap_or c 0
tidied_count None = refl
tidied_count (Some n) = by (n == 0) refl
  where
    by : (t : Bool) → (n == 0) ≡ t → unwrap_or (if t then None else Some n) 0 ≡ n
    by true e = sym (eqb-true n 0 e)
    by false e = refl

tidied_room : (c : Option ℕ) → is_some (tidied c) ≡ nat_lt 0 (unwrap_or c 0)
tidied_room None = refl
tidied_room (Some n) = by (n == 0) refl
  where
    by : (t : Bool) → (n == 0) ≡ t → is_some (if t then None else Some n) ≡ nat_lt 0 n
    by true e = ap (nat_lt 0) (sym (eqb-true n 0 e))
    by false e = let some = eqb-false n 0 e in sym (lt-ltb 0 n (omega arith))

-- ---- one count of a client changes, and those of its kind

module _ {newest newest' : ℕ} {rows rows' : Pages} {sums sums' : Sums} (before : Agrees newest rows sums)
    (after : Agrees newest' rows' sums') (client : ℕ) (buffer : BufferName) (strength : Strength) (limit places : ℕ) where
  -- the cell of these handles
  abbrev here : Owner → ℕ → Bool
  here owner at = same_owner (owner_of (hold_of client buffer strength)) owner && (slot_of (kind_of buffer strength) == at)

  -- the count of their kind
  abbrev there : Part → ℕ → Bool
  there part at = same_part (part_of (kind_of buffer strength)) part && (slot_of (kind_of buffer strength) == at)

  module _ (row : Option ℕ)
      (cells_are : (owner : Owner) (at : ℕ) →
      cell_at (page_in rows' owner) at ≡ cond (here owner at) row (cell_at (page_in rows owner) at)) where
    row_after : (other : Hold) →
        row_at (rows_in rows') other ≡ cond (same_hold (hold_of client buffer strength) other) row (row_at (rows_in rows) other)
    row_after other =
        row_is after other
        ∙ cells_are (owner_of other) (slot_of other.kind)
        ∙ ap (λ b. cond b row (cell_at (page_in rows (owner_of other)) (slot_of other.kind)))
        (sym (is_hold (hold_of client buffer strength) other))
        ∙ ap (cond (same_hold (hold_of client buffer strength) other) row) (sym (row_is before other))

    of_after : (c : ℕ) (b : BufferName) (s : Strength) → of (seen limit places rows' sums') c b s
        ≡ cond (same_hold (hold_of client buffer strength) (hold_of c b s)) (unwrap_or row 0) (of (seen limit places rows sums) c b s)
    of_after c b s =
        ap (λ o. unwrap_or o 0) (row_after (hold_of c b s)) ∙ inside (same_hold (hold_of client buffer strength) (hold_of c b s))
      where
        inside : (t : Bool) → unwrap_or (cond t row (row_at (rows_in rows) (hold_of c b s))) 0 ≡ cond t (unwrap_or row 0)
            (of (seen limit places rows sums) c b s)
        inside true = refl
        inside false = refl

    room_after : (c : ℕ) (b : BufferName) (s : Strength) → has_handle_room (seen limit places rows' sums') c b s
        ≡ cond (same_hold (hold_of client buffer strength) (hold_of c b s)) (is_some row)
        (has_handle_room (seen limit places rows sums) c b s)
    room_after c b s =
        ap is_some (row_after (hold_of c b s)) ∙ inside (same_hold (hold_of client buffer strength) (hold_of c b s))
      where
        inside : (t : Bool) → is_some (cond t row (row_at (rows_in rows) (hold_of c b s))) ≡ cond t (is_some row)
            (has_handle_room (seen limit places rows sums) c b s)
        inside true = refl
        inside false = refl

  -- a count of nothing is tidied, and no other changes
  pub tidies_seen : ((owner : Owner) (at : ℕ) → cell_at (page_in rows' owner) at ≡ cond (here owner at)
      (tidied (cell_at (page_in rows (owner_of (hold_of client buffer strength))) (slot_of (kind_of buffer strength))))
      (cell_at (page_in rows owner) at))
      → ((part : Part) (at : ℕ) → count_in (sum_in sums' part).moving at ≡ count_in (sum_in sums part).moving at)
      → ((part : Part) (at : ℕ) → count_in (sum_in sums' part).totals at ≡ count_in (sum_in sums part).totals at)
      → sent_in sums' ≡ sent_in sums →
      Tidies (seen limit places rows sums) (seen limit places rows' sums') client buffer strength
  tidies_seen cells_are moving_are totals_are sent_are = record {
    limit = refl;
    counts = λ c b s.
        of_after (tidied (cell_at (page_in rows (owner_of (hold_of client buffer strength))) (slot_of (kind_of buffer strength)))) cells_are c b s
        ∙ same_count c b s (same_hold (hold_of client buffer strength) (hold_of c b s)) refl;
    parcels = λ b s.
        moving_is limit places after b s
        ∙ moving_are (part_of (kind_of b s)) (slot_of (kind_of b s))
        ∙ sym (moving_is limit places before b s);
    totals = λ b s.
        total_is limit places after b s
        ∙ totals_are (part_of (kind_of b s)) (slot_of (kind_of b s))
        ∙ sym (total_is limit places before b s);
    sent = sent_are;
    places = refl;
    rooms = λ c b s.
        room_after (tidied (cell_at (page_in rows (owner_of (hold_of client buffer strength))) (slot_of (kind_of buffer strength)))) cells_are c b s
        ∙ left c b s (same_hold (hold_of client buffer strength) (hold_of c b s)) refl;
  }
    where
      here_is : (c : ℕ) (b : BufferName) (s : Strength) → same_hold (hold_of client buffer strength) (hold_of c b s) ≡ true →
          of (seen limit places rows sums) c b s ≡ unwrap_or (cell_at (page_in rows (owner_of (hold_of client buffer strength))) (slot_of (kind_of buffer strength))) 0
      here_is c b s e =
          ap (λ h. of (seen limit places rows sums) h.client h.kind.buffer h.kind.strength)
          (sym (same_hold-one (hold_of client buffer strength) (hold_of c b s) e))
          ∙ ap (λ o. unwrap_or o 0) (row_is before (hold_of client buffer strength))

      same_count : (c : ℕ) (b : BufferName) (s : Strength) (t : Bool) → same_hold (hold_of client buffer strength) (hold_of c b s) ≡ t →
          cond t (unwrap_or (tidied (cell_at (page_in rows (owner_of (hold_of client buffer strength))) (slot_of (kind_of buffer strength)))) 0) (of (seen limit places rows sums) c b s) ≡ of (seen limit places rows sums) c b s
      same_count c b s true e = tidied_count (cell_at (page_in rows (owner_of (hold_of client buffer strength))) (slot_of (kind_of buffer strength))) ∙ sym (here_is c b s e)
      same_count c b s false e = refl

      left : (c : ℕ) (b : BufferName) (s : Strength) (t : Bool) → same_hold (hold_of client buffer strength) (hold_of c b s) ≡ t →
          cond t (is_some (tidied (cell_at (page_in rows (owner_of (hold_of client buffer strength))) (slot_of (kind_of buffer strength))))) (has_handle_room (seen limit places rows sums) c b s) ≡ cond t
          (nat_lt 0 (of (seen limit places rows sums) c b s)) (has_handle_room (seen limit places rows sums) c b s)
      left c b s true e = tidied_room (cell_at (page_in rows (owner_of (hold_of client buffer strength))) (slot_of (kind_of buffer strength))) ∙ ap (nat_lt 0) (sym (here_is c b s e))
      left c b s false e = refl

  -- the client's count, that of those in parcels and that of all are set
  pub sets_seen : (places' held in_parcels in_all : ℕ)
      → ((owner : Owner) (at : ℕ) → cell_at (page_in rows' owner) at ≡ cond (here owner at) (Some held) (cell_at (page_in rows owner) at))
      → ((part : Part) (at : ℕ) → count_in (sum_in sums' part).moving at ≡ cond (there part at) in_parcels
      (count_in (sum_in sums part).moving at))
      → ((part : Part) (at : ℕ) → count_in (sum_in sums' part).totals at ≡ cond (there part at) in_all
      (count_in (sum_in sums part).totals at))
      → sent_in sums' + count_in (sum_in sums (part_of (kind_of buffer strength))).moving (slot_of (kind_of buffer strength)) ≡ sent_in sums
      + in_parcels →
      Sets (seen limit places rows sums) (seen limit places' rows' sums') client buffer strength held in_parcels in_all
  sets_seen places' held in_parcels in_all cells_are moving_are totals_are sent_are = record {
    limit = refl;
    counts = of_after (Some held) cells_are;
    parcels = λ b s.
        moving_is limit places after b s
        ∙ moving_are (part_of (kind_of b s)) (slot_of (kind_of b s))
        ∙ (λ i. cond (sym (is_kind (kind_of buffer strength) (kind_of b s)) i) in_parcels
        (sym (moving_is limit places before b s) i));
    totals = λ b s.
        total_is limit places after b s
        ∙ totals_are (part_of (kind_of b s)) (slot_of (kind_of b s))
        ∙ (λ i. cond (sym (is_kind (kind_of buffer strength) (kind_of b s)) i) in_all (sym (total_is limit places before b s) i));
    sent = omega (arith, sent_are, moving_is limit places before buffer strength);
    rooms = λ c b s.
        room_after (Some held) cells_are c b s
        ∙ gains (same_hold (hold_of client buffer strength) (hold_of c b s)) (has_handle_room (seen limit places rows sums) c b s);
  }
    where
      gains : (t had : Bool) → cond t true had ≡ (t || had)
      gains true had = refl
      gains false had = refl
