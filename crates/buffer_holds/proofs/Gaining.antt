-- Handles that are opened in the cells of one page.
use Rattle.buffer_holds.proofs.Common.{Agrees, AreUpTo, Bool, BufferName, Counts, Gains, HasRoomIn, IsAlike, IsSome, List, None, Option}
use Rattle.buffer_holds.proofs.Common.{Owner, PageBecomes, Pages, Part, Sets, Some, Strength, SumBecomes, Sums, ap, arith, cell_at, cond}
use Rattle.buffer_holds.proofs.Common.{count_in, false, false≢true, has_handle_room, hold_of, if◌then◌else◌, is_in, is_some, kind_at}
use Rattle.buffer_holds.proofs.Common.{kind_of, lookup, moving_count, of, one_page, owner_of, page_in, page_of, part_of, raised, refl}
use Rattle.buffer_holds.proofs.Common.{row_at, rows_in, same_handle_kind, same_hold, same_owner, same_part, slot_of, subst, sum_in, sym}
use Rattle.buffer_holds.proofs.Common.{total, true, unwrap_or, ℕ, ◌&&◌, ◌+◌, ◌<◌, ◌==◌, ◌||◌, ◌∙◌, ◌≡◌}
use Rattle.buffer_holds.proofs.KindLemmas.{same_hold-one, same_kind-one}
use Rattle.buffer_holds.proofs.PageNames.{part_law, same_owner-one, same_part-one, same_part-refl, slot_law}
use Rattle.buffer_holds.proofs.Runs.{is_one, one_if, raised_count}
use Rattle.buffer_holds.proofs.Seen.{is_hold, is_kind, moving_is, row_is, seen, sent_in, sent_same, total_is}
use Rattle.buffer_holds.proofs.Sound.{agrees_after, cells_after, moving_after, page-has-sum, sum-is-known, totals_after}

module _ {newest newest' : ℕ} {rows rows' : Pages} {sums sums' : Sums} (before : Agrees newest rows sums)
    (after : Agrees newest' rows' sums') (owner : Owner) (first set : ℕ) where
  pub gained_seen : (limit places : ℕ) → ((other : Owner) (at : ℕ) →
      cell_at (page_in rows' other) at ≡ cond (same_owner owner other) (raised (page_in rows owner) first set at)
      (cell_at (page_in rows other) at))
      → ((part : Part) (at : ℕ) → count_in (sum_in sums' part).totals at ≡ cond (same_part owner.part part)
      (count_in (sum_in sums owner.part).totals at + one_if (is_in first set at)) (count_in (sum_in sums part).totals at))
      → ((part : Part) (at : ℕ) → count_in (sum_in sums' part).moving at ≡ count_in (sum_in sums part).moving at)
      → sent_in sums' ≡ sent_in sums →
      Gains (seen limit places rows sums) (seen limit places rows' sums') owner first set
  gained_seen limit places cells_are totals_are moving_are sent_are = record {
    limit = refl;
    places = refl;
    counts = λ c b s. ap (λ o. unwrap_or o 0) (row_after c b s)
        ∙ more (same_owner owner (owner_of (hold_of c b s)) && is_in first set (slot_of (kind_of b s)))
        (row_at (rows_in rows) (hold_of c b s));
    parcels = λ b s.
        moving_is limit places after b s
        ∙ moving_are (part_of (kind_of b s)) (slot_of (kind_of b s))
        ∙ sym (moving_is limit places before b s);
    totals = λ b s.
        omega (
          arith,
          totals_are (part_of (kind_of b s)) (slot_of (kind_of b s))
              ∙ by_part (part_of (kind_of b s)) (slot_of (kind_of b s)) (same_part owner.part (part_of (kind_of b s))) refl,
          total_is limit places after b s,
          total_is limit places before b s,
        );
    sent = sent_are;
    rooms = λ c b s. ap is_some (row_after c b s)
        ∙ room (same_owner owner (owner_of (hold_of c b s)) && is_in first set (slot_of (kind_of b s)))
        (row_at (rows_in rows) (hold_of c b s));
  }
    where
      by_owner : (other : Owner) (at : ℕ) (t : Bool) → same_owner owner other ≡ t →
          cond t (raised (page_in rows owner) first set at) (cell_at (page_in rows other) at) ≡ cond (t && is_in first set at)
          (Some (count_in (page_in rows other) at + 1)) (cell_at (page_in rows other) at)
      by_owner other at true e = ap (λ o. raised (page_in rows o) first set at) (same_owner-one owner other e)
      by_owner other at false e = refl

      row_after : (c : ℕ) (b : BufferName) (s : Strength) → row_at (rows_in rows') (hold_of c b s)
          ≡ cond (same_owner owner (owner_of (hold_of c b s)) && is_in first set (slot_of (kind_of b s)))
          (Some (unwrap_or (row_at (rows_in rows) (hold_of c b s)) 0 + 1)) (row_at (rows_in rows) (hold_of c b s))
      row_after c b s =
          row_is after (hold_of c b s)
          ∙ cells_are (owner_of (hold_of c b s)) (slot_of (kind_of b s))
          ∙ by_owner (owner_of (hold_of c b s)) (slot_of (kind_of b s)) (same_owner owner (owner_of (hold_of c b s))) refl
          ∙ ap (λ o. cond (same_owner owner (owner_of (hold_of c b s)) && is_in first set (slot_of (kind_of b s)))
          (Some (unwrap_or o 0 + 1)) o) (sym (row_is before (hold_of c b s)))

      more : (t : Bool) (o : Option ℕ) → unwrap_or (cond t (Some (unwrap_or o 0 + 1)) o) 0 ≡ unwrap_or o 0 + one_if t
      more true o = refl
      more false o = omega arith

      room : (t : Bool) (o : Option ℕ) → is_some (cond t (Some (unwrap_or o 0 + 1)) o) ≡ (t || is_some o)
      room true o = refl
      room false o = refl

      by_part : (part : Part) (at : ℕ) (t : Bool) → same_part owner.part part ≡ t →
          cond t (count_in (sum_in sums owner.part).totals at + one_if (is_in first set at)) (count_in (sum_in sums part).totals at)
          ≡ count_in (sum_in sums part).totals at + one_if (t && is_in first set at)
      by_part part at true e =
          ap (λ p. count_in (sum_in sums p).totals at + one_if (is_in first set at)) (same_part-one owner.part part e)
      by_part part at false e = omega arith

-- where one cell alone is one more, so is one count
pub sets_gained : (old new : Counts) (client : ℕ) (buffer : BufferName) (strength : Strength) →
    Gains old new (owner_of (hold_of client buffer strength)) (slot_of (kind_of buffer strength)) 1 →
    Sets old new client buffer strength (of old client buffer strength + 1) (moving_count old buffer strength)
    (total old buffer strength + 1)
sets_gained old new client buffer strength gains = record {
  limit = gains.limit;
  counts = λ c b s.
      gains.counts c b s ∙ ap (λ t. of old c b s + one_if t) (in_page c b s)
      ∙ count c b s (same_hold (hold_of client buffer strength) (hold_of c b s)) refl;
  parcels = λ b s. gains.parcels b s ∙ parcel b s (same_handle_kind (kind_of buffer strength) (kind_of b s)) refl;
  totals = λ b s.
      gains.totals b s ∙ ap (λ t. total old b s + one_if t) (in_part b s)
      ∙ all b s (same_handle_kind (kind_of buffer strength) (kind_of b s)) refl;
  sent = ap (λ n. n + moving_count old buffer strength) gains.sent;
  rooms = λ c b s. gains.rooms c b s ∙ ap (λ t. t || has_handle_room old c b s) (in_page c b s);
}
  where
    in_page : (c : ℕ) (b : BufferName) (s : Strength) →
        (same_owner (owner_of (hold_of client buffer strength)) (owner_of (hold_of c b s)) && is_in (slot_of (kind_of buffer strength)) 1
        (slot_of (kind_of b s))) ≡ same_hold (hold_of client buffer strength) (hold_of c b s)
    in_page c b s =
        ap (λ t. same_owner (owner_of (hold_of client buffer strength)) (owner_of (hold_of c b s)) && t)
        (is_one (slot_of (kind_of buffer strength)) (slot_of (kind_of b s)))
        ∙ sym (is_hold (hold_of client buffer strength) (hold_of c b s))

    in_part : (b : BufferName) (s : Strength) →
        (same_part (part_of (kind_of buffer strength)) (part_of (kind_of b s)) && is_in (slot_of (kind_of buffer strength)) 1
        (slot_of (kind_of b s))) ≡ same_handle_kind (kind_of buffer strength) (kind_of b s)
    in_part b s =
        ap (λ t. same_part (part_of (kind_of buffer strength)) (part_of (kind_of b s)) && t)
        (is_one (slot_of (kind_of buffer strength)) (slot_of (kind_of b s)))
        ∙ sym (is_kind (kind_of buffer strength) (kind_of b s))

    count : (c : ℕ) (b : BufferName) (s : Strength) (t : Bool) → same_hold (hold_of client buffer strength) (hold_of c b s) ≡ t →
        of old c b s + one_if t ≡ cond t (of old client buffer strength + 1) (of old c b s)
    count c b s true e =
        ap (λ h. of old h.client h.kind.buffer h.kind.strength + 1)
        (sym (same_hold-one (hold_of client buffer strength) (hold_of c b s) e))
    count c b s false e = omega arith

    parcel : (b : BufferName) (s : Strength) (t : Bool) → same_handle_kind (kind_of buffer strength) (kind_of b s) ≡ t →
        moving_count old b s ≡ cond t (moving_count old buffer strength) (moving_count old b s)
    parcel b s true e =
        ap (λ k. moving_count old k.buffer k.strength) (sym (same_kind-one (kind_of buffer strength) (kind_of b s) e))
    parcel b s false e = refl

    all : (b : BufferName) (s : Strength) (t : Bool) → same_handle_kind (kind_of buffer strength) (kind_of b s) ≡ t →
        total old b s + one_if t ≡ cond t (total old buffer strength + 1) (total old b s)
    all b s true e =
        ap (λ k. total old k.buffer k.strength + 1) (sym (same_kind-one (kind_of buffer strength) (kind_of b s) e))
    all b s false e = omega arith

-- a cell of a set has fewer than may be, where its kind has
pub fewer_in : {newest : ℕ} {rows : Pages} {sums : Sums} (limit places : ℕ) (agrees : Agrees newest rows sums) {old : Counts}
    (view : seen limit places rows sums ≡ old) (owner : Owner) (first set : ℕ) → HasRoomIn old owner first set → (at : ℕ) → at < 128 →
    is_in first set at ≡ true → count_in (sum_in sums owner.part).totals at < limit
fewer_in {newest} {rows} {sums} limit places agrees view owner first set fewer at small is =
    let kind = kind_at owner.part at in
    let part = part_law owner.part at in
    let slot = slot_law owner.part at small in
    let less = fewer kind.buffer kind.strength (ap (same_part owner.part) part ∙ same_part-refl owner.part)
    (ap (is_in first set) slot ∙ is) in
    let same : count_in (sum_in sums (part_of kind)).totals (slot_of kind) ≡ count_in (sum_in sums owner.part).totals at =
    λ i. count_in (sum_in sums (part i)).totals (slot i) in
    omega (
      arith,
      less,
      ap (λ (counts : Counts). counts.limit) view,
      ap (λ counts. total counts kind.buffer kind.strength) view,
      total_is limit places agrees kind.buffer kind.strength,
      same,
    )

-- the cells of a set are raised in a page and in the sum of its part, which may have been made before
module _ {newest newest' : ℕ} {rows rows1 rows' : Pages} {sums sums1 sums' : Sums} (agreed : Agrees newest rows sums)
    (alike : IsAlike rows rows1 sums sums1) (agrees : Agrees newest' rows1 sums1) (owner : Owner) (first set : ℕ)
    (row : PageBecomes rows1 rows' owner true (raised (page_in rows1 owner) first set))
    (sum : SumBecomes sums1 sums' owner.part (sum_in sums1 owner.part).clients
    (λ at. count_in (sum_in sums1 owner.part).totals at + (if is_in first set at then 1 else 0))
    (count_in (sum_in sums1 owner.part).moving)) where
  pub agrees_gained : IsSome (lookup (same_owner owner) rows1) → Agrees newest' rows' sums'
  agrees_gained some =
      agrees_after owner row sum newest' agrees
      (λ at. omega (arith, raised_count (page_in rows1 owner) first set at)) (omega (arith, ap one_page some)) (omega arith)
      (sum-is-known agrees owner.part (page-has-sum agrees owner some))

  pub gains_after : (limit places : ℕ) (old : Counts) → seen limit places rows sums ≡ old → Agrees newest' rows' sums' →
      Gains old (seen limit places rows' sums') owner first set
  gains_after limit places old view after =
      subst (λ counts. Gains counts (seen limit places rows' sums') owner first set) view
      (gained_seen agreed after owner first set limit places
      (λ other at. cells_after owner row sum other at
      ∙ (λ i. cond (same_owner owner other)
      (if is_in first set at then Some (unwrap_or (alike.cells owner at i) 0 + 1) else alike.cells owner at i) (alike.cells other at i)))
      (λ part at. totals_after owner row sum part at
      ∙ (λ i. cond (same_part owner.part part) (alike.totals owner.part at i + one_if (is_in first set at)) (alike.totals part at i)))
      (λ part at. moving_after owner row sum part at ∙ by part at (same_part owner.part part) refl ∙ alike.moving part at)
      (sent_same sum (λ at. refl) ∙ alike.sent))
    where
      by : (part : Part) (at : ℕ) (t : Bool) → same_part owner.part part ≡ t →
          cond t (count_in (sum_in sums1 owner.part).moving at) (count_in (sum_in sums1 part).moving at) ≡ count_in
          (sum_in sums1 part).moving at
      by part at true e = ap (λ p. count_in (sum_in sums1 p).moving at) (same_part-one owner.part part e)
      by part at false e = refl

-- the same pages and sums are seen as the same counts
pub same_seen : {rows rows' : Pages} {sums sums' : Sums} (limit places : ℕ) → rows' ≡ rows → sums' ≡ sums →
    seen limit places rows' sums' ≡ seen limit places rows sums
same_seen limit places same_rows same_sums = λ i. seen limit places (same_rows i) (same_sums i)

-- an owner with room for a handle has a page
pub room_has_page : {newest : ℕ} {rows : Pages} {sums : Sums} (limit places : ℕ) (agrees : Agrees newest rows sums) {old : Counts} →
    seen limit places rows sums ≡ old → (owner : Owner) (b : BufferName) (s : Strength) →
    same_part owner.part (part_of (kind_of b s)) ≡ true → has_handle_room old owner.client b s ≡ true →
    IsSome (lookup (same_owner owner) rows)
room_has_page {newest} {rows} {sums} limit places agrees view owner b s mine room =
    by (lookup (same_owner owner) rows) refl
  where
    whose : owner_of (hold_of owner.client b s) ≡ owner
    whose = λ i. record { client = owner.client; part = sym (same_part-one owner.part (part_of (kind_of b s)) mine) i }

    cell : is_some (cell_at (page_in rows owner) (slot_of (kind_of b s))) ≡ true
    cell =
        ap (λ o. is_some (cell_at (page_in rows o) (slot_of (kind_of b s)))) (sym whose)
        ∙ ap is_some (sym (row_is agrees (hold_of owner.client b s)))
        ∙ ap (λ counts. has_handle_room counts owner.client b s) view ∙ room

    by : (o : Option (List (Option ℕ))) → lookup (same_owner owner) rows ≡ o → IsSome o
    by None e = absurd (false≢true (ap (λ o. is_some (cell_at (page_of o) (slot_of (kind_of b s)))) (sym e) ∙ cell))
    by (Some page) e = refl

-- no more are open where the counts are alike
pub up_to_alike : {rows rows' : Pages} {sums sums' : Sums} (most : ℕ) → IsAlike rows rows' sums sums' → AreUpTo most sums →
    AreUpTo most sums'
up_to_alike most alike was part at = omega (arith, alike.totals part at, was part at)

-- where fewer of a kind are open than may be, one cell has room
pub fewer_one : (old : Counts) (client : ℕ) (buffer : BufferName) (strength : Strength) → total old buffer strength < old.limit →
    HasRoomIn old (owner_of (hold_of client buffer strength)) (slot_of (kind_of buffer strength)) 1
fewer_one old client buffer strength less b s part cell =
    let here : (slot_of (kind_of buffer strength) == slot_of (kind_of b s)) ≡ true =
    sym (is_one (slot_of (kind_of buffer strength)) (slot_of (kind_of b s))) ∙ cell in
    let same : same_handle_kind (kind_of buffer strength) (kind_of b s) ≡ true =
    is_kind (kind_of buffer strength) (kind_of b s) ∙ (λ i. part i && here i) in
    let kind = same_kind-one (kind_of buffer strength) (kind_of b s) same in
    omega (arith, less, ap (λ k. total old k.buffer k.strength) kind)
