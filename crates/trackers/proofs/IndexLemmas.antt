-- The index: what a sweep needs of it, and what it leaves.
use Rattle.trackers.proofs.Common.{AllByRecursion, Bool, IsIndexed, List, None, Over, RowState, Some, TrackerRow, WaitIndex, Waiter}
use Rattle.trackers.proofs.Common.{Waiting, Waits, World, [], ap, append-nil, arith, cond, cons_option, due_id, false, filter}
use Rattle.trackers.proofs.Common.{filter-append, filter_map, holds, ids_of, if◌then◌else◌, is_due, is_waiter_due, length, length-map}
use Rattle.trackers.proofs.Common.{length_push, map, map_push, nat_tests, not, refl, still_waiting, sym, take, trackers_in, true}
use Rattle.trackers.proofs.Common.{waiters_of, waiting_of_row, ℕ, ◌++◌, ◌-◌, ◌==◌, ◌∙◌, ◌∷◌, ◌≡◌, ◌≢◌, ◌≤◌}
use Rattle.std.specs.List.{take-map}
use Rattle.std.proofs.lemmas.List.{take-append-le, take_all}
use Rattle.trackers.specs.WaitIndex.{is_under}
use Rattle.trackers.proofs.Walks.{row_of}

-- ---- one tracker more or less

-- without the last of a list
front : {X : Type 0} (xs : List X) (x : X) → take (length (xs ++ x ∷ []) - 1) (xs ++ x ∷ []) ≡ xs
front xs x =
    let short : length (xs ++ x ∷ []) - 1 ≡ length xs = omega (arith, length_push xs x) in
    ap (λ n. take n (xs ++ x ∷ [])) short ∙ take-append-le (length xs) xs (x ∷ []) (omega arith) ∙ take_all (length xs) xs (omega arith)

module _ (old new : WaitIndex) (unfired : List Waiting) (t : Waiting) where
  -- what one more makes of those under a collection
  under_push : (c : ℕ) → filter (is_under c) (unfired ++ t ∷ []) ≡ filter (is_under c) unfired ++ cond (c == t.collection) (t ∷ []) []
  under_push c = filter-append (is_under c) unfired (t ∷ [])

  -- one more that was put behind those under its collection
  pub indexed_push : (hint : ℕ) → IsIndexed unfired old →
      ((c : ℕ) → waiters_of new c ≡ (if c == t.collection then waiters_of old c ++ record { tracker = t; hint = hint } ∷ [] else waiters_of
      old c)) → IsIndexed (unfired ++ t ∷ []) new
  indexed_push hint indexed put = record {
    at = λ c. ap trackers_in (put c) ∙ (elim (c == t.collection) as (λ b.
        trackers_in (if b then waiters_of old c ++ record { tracker = t; hint = hint } ∷ [] else waiters_of old c)
        ≡ filter (is_under c) unfired ++ cond b (t ∷ []) []) [
          | true ↦ map_push (λ (x : Waiter). x.tracker) (waiters_of old c) (record { tracker = t; hint = hint })
              ∙ ap (λ l. l ++ t ∷ []) (indexed.at c)
          | false ↦ indexed.at c ∙ sym (append-nil (filter (is_under c) unfired))
        ]) ∙ sym (under_push c);
  }

  -- one less that was the last under its collection
  pub indexed_pop : IsIndexed (unfired ++ t ∷ []) old →
      ((c : ℕ) → waiters_of new c ≡ (if c == t.collection then take (length (waiters_of old c) - 1) (waiters_of old c) else waiters_of old
      c)) → IsIndexed unfired new
  indexed_pop indexed popped = record {
    at = λ c. ap trackers_in (popped c) ∙ (elim (c == t.collection) as (λ b.
        trackers_in (waiters_of old c) ≡ filter (is_under c) unfired ++ cond b (t ∷ []) [] →
        trackers_in (if b then take (length (waiters_of old c) - 1) (waiters_of old c) else waiters_of old c)
        ≡ filter (is_under c) unfired) [
          | true ↦ λ all.
              let long : length (waiters_of old c) ≡ length (filter (is_under c) unfired ++ t ∷ []) =
              omega (arith, ap length all, length-map (waiters_of old c) (λ (x : Waiter). x.tracker)) in
              sym (take-map (λ (x : Waiter). x.tracker) (length (waiters_of old c) - 1) (waiters_of old c))
              ∙ (λ i. take (long i - 1) (all i)) ∙ front (filter (is_under c) unfired) t
          | false ↦ λ all. all ∙ append-nil (filter (is_under c) unfired)
        ]) (indexed.at c ∙ under_push c);
  }

-- ---- what is due

-- a test of the trackers of waiters
pub tested : (p : Waiting → Bool) (xs : List Waiter) → trackers_in (filter (λ (x : Waiter). p x.tracker) xs) ≡ filter p (trackers_in xs)
tested p [] = refl
tested p (x ∷ xs) =
    elim (p x.tracker) as (λ b. trackers_in (cond b (x ∷ filter (λ (y : Waiter). p y.tracker) xs) (filter (λ (y : Waiter). p y.tracker) xs))
    ≡ cond b (x.tracker ∷ filter p (trackers_in xs)) (filter p (trackers_in xs))) [
      | true ↦ ap (λ l. x.tracker ∷ l) (tested p xs)
      | false ↦ tested p xs
    ]

-- where none passes a test all fail it
pub none_passes : (p : Waiter → Bool) (xs : List Waiter) → filter p xs ≡ [] → xs ≡ filter (λ x. not (p x)) xs
none_passes p [] none = refl
none_passes p (x ∷ xs) none =
    elim (p x) as (λ b. cond b (x ∷ filter p xs) (filter p xs) ≡ [] → x ∷ xs ≡ cond (not b) (x ∷ filter (λ y. not (p y)) xs)
    (filter (λ y. not (p y)) xs)) [
      | true ↦ λ bad. absurd (cc)
      | false ↦ λ rest. ap (λ l. x ∷ l) (none_passes p xs rest)
    ] none

-- the ids of trackers of waiters
pub ids_in : (xs : List Waiter) → ids_of xs ≡ map (λ (t : Waiting). t.id) (trackers_in xs)
ids_in [] = refl
ids_in (x ∷ xs) = ap (λ l. x.tracker.id ∷ l) (ids_in xs)

-- a test that fails tells two numbers apart
apart : (m n : ℕ) → (m == n) ≡ false → n ≢ m
apart m n failed same = grind (arith, nat_tests)

module _ (w : World) (place : ℕ) where
  -- what is not indexed under the place is not due
  abbrev pub Elsewhere : Waiting → Type 0
  Elsewhere t = t.collection ≢ place → is_due w t ≡ false

  -- so what is due is due under the place
  due_under : (ts : List Waiting) → AllByRecursion Elsewhere ts → filter (is_due w) (filter (is_under place) ts) ≡ filter (is_due w) ts
  due_under [] all = refl
  due_under (t ∷ ts) all =
      elim (place == t.collection) as (λ b. (place == t.collection) ≡ b →
      filter (is_due w) (cond b (t ∷ filter (is_under place) ts) (filter (is_under place) ts)) ≡ filter (is_due w) (t ∷ ts)) [
        | true ↦ λ same. ap (λ l. cond (is_due w t) (t ∷ l) l) (due_under ts all.1)
        | false ↦ λ other. due_under ts all.1
            ∙ ap (λ b. cond b (t ∷ filter (is_due w) ts) (filter (is_due w) ts)) (sym (all.0 (apart place t.collection other)))
      ] refl

  -- and of what is not due, that under a collection was there before: all of it, but under the place
  under_still : (c : ℕ) (ts : List Waiting) → AllByRecursion Elsewhere ts → filter (is_under c) (still_waiting w ts) ≡
      (if c == place then filter (λ t. not (is_due w t)) (filter (is_under c) ts) else filter (is_under c) ts)
  under_still c [] all = elim (c == place) as (λ b. ◌≡◌ {A = List Waiting} [] (if b then [] else [])) [ true ↦ refl | false ↦ refl ]
  under_still c (t ∷ ts) all = from (c == place) (c == t.collection) (is_due w t) refl refl refl (under_still c ts all.1)
    where
      still : List Waiting
      still = filter (is_under c) (still_waiting w ts)

      under : List Waiting
      under = filter (is_under c) ts

      kept : List Waiting → List Waiting
      kept l = filter (λ x. not (is_due w x)) l

      -- by cases: one that is due is under the place, so that it is not under another
      from : (here there due : Bool) → (c == place) ≡ here → (c == t.collection) ≡ there → is_due w t ≡ due →
          still ≡ (if here then kept under else under) →
          filter (is_under c) (cond (not due) (t ∷ still_waiting w ts) (still_waiting w ts))
          ≡ (if here then kept (cond there (t ∷ under) under) else cond there (t ∷ under) under)
      from true true true e f d more = rw d more
      from true true false e f d more = rw (d, f) (ap (λ l. t ∷ l) more)
      from true false true e f d more = more
      from true false false e f d more = rw f more
      from false true true e f d more = absurd (let no : is_due w t ≡ false = all.0 (λ is. grind (arith, nat_tests, e, f, is)) in cc)
      from false true false e f d more = rw f (ap (λ l. t ∷ l) more)
      from false false true e f d more = more
      from false false false e f d more = rw f more

  module _ (unfired : List Waiting) (all : AllByRecursion Elsewhere unfired) (old : WaitIndex) (indexed : IsIndexed unfired old) where
    -- what is due in the index is what is due
    pub due_found : trackers_in (filter (is_waiter_due w) (waiters_of old place)) ≡ filter (is_due w) unfired
    due_found = tested (is_due w) (waiters_of old place) ∙ ap (filter (is_due w)) (indexed.at place) ∙ due_under unfired all

    -- so there is room for it
    pub due_fit : length (filter (is_waiter_due w) (waiters_of old place)) ≤ length unfired
    due_fit =
        omega (
          arith,
          ap length due_found,
          length-map (filter (is_waiter_due w) (waiters_of old place)) (λ (x : Waiter). x.tracker),
          fewer unfired,
        )
      where
        fewer : (ts : List Waiting) → length (filter (is_due w) ts) ≤ length ts
        fewer [] = omega arith
        fewer (t ∷ ts) = elim (is_due w t) as (λ b. length (cond b (t ∷ filter (is_due w) ts) (filter (is_due w) ts)) ≤ length (t ∷ ts)) [
          | true ↦ omega (arith, fewer ts)
          | false ↦ omega (arith, fewer ts)
        ]

    -- and what is not due stays in the index
    pub indexed_dropped : (new : WaitIndex) → ((c : ℕ) → waiters_of new c ≡ (if c == place
        then filter (λ waiter. not (is_waiter_due w waiter)) (waiters_of old c) else waiters_of old c)) →
        IsIndexed (still_waiting w unfired) new
    indexed_dropped new dropped = record {
      at = λ c. ap trackers_in (dropped c) ∙ (elim (c == place) as (λ b.
          trackers_in (if b then filter (λ waiter. not (is_waiter_due w waiter)) (waiters_of old c) else waiters_of old c)
          ≡ (if b then filter (λ t. not (is_due w t)) (filter (is_under c) unfired) else filter (is_under c) unfired)) [
            | true ↦ tested (λ t. not (is_due w t)) (waiters_of old c) ∙ ap (filter (λ t. not (is_due w t))) (indexed.at c)
            | false ↦ indexed.at c
          ]) ∙ sym (under_still c unfired all);
    }

-- ---- the rows that are due

-- their ids are those of what is due
pub due_rows : (w : World) (rows : List TrackerRow) →
    map (λ (t : Waiting). t.id) (filter (is_due w) (filter_map waiting_of_row rows)) ≡ filter_map (due_id w) rows
due_rows w [] = refl
due_rows w (row ∷ rows) = at row.id row.cell row.state row.has_reader (due_rows w rows)
  where
    ids : List Waiting → List ℕ
    ids ts = map (λ (t : Waiting). t.id) (filter (is_due w) ts)

    -- by cases: a tracker that is over is in neither list
    at : (id cell : ℕ) (state : RowState) (has : Bool) → ids (filter_map waiting_of_row rows) ≡ filter_map (due_id w) rows →
        ids (cons_option (waiting_of_row (row_of id cell state has)) (filter_map waiting_of_row rows)) ≡ cons_option
        (due_id w (row_of id cell state has)) (filter_map (due_id w) rows)
    at id cell (Over event) has more = more
    at id cell (Waits p c) has more =
        let t : Waiting = record { id = id; collection = p; condition = c } in
        let ts : List Waiting = filter (is_due w) (filter_map waiting_of_row rows) in
        elim (holds w c) as (λ b. map (λ (x : Waiting). x.id) (cond b (t ∷ ts) ts) ≡ cons_option (if b then Some id else None)
        (filter_map (due_id w) rows)) [ true ↦ ap (λ l. id ∷ l) more | false ↦ more ]
