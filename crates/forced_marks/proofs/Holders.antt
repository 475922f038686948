-- A buffer is held exactly while a live strong node or an open handle keeps it.
use Rattle.forced_marks.proofs.Common.{Birth, Bool, BufferName, In-any, In-filter, In-reverse, List, Member, None, Some, Strength}
use Rattle.forced_marks.proofs.Common.{Timeline, [], ap, arith, births, both_tests, cond, either_way, false, gone, inl, inr, is_some}
use Rattle.forced_marks.proofs.Common.{is_some-find, length, length-map, list_any, list_any-append, lt-ltb, ltb-false, ltb-true, map}
use Rattle.forced_marks.proofs.Common.{nat_lt, not, or_cases, or_left, or_right, refl, reverse, same_key, same_key-refl, sum_by, sym}
use Rattle.forced_marks.proofs.Common.{true, ℕ, ◌&&◌, ◌++◌, ◌+◌, ◌<◌, ◌||◌, ◌∙◌, ◌∷◌, ◌≡◌, ◌≤◌}
use Rattle.std.proofs.Common.{◌==◌}
use Rattle.std.specs.List.{filter, flat_map}
use Rattle.std.proofs.lemmas.Bool.{eqb-true, eq-eqb}
use Rattle.std.proofs.lemmas.List.Sums.{sum_by-cons}
use Rattle.sm_names.specs.Births.{birth_of}
use Rattle.sm_names.specs.Ends.{clients}
use Rattle.sm_names.specs.Handles.{buffers_of, home, moving, open_of, open_total}
use Rattle.sm_names.specs.Losses.{live, released}
use Rattle.sm_names.specs.Members.{is_live, member, members, some_strong_live}
use Rattle.sm_names.specs.Weakness.{weak}
use Rattle.sm_names.proofs.ListLaws.{In, list_any-map}
use Rattle.sm_names.proofs.SamenessLaws.{false_if}
use Rattle.forced_marks.specs.Explanations.{Holder, holders, keepers, strengths}
use Rattle.core_state.proofs.views.Readings.{any-reverse}

-- ---- lists

-- some item that is let through passes
any_filter : {A : Type 0} (p q : A → Bool) (xs : List A) → list_any p (filter q xs) ≡ list_any (λ x. q x && p x) xs
any_filter p q [] = refl
any_filter p q (x ∷ xs) =
    elim (q x) as (λ (b : Bool). list_any p (cond b (x ∷ filter q xs) (filter q xs)) ≡ ((b && p x) || list_any (λ y. q y && p y) xs)) [
      | true ↦ ap (λ (b : Bool). p x || b) (any_filter p q xs)
      | false ↦ any_filter p q xs
    ]

-- a filtered list has an item if some item passes
some_filter : {A : Type 0} (p : A → Bool) (xs : List A) → nat_lt 0 (length (filter p xs)) ≡ list_any p xs
some_filter p [] = refl
some_filter p (x ∷ xs) =
    elim (p x) as (λ (b : Bool). nat_lt 0 (length (cond b (x ∷ filter p xs) (filter p xs))) ≡ (b || list_any p xs)) [
      | true ↦ lt-ltb 0 (length (x ∷ filter p xs)) (omega arith)
      | false ↦ some_filter p xs
    ]

-- and a list that is mapped as before
some_map : {A B : Type 0} (f : A → B) (xs : List A) → nat_lt 0 (length (map f xs)) ≡ nat_lt 0 (length xs)
some_map f xs = ap (nat_lt 0) (length-map xs f)

-- some item of the lists passes
any_flat : {A B : Type 0} (p : B → Bool) (f : A → List B) (xs : List A) → list_any p (flat_map f xs) ≡ list_any (λ x. list_any p (f x)) xs
any_flat p f [] = refl
any_flat p f (x ∷ xs) = list_any-append p (f x) (flat_map f xs) ∙ ap (λ (b : Bool). list_any p (f x) || b) (any_flat p f xs)

-- the parts of two disjunctions, put together otherwise
regroup : (a b c d : Bool) → ((a || (b || false)) || (c || d)) ≡ ((a || c) || (b || d))
regroup true b c d = refl
regroup false true true d = refl
regroup false true false d = refl
regroup false false true d = refl
regroup false false false d = refl

-- one of two passes on some item if either does
any_either : {A : Type 0} (p q : A → Bool) (xs : List A) → list_any (λ x. p x || (q x || false)) xs ≡ (list_any p xs || list_any q xs)
any_either p q [] = refl
any_either p q (x ∷ xs) =
    ap (λ (b : Bool). (p x || (q x || false)) || b) (any_either p q xs) ∙ regroup (p x) (q x) (list_any p xs) (list_any q xs)

-- a sum is some if one of its two parts is
some_sum : (a b : ℕ) → nat_lt 0 (a + b) ≡ (nat_lt 0 a || nat_lt 0 b)
some_sum a b = both_tests (nat_lt 0 (a + b)) (nat_lt 0 a || nat_lt 0 b)
    (λ h. let sum : 0 < a + b = ltb-true 0 (a + b) h in elim (either_way (nat_lt 0 a)) [
      | inl e ↦ or_left (nat_lt 0 a) (nat_lt 0 b) e
      | inr e ↦ let none : a ≤ 0 = ltb-false 0 a e in or_right (nat_lt 0 a) (nat_lt 0 b) (lt-ltb 0 b (omega arith))
    ])
    (λ h. elim (or_cases (nat_lt 0 a) (nat_lt 0 b) h) [
      | inl e ↦ let some : 0 < a = ltb-true 0 a e in lt-ltb 0 (a + b) (omega arith)
      | inr e ↦ let some : 0 < b = ltb-true 0 b e in lt-ltb 0 (a + b) (omega arith)
    ])

-- or one of its parts
some_sum_by : {A : Type 0} (f : A → ℕ) (xs : List A) → nat_lt 0 (sum_by f xs) ≡ list_any (λ x. nat_lt 0 (f x)) xs
some_sum_by f [] = refl
some_sum_by f (x ∷ xs) =
    ap (nat_lt 0) (sum_by-cons f x xs)
    ∙ (some_sum (f x) (sum_by f xs) ∙ ap (λ (b : Bool). nat_lt 0 (f x) || b) (some_sum_by f xs))

-- what is nothing is not some
none_some : (n : ℕ) → (n == 0) ≡ not (nat_lt 0 n)
none_some n = elim (either_way (nat_lt 0 n)) [
  | inl e ↦
      let some : 0 < n = ltb-true 0 n e in
      rw e (false_if (n == 0) (λ same. let nothing : n ≡ 0 = eqb-true n 0 same in omega arith))
  | inr e ↦ let none : n ≤ 0 = ltb-false 0 n e in rw e (eq-eqb n 0 (omega arith))
]

-- ---- nodes

-- a strong node of the collection is live exactly if it has a keeper
pub some_keeper : (marks : Timeline) (collection : ℕ) →
    nat_lt 0 (length (keepers marks collection)) ≡ some_strong_live (members marks collection)
some_keeper marks collection =
    some_map (λ (b : Birth). b.node) _
    ∙ (some_filter (λ (b : Birth). b.collection == collection && (live marks b.node && not (weak marks b.node))) (reverse (births marks))
    ∙ (any-reverse (λ (b : Birth). b.collection == collection && (live marks b.node && not (weak marks b.node))) (births marks)
    ∙ (sym (any_filter (λ (b : Birth). live marks b.node && not (weak marks b.node))
    (λ (b : Birth). b.collection == collection) (births marks))
    ∙ (sym (any-reverse (λ (b : Birth). live marks b.node && not (weak marks b.node))
    (filter (λ (b : Birth). b.collection == collection) (births marks)))
    ∙ sym (list_any-map (λ (m : Member). is_live m && not m.weak)
    (λ (b : Birth). live marks b.node && not (weak marks b.node)) (member marks)
    (reverse (filter (λ (b : Birth). b.collection == collection) (births marks))) each)))))
  where
    -- since a node of the collection was born, so that it is live unless it is gone or released
    each : (b : Birth) → In b (reverse (filter (λ (b : Birth). b.collection == collection) (births marks))) →
        ((not (gone marks b.node) && not (released marks b.node)) && not (weak marks b.node))
        ≡ (live marks b.node && not (weak marks b.node))
    each b on =
        let there : In b (births marks) = (In-filter (λ (b : Birth). b.collection == collection) (births marks) b (In-reverse _ b on)).0 in
        let born : is_some (birth_of marks b.node) ≡ true =
        is_some-find (λ (x : Birth). same_key x.node b.node) (births marks)
        ∙ In-any (λ (x : Birth). same_key x.node b.node) (births marks) b there (same_key-refl b.node) in
        ap (λ (x : Bool). (x && (not (gone marks b.node) && not (released marks b.node))) && not (weak marks b.node)) (sym born)

-- ---- handles

module _ (marks : Timeline) (buffer : BufferName) where
  -- a client has some handle of this strength
  abbrev clients_have : Strength → Bool
  clients_have strength = list_any (λ client. nat_lt 0 (open_of marks client buffer strength)) (clients marks)

  -- a parcel has one
  abbrev parcels_have : Strength → Bool
  parcels_have strength = nat_lt 0 (moving marks buffer strength)

  -- the handles of one client
  abbrev rows_of : ℕ → List Holder
  rows_of client = map (λ s. record { client = Some client; strength = s; count = open_of marks client buffer s }) strengths

  -- those in parcels
  abbrev parcel_rows : List Holder
  parcel_rows = map (λ s. record { client = None; strength = s; count = moving marks buffer s }) strengths

  -- somebody is told as a holder exactly if a client or a parcel has a handle
  some_holder : nat_lt 0 (length (holders marks buffer))
      ≡ ((clients_have Strength.Strong || clients_have Strength.Weak)
      || (parcels_have Strength.Strong || (parcels_have Strength.Weak || false)))
  some_holder =
      some_filter (λ (h : Holder). nat_lt 0 h.count) (flat_map rows_of (reverse (clients marks)) ++ parcel_rows)
      ∙ (list_any-append (λ (h : Holder). nat_lt 0 h.count) (flat_map rows_of (reverse (clients marks))) parcel_rows
      ∙ ap (λ (b : Bool). b || (parcels_have Strength.Strong || (parcels_have Strength.Weak || false)))
      (any_flat (λ (h : Holder). nat_lt 0 h.count) rows_of (reverse (clients marks))
      ∙ (any-reverse (λ client.
      nat_lt 0 (open_of marks client buffer Strength.Strong) || (nat_lt 0 (open_of marks client buffer Strength.Weak) || false))
      (clients marks)
      ∙ any_either (λ client. nat_lt 0 (open_of marks client buffer Strength.Strong))
      (λ client. nat_lt 0 (open_of marks client buffer Strength.Weak))
      (clients marks))))

  -- handles are open where the clients or the parcels have some
  some_open : (strength : Strength) →
      open_total marks buffer strength
      ≡ sum_by (λ client. open_of marks client buffer strength) (clients marks) + moving marks buffer strength →
      (open_total marks buffer strength == 0) ≡ not (clients_have strength || parcels_have strength)
  some_open strength counted =
      ap (λ (n : ℕ). n == 0) counted
      ∙ (none_some (sum_by (λ client. open_of marks client buffer strength) (clients marks) + moving marks buffer strength)
      ∙ ap not (some_sum (sum_by (λ client. open_of marks client buffer strength) (clients marks)) (moving marks buffer strength)
      ∙ ap (λ (b : Bool). b || parcels_have strength) (some_sum_by (λ client. open_of marks client buffer strength) (clients marks))))

  -- its holder
  kept_by : (live strong strong_moving weak weak_moving : Bool) →
      not ((not (strong || strong_moving) && not live) && not (weak || weak_moving))
      ≡ (live || ((strong || weak) || (strong_moving || (weak_moving || false))))
  kept_by true true m w v = refl
  kept_by false true m w v = refl
  kept_by true false true true v = refl
  kept_by true false true false v = refl
  kept_by false false true true v = refl
  kept_by false false true false v = refl
  kept_by true false false w v = refl
  kept_by false false false true v = refl
  kept_by false false false false true = refl
  kept_by false false false false false = refl

  -- a buffer of an allocated collection is not home exactly if a live strong node or an open handle keeps it
  pub held_by : is_some (buffers_of marks buffer.collection) ≡ true →
      ((strength : Strength) → open_total marks buffer strength
      ≡ sum_by (λ client. open_of marks client buffer strength) (clients marks) + moving marks buffer strength) →
      not (home marks buffer) ≡ (nat_lt 0 (length (keepers marks buffer.collection)) || nat_lt 0 (length (holders marks buffer)))
  held_by given counted =
      (λ i. not ((given i && (some_open Strength.Strong (counted Strength.Strong) i && not (sym (some_keeper marks buffer.collection) i)))
      && some_open Strength.Weak (counted Strength.Weak) i))
      ∙ (kept_by (nat_lt 0 (length (keepers marks buffer.collection))) (clients_have Strength.Strong) (parcels_have Strength.Strong)
      (clients_have Strength.Weak) (parcels_have Strength.Weak)
      ∙ ap (λ (b : Bool). nat_lt 0 (length (keepers marks buffer.collection)) || b) (sym some_holder))
