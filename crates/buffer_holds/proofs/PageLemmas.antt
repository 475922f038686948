-- The entries in pages.
use Rattle.buffer_holds.proofs.Common.{Bool, IsDistinct, List, None, Option, Some, [], ap, arith, cell_at, common_steps, cond, count_in}
use Rattle.buffer_holds.proofs.Common.{eqb-false, eqb-true, false, false≢true, flat, if◌then◌else◌, keys_of, lookup, page_of, refl, subst}
use Rattle.buffer_holds.proofs.Common.{suc, sum_by, sum_by-cons, sym, true, weight_at, zero, ℕ, ◌&&◌, ◌+◌, ◌<◌, ◌==◌, ◌∙◌, ◌∷◌, ◌≡◌, ◌≤◌}
use Rattle.std.proofs.lemmas.Map.Keys.{IsDistinct-cons}
use Rattle.std.specs.List.{AllByRecursion}
use Rattle.buffer_holds.specs.Pages.{cell, cells}

-- numbers that differ are not the same
eqb-other : (m n : ℕ) → m < n → (m == n) ≡ false
eqb-other m n less = grind (arith, common_steps, less)

eqb-later : (m n : ℕ) → n < m → (m == n) ≡ false
eqb-later m n less = grind (arith, common_steps, less)

-- the next number, unless it is the last one
below : (j n : ℕ) → j < n + 1 → (j == n) ≡ false → j < n
below j n small other = let differ = eqb-false j n other in omega (arith, small, differ)

-- a key whose index is behind the first cells is none of theirs
apart : (b : Bool) (j n : ℕ) → (b ≡ true → n < j) → (b && (j == n)) ≡ false
apart false j n behind = refl
apart true j n behind = let after = behind refl in grind (arith, common_steps, after)

-- what entries weigh
module _ {P K X : Type 0} (key : P → ℕ → K) (weight : K × X → ℕ) where
  -- what is in the first cells of a page
  abbrev pub weighed : P → ℕ → List (Option X) → ℕ
  weighed p zero page = 0
  weighed p (suc n) page = weight_at weight (key p n) (cell_at page n) + weighed p n page

  -- the entries of the cells weigh what is in them
  pub sum_cells : (p : P) (n : ℕ) (page : List (Option X)) (rest : List (K × X)) →
      sum_by weight (cells key p n page rest) ≡ weighed p n page + sum_by weight rest
  unfolding cells
  sum_cells p zero page rest = omega arith
  sum_cells p (suc n) page rest = by (cell_at page n) (sum_cells p n page rest)
    where
      by : (c : Option X) → sum_by weight (cells key p n page rest) ≡ weighed p n page + sum_by weight rest →
          sum_by weight (cell (key p n) c (cells key p n page rest)) ≡ (weight_at weight (key p n) c + weighed p n page)
          + sum_by weight rest
      by None more = omega (arith, more)
      by (Some x) more = omega (arith, sum_by-cons weight (key p n, x) (cells key p n page rest), more)

  -- where one cell at most weighs something
  module _ (p : P) (j size : ℕ) (page : List (Option X))
      (none : (n : ℕ) (x : X) → n < size → (n == j) ≡ false → weight (key p n, x) ≡ 0) where
    -- the other cells weigh nothing
    cell_none : (n : ℕ) → n < size → (n == j) ≡ false → (c : Option X) → weight_at weight (key p n) c ≡ 0
    cell_none n small other None = refl
    cell_none n small other (Some x) = none n x small other

    -- nor do the cells before it
    pub weighed_before : (n : ℕ) → n ≤ size → n ≤ j → weighed p n page ≡ 0
    weighed_before zero fits before = refl
    weighed_before (suc n) fits before =
        let other = eqb-other n j (omega (arith, before)) in
        omega (
          arith,
          cell_none n (omega (arith, fits)) other (cell_at page n),
          weighed_before n (omega (arith, fits)) (omega (arith, before)),
        )

    -- and all weigh what it does
    pub weighed_at : (n : ℕ) → n ≤ size → j < n → weighed p n page ≡ weight_at weight (key p j) (cell_at page j)
    weighed_at zero fits within = absurd (omega (arith, within))
    weighed_at (suc n) fits within = by (λ less. weighed_at n (omega (arith, fits)) less) (j == n) refl
      where
        by : (j < n → weighed p n page ≡ weight_at weight (key p j) (cell_at page j)) → (b : Bool) → (j == n) ≡ b →
            weighed p (suc n) page ≡ weight_at weight (key p j) (cell_at page j)
        by before true is =
            let here : n ≡ j = sym (eqb-true j n is) in
            omega (
              arith,
              weighed_before n (omega (arith, fits)) (omega (arith, here)),
              ap (λ m. weight_at weight (key p m) (cell_at page m)) here,
            )
        by before false is =
            let rest = before (below j n (omega (arith, within)) is) in
            let less = below j n (omega (arith, within)) is in
            omega (arith, rest, cell_none n (omega (arith, fits)) (eqb-later n j less) (cell_at page n))

-- what is in the first cells of a page, all in all
abbrev pub moved : ℕ → List (Option ℕ) → ℕ
moved zero page = 0
moved (suc n) page = count_in page n + moved n page

-- pages of the same counts have as much in them
pub moved_alike : (n : ℕ) (old new : List (Option ℕ)) → ((at : ℕ) → count_in new at ≡ count_in old at) → moved n new ≡ moved n old
moved_alike zero old new same = refl
moved_alike (suc n) old new same = omega (arith, same n, moved_alike n old new same)

-- and one count that changed changes it by as much
pub moved_set : (n j m : ℕ) (old new : List (Option ℕ)) → ((at : ℕ) → count_in new at ≡ (if j == at then m else count_in old at)) →
    j < n → moved n new + count_in old j ≡ moved n old + m
moved_set zero j m old new sets within = absurd (omega (arith, within))
moved_set (suc n) j m old new sets within = by (λ less. moved_set n j m old new sets less) (j == n) refl
  where
    before : (k : ℕ) → k ≤ j → moved k new ≡ moved k old
    before zero less = refl
    before (suc k) less =
        let other : (j == k) ≡ false = eqb-later j k (omega (arith, less)) in
        omega (
          arith,
          sets k ∙ ap (λ (b : Bool). if b then m else count_in old k) other,
          before k (omega (arith, less)),
        )

    by : (j < n → moved n new + count_in old j ≡ moved n old + m) → (b : Bool) → (j == n) ≡ b →
        moved (suc n) new + count_in old j ≡ moved (suc n) old + m
    by rest true is =
        let here : j ≡ n = eqb-true j n is in
        omega (
          arith,
          sets n ∙ ap (λ (b : Bool). if b then m else count_in old n) is,
          before n (omega (arith, here)),
          ap (count_in old) here,
        )
    by rest false is =
        let more = rest (below j n (omega (arith, within)) is) in
        omega (arith, sets n ∙ ap (λ (b : Bool). if b then m else count_in old n) is, more)

module _ {P K X : Type 0} (key : P → ℕ → K) (size : ℕ) (same_name : P → P → Bool) (same : K → K → Bool)
    (law : (q p : P) (j i : ℕ) → j < size → i < size → same (key q j) (key p i) ≡ (same_name q p && (j == i)))
    (one : (a b : P) → same_name a b ≡ true → a ≡ b) (itself : (a : P) → same_name a a ≡ true) where
  -- ---- look-ups

  -- a key that is none of these cells' is looked for in the rest
  missed_cells : (q p : P) (j n : ℕ) (page : List (Option X)) (rest : List (K × X)) → j < size → n ≤ size →
      (same_name q p ≡ true → n ≤ j) → lookup (same (key q j)) (cells key p n page rest) ≡ lookup (same (key q j)) rest
  unfolding cells
  missed_cells q p j zero page rest small fits behind = refl
  missed_cells q p j (suc n) page rest small fits behind =
      by (cell_at page n) ∙ missed_cells q p j n page rest small (omega (arith, fits)) (λ e. let b = behind e in omega (arith, b))
    where
      by : (c : Option X) → lookup (same (key q j)) (cell (key p n) c (cells key p n page rest)) ≡ lookup (same (key q j))
          (cells key p n page rest)
      by None = refl
      by (Some x) =
          rw (law q p j n small (omega (arith, fits)) ∙ apart (same_name q p) j n (λ e. let b = behind e in omega (arith, b))) refl

  -- a key of one of these cells is there if something is in it
  at_cells : (p : P) (j n : ℕ) (page : List (Option X)) (rest : List (K × X)) → j < n → n ≤ size →
      lookup (same (key p j)) rest ≡ None → lookup (same (key p j)) (cells key p n page rest) ≡ cell_at page j
  unfolding cells
  at_cells p j zero page rest within fits none = absurd (omega (arith, within))
  at_cells p j (suc n) page rest within fits none =
      by (λ less. at_cells p j n page rest less (omega (arith, fits)) none) (j == n) refl
    where
      small : j < size
      small = omega (arith, within, fits)

      last : n < size
      last = omega (arith, fits)

      hit : same (key p j) (key p n) ≡ (j == n)
      hit = law p p j n small last ∙ ap (λ b. b && (j == n)) (itself p)

      first : (c : Option X) → (j == n) ≡ true → lookup (same (key p j)) (cell (key p n) c (cells key p n page rest)) ≡ c
      first None is =
          let here = eqb-true j n is in
          missed_cells p p j n page rest small (omega (arith, fits)) (λ e. omega (arith, here)) ∙ none
      first (Some x) is = rw (hit ∙ is) refl

      later : (c : Option X) → lookup (same (key p j)) (cells key p n page rest) ≡ cell_at page j → (j == n) ≡ false →
          lookup (same (key p j)) (cell (key p n) c (cells key p n page rest)) ≡ cell_at page j
      later None there other = there
      later (Some x) there other = rw (hit ∙ other) there

      by : (j < n → lookup (same (key p j)) (cells key p n page rest) ≡ cell_at page j) → (b : Bool) → (j == n) ≡ b →
          lookup (same (key p j)) (cell (key p n) (cell_at page n) (cells key p n page rest)) ≡ cell_at page j
      by before true is = first (cell_at page n) is ∙ ap (cell_at page) (sym (eqb-true j n is))
      by before false is = later (cell_at page n) (before (below j n (omega (arith, within)) is)) is

  -- where no page has the name, no entry has a key of it
  missed_flat : (q : P) (j : ℕ) → j < size → (es : List (P × List (Option X))) → AllByRecursion (λ y. same_name q y ≡ false) (keys_of es) →
      lookup (same (key q j)) (flat key size es) ≡ None
  unfolding flat
  missed_flat q j small [] none = refl
  missed_flat q j small (e ∷ es) none =
      missed_cells q e.0 j size e.1 (flat key size es) small (omega arith) (λ is. absurd (clash is))
      ∙ missed_flat q j small es none.1
    where
      clash : same_name q e.0 ≡ true → ⊥
      clash is = false≢true (sym none.0 ∙ is)

  -- an entry is what is in the cell of the page of its name
  pub flat_lookup : (q : P) (j : ℕ) → j < size → (es : List (P × List (Option X))) → IsDistinct same_name (keys_of es) →
      lookup (same (key q j)) (flat key size es) ≡ cell_at (page_of (lookup (same_name q) es)) j
  unfolding flat IsDistinct
  flat_lookup q j small [] distinct = refl
  flat_lookup q j small (e ∷ es) distinct = by (flat_lookup q j small es distinct.1) (same_name q e.0) refl
    where
      by : lookup (same (key q j)) (flat key size es) ≡ cell_at (page_of (lookup (same_name q) es)) j → (b : Bool) → same_name q e.0 ≡ b
          → lookup (same (key q j)) (cells key e.0 size e.1 (flat key size es)) ≡ cell_at (page_of (cond b (Some e.1) (lookup (same_name q)
          es))) j
      by others true is =
          subst (λ p. lookup (same (key p j)) (cells key e.0 size e.1 (flat key size es)) ≡ cell_at e.1 j) (sym (one q e.0 is))
          (at_cells e.0 j size e.1 (flat key size es) small (omega arith) (missed_flat e.0 j small es distinct.0))
      by others false is =
          missed_cells q e.0 j size e.1 (flat key size es) small (omega arith) (λ yes. absurd (false≢true (sym is ∙ yes))) ∙ others

  -- ---- no key stands twice

  -- a key that is none of these cells' differs from theirs
  apart_cells : (q p : P) (j n : ℕ) (page : List (Option X)) (rest : List (K × X)) → j < size → n ≤ size →
      (same_name q p ≡ true → n ≤ j) → AllByRecursion (λ y. same (key q j) y ≡ false) (keys_of rest)
      → AllByRecursion (λ y. same (key q j) y ≡ false) (keys_of (cells key p n page rest))
  unfolding cells
  apart_cells q p j zero page rest small fits behind others = others
  apart_cells q p j (suc n) page rest small fits behind others =
      by (cell_at page n) (apart_cells q p j n page rest small (omega (arith, fits)) (λ e. let b = behind e in omega (arith, b)) others)
    where
      by : (c : Option X) → AllByRecursion (λ y. same (key q j) y ≡ false) (keys_of (cells key p n page rest)) →
          AllByRecursion (λ y. same (key q j) y ≡ false) (keys_of (cell (key p n) c (cells key p n page rest)))
      by None more = more
      by (Some x) more = (
        law q p j n small (omega (arith, fits)) ∙ apart (same_name q p) j n (λ e. let b = behind e in omega (arith, b)),
        more,
      )

  -- the keys of the cells differ from each other
  distinct_cells : (p : P) (n : ℕ) (page : List (Option X)) (rest : List (K × X)) → n ≤ size → IsDistinct same (keys_of rest) →
      ((j : ℕ) → j < size → AllByRecursion (λ y. same (key p j) y ≡ false) (keys_of rest))
      → IsDistinct same (keys_of (cells key p n page rest))
  unfolding cells
  distinct_cells p zero page rest fits distinct others = distinct
  distinct_cells p (suc n) page rest fits distinct others =
      by (cell_at page n) (distinct_cells p n page rest (omega (arith, fits)) distinct others)
    where
      last : n < size
      last = omega (arith, fits)

      by : (c : Option X) → IsDistinct same (keys_of (cells key p n page rest)) →
          IsDistinct same (keys_of (cell (key p n) c (cells key p n page rest)))
      by None more = more
      by (Some x) more =
          IsDistinct-cons same (key p n) (keys_of (cells key p n page rest))
          (apart_cells p p n n page rest last (omega (arith, fits)) (λ e. omega arith) (others n last)) more

  -- where no page has the name, all keys differ from its own
  apart_flat : (q : P) (j : ℕ) → j < size → (es : List (P × List (Option X))) → AllByRecursion (λ y. same_name q y ≡ false) (keys_of es) →
      AllByRecursion (λ y. same (key q j) y ≡ false) (keys_of (flat key size es))
  unfolding flat
  apart_flat q j small [] none = tt
  apart_flat q j small (e ∷ es) none =
      apart_cells q e.0 j size e.1 (flat key size es) small (omega arith) (λ is. absurd (clash is)) (apart_flat q j small es none.1)
    where
      clash : same_name q e.0 ≡ true → ⊥
      clash is = false≢true (sym none.0 ∙ is)

  -- the keys of all entries differ from each other
  pub distinct_flat : (es : List (P × List (Option X))) → IsDistinct same_name (keys_of es) → IsDistinct same (keys_of (flat key size es))
  unfolding flat IsDistinct
  distinct_flat [] distinct = tt
  distinct_flat (e ∷ es) distinct =
      distinct_cells e.0 size e.1 (flat key size es) (omega arith) (distinct_flat es distinct.1) (λ j small.
      apart_flat e.0 j small es distinct.0)

  -- ---- the cell of a key
  module _ (name : K → P) (slot : K → ℕ) (whole : (k : K) → key (name k) (slot k) ≡ k) (within : (k : K) → slot k < size) where
    -- what is found in the cell of a key
    pub found : (k : K) (es : List (P × List (Option X))) → IsDistinct same_name (keys_of es) →
        lookup (same k) (flat key size es) ≡ cell_at (page_of (lookup (same_name (name k)) es)) (slot k)
    found k es distinct =
        subst (λ x. lookup (same x) (flat key size es) ≡ cell_at (page_of (lookup (same_name (name k)) es)) (slot k)) (whole k)
        (flat_lookup (name k) (slot k) (within k) es distinct)
