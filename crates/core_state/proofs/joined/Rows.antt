-- The rows of the clients, by rising ids.
use Rattle.core_state.proofs.Common.{AllByRecursion, Bool, Client, Err, List, None, Ok, Result, Rise, Some, [], ap, arith, cases_lt}
use Rattle.core_state.proofs.Common.{common_steps, either_way, eq-eqb, eqb-true, false, false_if, find, get_or, inl, inr, is_some}
use Rattle.core_state.proofs.Common.{is_some-find, length, list_any, map, new_client, option_map, option_map_or, refl, set, suc, sym}
use Rattle.core_state.proofs.Common.{true, unwrap_or, zero, ℕ, ◌<◌, ◌==◌, ◌∙◌, ◌∷◌, ◌≡◌, ◌≤◌}
use Rattle.std.specs.List.{position, position_or_len}
use Rattle.std.specs.List.Sorted.{IsSearchInRange, IsBinarySearchResult, IsNonDecreasingBy, IsPartitionPoint}
use Rattle.std.specs.Ordering.{nat_cmp, ordering_index}
use Rattle.std.specs.Result.{result_ok}
use Rattle.std.specs.declared.cmp.Ordering.TheVariants.{Less, Greater}
use Rattle.std.proofs.lemmas.Bool.Decides.{nat_tests}
use Rattle.std.proofs.lemmas.Cmp.{ranked}
use Rattle.std.proofs.lemmas.List.Folds.{find_at}
use Rattle.std.proofs.lemmas.List.Quantifiers.{position-Some}
use Rattle.std.proofs.lemmas.List.Sums.{position_or_len_is, passes_at_first}
use Rattle.std.proofs.lemmas.Option.{gets, slice_get_read}
use Rattle.core_state.specs.ClientRows.{with_client}

-- the rows stand by rising ids
abbrev pub AreRising : List Client → Type 0
AreRising rows = Rise (map (λ (c : Client). c.id) rows)

-- each of the rows has an id above this one
above_at : (n : ℕ) (rows : List Client) (i : ℕ) (d : Client) → AllByRecursion (λ m. n < m) (map (λ (c : Client). c.id) rows) →
    i < length rows →
    n < (get_or rows i d).id
above_at n [] i d all less = absurd (omega arith)
above_at n (c ∷ rows) zero d all less = all.0
above_at n (c ∷ rows) (suc i) d all less = above_at n rows i d all.1 (omega arith)

-- an earlier row has a lower id than a later one
rises : (rows : List Client) → AreRising rows → (i j : ℕ) (d : Client) → i < j → j < length rows →
    (get_or rows i d).id < (get_or rows j d).id
rises [] rise i j d order less = absurd (omega arith)
rises (c ∷ rows) rise i zero d order less = absurd (omega arith)
rises (c ∷ rows) rise zero (suc j) d order less = above_at c.id rows j d rise.0 (omega arith)
rises (c ∷ rows) rise (suc i) (suc j) d order less = rises rows rise.1 i j d (omega arith) (omega arith)

-- an earlier row has no greater id than a later one
rises_or_stays : (rows : List Client) → AreRising rows → (i j : ℕ) (d : Client) → i ≤ j → j < length rows →
    (get_or rows i d).id ≤ (get_or rows j d).id
rises_or_stays rows rise i j d order less = elim (cases_lt i j) [
  | inl before ↦ let up = rises rows rise i j d before less in omega arith
  | inr behind ↦ let same : i ≡ j = omega arith in rw same (omega arith)
]

module _ (client : ℕ) where
  -- the row is the client's
  abbrev is_its : Client → Bool
  is_its c = c.id == client

  -- the comparisons with an id rise along the rows, as a binary search asks
  comparisons_rise : (rows : List Client) → AreRising rows → IsNonDecreasingBy (λ (c : Client). ordering_index (nat_cmp c.id client)) rows
  comparisons_rise rows rise i j d order less =
      let up = rises_or_stays rows rise i j d order less in
      grind (arith, nat_tests)

  -- a place that passes is the first one
  first_place : (rows : List Client) (at : ℕ) (d : Client) → AreRising rows → at < length rows → (get_or rows at d).id ≡ client →
      position_or_len is_its rows ≡ at
  first_place rows at d rise less here = position_or_len_is is_its rows at d (omega arith)
      (λ k before. false_if (is_its (get_or rows k d)) (λ yes.
      let is : (get_or rows k d).id ≡ client = eqb-true (get_or rows k d).id client yes in
      let under = rises rows rise k at d before less in
      omega arith))
      (λ _. eq-eqb (get_or rows at d).id client here)

  -- where a row of the client stands is its place
  pub stands_at : (rows : List Client) (at : ℕ) (d : Client) → AreRising rows → at < length rows → (get_or rows at d).id ≡ client →
      Some at ≡ position is_its rows
  stands_at rows at d rise within here =
      let first : position_or_len is_its rows ≡ at = first_place rows at d rise within here in
      sym (rw first (grind (arith, common_steps)))

  -- no row of the client stands where a search for it ends elsewhere
  not_apart : (rows : List Client) (k at : ℕ) (d : Client) → k < length rows → (get_or rows k d).id ≡ client →
      IsPartitionPoint (λ (c : Client). nat_cmp c.id client ≡ Less) (λ c. nat_cmp c.id client ≡ Greater) rows at → ⊥
  not_apart rows k at d less here sides =
      let before : k < at → (get_or rows k d).id < client = λ lt. ranked _ client _ (sym (sides.0 k d (omega arith) lt)) in
      let behind : at ≤ k → client < (get_or rows k d).id = λ le. ranked _ client _ (sym (sides.1 k d le less)) in
      elim (cases_lt k at) [
        | inl lt ↦ let under = before lt in omega arith
        | inr le ↦ let over = behind le in omega arith
      ]

  -- a binary search by the id finds the row of the client
  pub search_places : (rows : List Client) (r : Result ℕ ℕ) → AreRising rows → IsSearchInRange r (length rows) →
      IsBinarySearchResult (λ (c : Client). nat_cmp c.id client) rows r → result_ok r ≡ position is_its rows
  search_places rows (Ok at) rise within found =
      stands_at rows at (new_client 0) rise within (ranked _ client _ (sym (found (new_client 0))))
  search_places rows (Err at) rise within found =
      let sides = found (comparisons_rise rows rise) in
      let past : length rows ≤ position_or_len is_its rows = elim (cases_lt (position_or_len is_its rows) (length rows)) [
        | inl before ↦
            let here : (get_or rows (position_or_len is_its rows) (new_client 0)).id ≡ client =
            eqb-true _ client (passes_at_first is_its rows (new_client 0) before) in
            absurd (not_apart rows (position_or_len is_its rows) at (new_client 0) before here sides)
        | inr behind ↦ behind
      ] in
      grind (arith, common_steps)

  -- what is found at the place of the client
  pub finds : (rows : List Client) (at : ℕ) (row : Client) → position is_its rows ≡ Some at → row ≡ get_or rows at row →
      find is_its rows ≡ Some row
  finds rows at row is here =
      let first : position_or_len is_its rows ≡ at = grind (arith, common_steps) in
      find_at is_its rows ∙ rw first (slice_get_read rows (length rows) at row refl (position-Some is_its rows at row is).0 here)

  -- nothing is found without a place
  pub finds_none : (rows : List Client) → position is_its rows ≡ None → find is_its rows ≡ None
  finds_none rows is =
      let past : length rows ≤ position_or_len is_its rows = grind (arith, common_steps) in
      find_at is_its rows ∙ grind (arith, common_steps, gets)

  -- whether the client has a row
  pub joined_tells : (rows : List Client) → list_any is_its rows ≡ is_some (option_map (λ (c : Client). c.shut) (find is_its rows))
  joined_tells rows = sym (is_some-find is_its rows) ∙ (elim (find is_its rows) as
      (λ o. is_some o ≡ is_some (option_map (λ (c : Client). c.shut) o)) [
        | None ↦ refl
        | Some row ↦ refl
      ])

  -- whether it is shut there
  pub shut_tells : (rows : List Client) → option_map_or (λ (c : Client). c.shut) (find is_its rows) false
      ≡ unwrap_or (option_map (λ (c : Client). c.shut) (find is_its rows)) false
  shut_tells rows = elim (find is_its rows) as
      (λ o. option_map_or (λ (c : Client). c.shut) o false ≡ unwrap_or (option_map (λ (c : Client). c.shut) o) false) [
        | None ↦ refl
        | Some row ↦ refl
      ]

  -- without a row of the client none is changed
  pub none_changed : (change : Client → Client) (rows : List Client) → find is_its rows ≡ None → with_client client change rows ≡ rows
  none_changed change [] none = refl
  none_changed change (c ∷ rows) none = elim (either_way (is_its c)) [
    | inl hit ↦ absurd (cc)
    | inr miss ↦ rw miss (ap (λ rest. c ∷ rest) (none_changed change rows (rw miss at none)))
  ]

  -- above the id of the client none is changed
  above_changed : (change : Client → Client) (n : ℕ) (rows : List Client) → client ≤ n →
      AllByRecursion (λ m. n < m) (map (λ (c : Client). c.id) rows) →
      with_client client change rows ≡ rows
  above_changed change n [] order all = refl
  above_changed change n (c ∷ rows) order all =
      let other : (c.id == client) ≡ false = grind (arith, common_steps) in
      rw other (ap (λ rest. c ∷ rest) (above_changed change n rows order all.1))

  -- the row of the client is changed where it stands
  pub one_changed : (change : Client → Client) (rows : List Client) (at : ℕ) (row : Client) → AreRising rows →
      position is_its rows ≡ Some at → row ≡ get_or rows at row →
      set rows at (change row) ≡ with_client client change rows
  one_changed change rows at row rise is here =
      let some = position-Some is_its rows at row is in
      changed rows at rise some.0 here (rw (← here) at some.1)
    where
      changed : (rows : List Client) (at : ℕ) → AreRising rows → at < length rows → row ≡ get_or rows at row → is_its row ≡ true →
          set rows at (change row) ≡ with_client client change rows
      changed [] at rise less here its = absurd (omega arith)
      changed (c ∷ rows) zero rise less here its =
          let is : c.id ≡ client = ap (λ (r : Client). r.id) (sym here) ∙ eqb-true row.id client its in
          rw (eq-eqb c.id client is, here) (ap (λ rest. change c ∷ rest) (sym (above_changed change c.id rows (omega arith) rise.0)))
      changed (c ∷ rows) (suc at) rise less here its =
          let under : c.id < (get_or rows at row).id = above_at c.id rows at row rise.0 (omega arith) in
          let is : row.id ≡ client = eqb-true row.id client its in
          let same : row.id ≡ (get_or rows at row).id = ap (λ (r : Client). r.id) here in
          let other : (c.id == client) ≡ false = grind (arith, common_steps) in
          rw other (ap (λ rest. c ∷ rest) (changed rows at rise.1 (omega arith) here its))
