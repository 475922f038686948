-- Collections by their ids.
use Rattle.core_state.proofs.Common.{AllByRecursion, Bool, Collection, In, IsTidy, List, Rise, Some, [], ap, arith, either_way, eq-eqb}
use Rattle.core_state.proofs.Common.{eqb-false, eqb-true, false, false_if, find, if◌then◌else◌, inl, inr, is_left, ltb-false, ltb-true}
use Rattle.core_state.proofs.Common.{map, nat_lt, not, put, refl, subst, sym, tidied, true, without_unkept, without_unkept_in, ℕ, ◌<◌}
use Rattle.core_state.proofs.Common.{◌==◌, ◌∙◌, ◌∷◌, ◌≡◌, ◌≢◌, ◌≤◌, ◌⊎◌}

-- the ids of collections
abbrev pub ids : List Collection → List ℕ
ids cs = map (λ (c : Collection). c.id) cs

-- what holds of each id holds of a collection's
each_id : (P : ℕ → Type 0) (cs : List Collection) (c : Collection) → AllByRecursion P (ids cs) → In c cs → P c.id
each_id P [] c all there = absurd there
each_id P (d ∷ cs) c all (inl is) = rw is all.0
each_id P (d ∷ cs) c all (inr on) = each_id P cs c all.1 on

-- what is put is there
pub put_there : (new : Collection) (cs : List Collection) → In new (put new cs)
put_there new [] = inl refl
put_there new (c ∷ cs) =
    elim (either_way (c.id == new.id)) [
      | inl same ↦ rw same (inl refl)
      | inr apart ↦ elim (either_way (nat_lt new.id c.id)) [
        | inl before ↦ rw (apart, before) (inl refl)
        | inr behind ↦ rw (apart, behind) (inr (put_there new cs))
      ]
    ]

-- all else was there
pub put_from : (new : Collection) (cs : List Collection) (c : Collection) → In c (put new cs) → (c ≡ new) ⊎ In c cs
put_from new [] c (inl is) = inl is
put_from new [] c (inr none) = absurd none
put_from new (d ∷ cs) c there =
    elim (either_way (d.id == new.id)) [
      | inl same ↦ elim (at_same (rw same at there)) [ inl is ↦ inl is | inr on ↦ inr (inr on) ]
      | inr apart ↦ elim (either_way (nat_lt new.id d.id)) [
        | inl before ↦ elim (at_before (rw (apart, before) at there)) [ inl is ↦ inl is | inr on ↦ inr on ]
        | inr behind ↦ elim (at_behind (rw (apart, behind) at there)) [
          | inl is ↦ inr (inl is)
          | inr on ↦ elim (put_from new cs c on) [ inl is ↦ inl is | inr old ↦ inr (inr old) ]
        ]
      ]
    ]
  where
    -- restates the hypothesis with the list as it is then
    at_same : In c (new ∷ cs) → (c ≡ new) ⊎ In c cs
    at_same h = h

    -- restates the hypothesis with the list as it is then
    at_before : In c (new ∷ d ∷ cs) → (c ≡ new) ⊎ In c (d ∷ cs)
    at_before h = h

    -- restates the hypothesis with the list as it is then
    at_behind : In c (d ∷ put new cs) → (c ≡ d) ⊎ In c (put new cs)
    at_behind h = h

-- what follows of each number
pub weaken : (P Q : ℕ → Type 0) → ((n : ℕ) → P n → Q n) → (ns : List ℕ) → AllByRecursion P ns → AllByRecursion Q ns
weaken P Q more [] all = tt
weaken P Q more (n ∷ ns) all = (more n all.0, weaken P Q more ns all.1)

-- what holds of the new id and of all others
put_each : (P : ℕ → Type 0) (new : Collection) (cs : List Collection) → P new.id → AllByRecursion P (ids cs) →
    AllByRecursion P (ids (put new cs))
put_each P new [] here all = (here, tt)
put_each P new (c ∷ cs) here all =
    elim (either_way (c.id == new.id)) [
      | inl same ↦ rw same (here, all.1)
      | inr apart ↦ elim (either_way (nat_lt new.id c.id)) [
        | inl before ↦ rw (apart, before) (here, all)
        | inr behind ↦ rw (apart, behind) (all.0, put_each P new cs here all.1)
      ]
    ]

-- collections that stand by their ids still do
pub put_rises : (new : Collection) (cs : List Collection) → Rise (ids cs) → Rise (ids (put new cs))
put_rises new [] rise = (tt, tt)
put_rises new (c ∷ cs) rise =
    elim (either_way (c.id == new.id)) [
      | inl same ↦ rw same (subst (λ id. AllByRecursion (λ m. id < m) (ids cs)) (eqb-true c.id new.id same) rise.0, rise.1)
      | inr apart ↦ elim (either_way (nat_lt new.id c.id)) [
        | inl before ↦ let less : new.id < c.id = ltb-true new.id c.id before in
            rw (apart, before) ((less, weaken (λ m. c.id < m) (λ m. new.id < m) (λ m above. omega arith) (ids cs) rise.0), rise)
        | inr behind ↦ rw (apart, behind) (put_each (λ m. c.id < m) new cs (less_by apart behind) rise.0, put_rises new cs rise.1)
      ]
    ]
  where
    -- since ids that differ and do not exceed are smaller
    less_by : (c.id == new.id) ≡ false → nat_lt new.id c.id ≡ false → c.id < new.id
    less_by apart behind = let differ : c.id ≢ new.id =
        eqb-false c.id new.id apart in let order : c.id ≤ new.id = ltb-false new.id c.id behind in omega arith

-- a later collection has another id
later_apart : (c : Collection) (cs : List Collection) (d : Collection) → AllByRecursion (λ m. c.id < m) (ids cs) → In d cs → c.id < d.id
later_apart c cs d all there = each_id (λ m. c.id < m) cs d all there

-- a collection is found by its id
pub found_by_id : (cs : List Collection) (c : Collection) (id : ℕ) → Rise (ids cs) → In c cs → c.id ≡ id →
    find (λ (x : Collection). x.id == id) cs ≡ Some c
found_by_id [] c id rise there is = absurd there
found_by_id (d ∷ cs) c id rise (inl here) is =
    rw (eq-eqb d.id id (ap (λ (x : Collection). x.id) (sym here) ∙ is)) (ap (λ (x : Collection). Some x) (sym here))
found_by_id (d ∷ cs) c id rise (inr on) is =
    let less : d.id < c.id = later_apart d cs c rise.0 on in
    let apart : (d.id == id) ≡ false = false_if (d.id == id) (λ same. let equal : d.id ≡ id = eqb-true d.id id same in omega arith) in
    rw apart (found_by_id cs c id rise.1 on is)

-- a tidy collection stays as it is
stays : (c : Collection) (rest : List Collection) → IsTidy c → (if not (is_left (tidied c)) then tidied c ∷ rest else rest) ≡ c ∷ rest
stays c rest tidy = by (tidied c) tidy.tidied tidy.kept
  where
    -- by the two facts about it
    by : (t : Collection) → t ≡ c → is_left c ≡ false → (if not (is_left t) then t ∷ rest else rest) ≡ c ∷ rest
    by t same kept = rw (same, kept) refl

-- where all are tidy, nothing is left out
pub all_tidy : (cs : List Collection) → ((c : Collection) → In c cs → IsTidy c) → without_unkept cs ≡ cs
all_tidy [] tidy = refl
all_tidy (c ∷ cs) tidy =
    stays c (without_unkept cs) (tidy c (inl refl)) ∙ ap (λ (rest : List Collection). c ∷ rest) (all_tidy cs (λ d on. tidy d (inr on)))

-- where all others are tidy, it is enough to look at one
pub others_tidy : (id : ℕ) (cs : List Collection) → Rise (ids cs) → ((c : Collection) → In c cs → (c.id == id) ≡ false → IsTidy c) →
    without_unkept_in id cs ≡ without_unkept cs
others_tidy id [] rise tidy = refl
others_tidy id (c ∷ cs) rise tidy = by (c.id == id) refl (others_tidy id cs rise.1 (λ d on. tidy d (inr on)))
  where
    -- since ids rise, no other has this id, so all others are tidy
    rest_tidy : c.id ≡ id → without_unkept cs ≡ cs
    rest_tidy is = all_tidy cs (λ d on. tidy d (inr on) (false_if (d.id == id) (λ same.
        let equal : d.id ≡ id = eqb-true d.id id same in
        let less : c.id < d.id = later_apart c cs d rise.0 on in
        absurd (omega arith))))

    -- by cases: nothing is left of it, or it is tidied
    pick : (left : Bool) (t : Collection) (rest : List Collection) → rest ≡ cs →
        (if left then cs else t ∷ cs) ≡ (if not left then t ∷ rest else rest)
    pick true t rest same = sym same
    pick false t rest same = ap (λ (ds : List Collection). t ∷ ds) (sym same)

    -- by cases: this collection is the one to look at and the others are tidy, or it is tidy itself
    by : (here : Bool) → (c.id == id) ≡ here → without_unkept_in id cs ≡ without_unkept cs →
        without_unkept_in id (c ∷ cs) ≡ without_unkept (c ∷ cs)
    by true is on = rw is (pick (is_left (tidied c)) (tidied c) (without_unkept cs) (rest_tidy (eqb-true c.id id is)))
    by false is on = rw is (ap (λ (ds : List Collection). c ∷ ds) on ∙ sym (stays c (without_unkept cs) (tidy c (inl refl) is)))
