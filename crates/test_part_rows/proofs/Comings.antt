-- Intervals that go back one after another.
use Rattle.std.proofs.Common.{ℕ, zero, suc, ◌≡◌, ◌+◌, ◌<◌, ◌≤◌, ◌≢◌, ap, sym, subst, ◌∙◌}
use Rattle.std.proofs.Common.{false, List, [], ◌∷◌, length, get_or, inl, inr, arith, ◌==◌}
use Rattle.std.specs.Prelude.{AllPairs, Contains}
use Rattle.std.proofs.lemmas.Bool.{cases_Bool, both_ways, ne_eqb}
use Rattle.std.proofs.lemmas.List.{get_or_default}
use Rattle.sm_names.specs.declared.keys.Interval.{Interval}
use Rattle.buffer_pool.specs.Holdings.{Holdings, IsSound, without}
use Rattle.buffer_pool.proofs.Least.{meets-over}

-- from a place on each interval of the list is held, and no two begin at one page
pub record AreToCome (at : ℕ) (list held : List Interval) : Type 0 where
  pub there : (k : ℕ) (d : Interval) → at ≤ k → k < length list → Contains held (get_or list k d)
  pub apart : AllPairs (λ (a b : Interval). a.start ≢ b.start) list

-- all that a sound pool holds is to come
pub all_to_come : (pool : Holdings) (list : List Interval) → IsSound pool → list ≡ pool.held → AreToCome 0 list pool.held
all_to_come pool list s same =
    record {
      there = λ k d from lt.
          let e : get_or pool.held k d ≡ get_or list k d = ap (λ xs. get_or xs k d) (sym same) in
          (k, subst (λ xs. k < length xs) same lt, get_or_default pool.held k _ d (subst (λ xs. k < length xs) same lt) ∙ e);
      apart = subst (AllPairs (λ (a b : Interval). a.start ≢ b.start)) (sym same)
          (λ j k d less lt e.
          let p : 0 < (get_or pool.held j d).pages = (s.inside j d (omega arith)).0 in
          let q : 0 < (get_or pool.held k d).pages = (s.inside k d lt).0 in
          both_ways _ (s.apart j k d less lt) (meets-over (get_or pool.held j d) (get_or pool.held k d) (omega arith) (omega arith)));
    }

-- what begins elsewhere stays
stays : (start : ℕ) (i : Interval) (is : List Interval) → i.start ≢ start → (k : ℕ) → k < length is → get_or is k i ≡ i
    → Contains (without start is) i
stays start i [] other k lt at = absurd (omega arith)
stays start i (x ∷ is) other zero lt at =
    let keep : (x.start == start) ≡ false = ne_eqb _ _ (λ e. other (ap (λ (y : Interval). y.start) (sym at) ∙ e)) in
    rw keep (0, omega arith, at)
stays start i (x ∷ is) other (suc k) lt at =
    let within : k < length is = omega arith in
    let r = stays start i is other k within at in
    elim (cases_Bool (x.start == start)) [
      | inl gone ↦ rw gone r
      | inr keep ↦ rw keep (suc r.0, omega (arith, r.1), r.2)
    ]

-- one is given back
pub one_goes : (at : ℕ) (list held : List Interval) (back : Interval) → at < length list → back ≡ get_or list at back
    → AreToCome at list held → AreToCome (at + 1) list (without back.start held)
one_goes at list held back lt is t =
    record {
      there = λ k d from within.
          let c = t.there k d (omega arith) within in
          let here : get_or list at d ≡ back = get_or_default list at d back lt ∙ sym is in
          let other : (get_or list k d).start ≢ back.start =
          λ e. t.apart at k d (omega arith) within (ap (λ (y : Interval). y.start) here ∙ sym e) in
          stays back.start (get_or list k d) held other c.0 c.1 c.2;
      apart = t.apart;
    }
