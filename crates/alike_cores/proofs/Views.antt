-- What is seen of cores that are alike.
use Rattle.alike_cores.proofs.Common.{AreAlikeCores, Collection, Fired, HeldBuffer, Interval, Keeps, KeepsIds, List, Mixed, Mixes}
use Rattle.alike_cores.proofs.Common.{NodeKey, Nothing, State, Swaps, [], ap, arith, collection_renamed, flat_map, list_any, map}
use Rattle.alike_cores.proofs.Common.{map-append, pages_in, refl, sum_by, sum_by-cons, sym, undated, ℕ, ◌++◌, ◌+◌, ◌-◌, ◌==◌, ◌∙◌, ◌∷◌}
use Rattle.alike_cores.proofs.Common.{◌≡◌}
use Rattle.core_state.specs.Reads.{views_of}
use Rattle.core_state.proofs.collections.Pages.{sum-map}
use Rattle.alike_cores.proofs.Forcings.{any_alike}
use Rattle.alike_cores.proofs.Mixing.{any-mixed, mixed-flat_map}
use Rattle.alike_cores.proofs.Settling.{pages-flat}

-- A sum does not depend on the order.
sum-mixed : {A : Type 0} (f : A → ℕ) (xs ys : List A) → Mixed xs ys → sum_by f xs ≡ sum_by f ys
sum-mixed f _ _ Nothing = refl
sum-mixed f _ _ (Keeps x xs ys m) =
    let one : sum_by f (x ∷ xs) ≡ f x + sum_by f xs = sum_by-cons f x xs in
    let other : sum_by f (x ∷ ys) ≡ f x + sum_by f ys = sum_by-cons f x ys in
    let rest : sum_by f xs ≡ sum_by f ys = sum-mixed f xs ys m in
    omega arith
sum-mixed f _ _ (Swaps x y xs) =
    let a : sum_by f (x ∷ y ∷ xs) ≡ f x + sum_by f (y ∷ xs) = sum_by-cons f x (y ∷ xs) in
    let b : sum_by f (y ∷ xs) ≡ f y + sum_by f xs = sum_by-cons f y xs in
    let c : sum_by f (y ∷ x ∷ xs) ≡ f y + sum_by f (x ∷ xs) = sum_by-cons f y (x ∷ xs) in
    let d : sum_by f (x ∷ xs) ≡ f x + sum_by f xs = sum_by-cons f x xs in
    omega arith
sum-mixed f _ _ (Mixes xs ys zs m n) = sum-mixed f xs ys m ∙ sum-mixed f ys zs n

-- Collection by collection.
pages_held : (cs : List Collection) →
    flat_map pages_in cs ≡ map (λ (h : HeldBuffer). h.pages) (flat_map (λ (c : Collection). c.held) cs)
pages_held [] = refl
pages_held (c ∷ cs) = ap (λ (l : List Interval). pages_in c ++ l) (pages_held cs)
    ∙ sym (map-append (λ (h : HeldBuffer). h.pages) c.held (flat_map (λ (d : Collection). d.held) cs))

-- The held pages are those of the intervals.
pages_sum : (cs : List Collection) →
    sum_by (λ (h : HeldBuffer). h.pages.pages) (flat_map (λ (c : Collection). c.held) cs)
    ≡ sum_by (λ (i : Interval). i.pages) (flat_map pages_in cs)
pages_sum cs =
    sym (ap (sum_by (λ (i : Interval). i.pages)) (pages_held cs)
    ∙ sum-map (λ (i : Interval). i.pages) (λ (h : HeldBuffer). h.pages) (flat_map (λ (c : Collection). c.held) cs))

module _ (to : NodeKey → NodeKey) (id number : ℕ → ℕ) (s t : State) (alike : AreAlikeCores to id number s t) where
  -- as many pages are held
  same_pages : sum_by (λ (h : HeldBuffer). h.pages.pages) (flat_map (λ (c : Collection). c.held) t.forest.collections)
      ≡ sum_by (λ (h : HeldBuffer). h.pages.pages) (flat_map (λ (c : Collection). c.held) s.forest.collections)
  same_pages =
      pages_sum t.forest.collections
      ∙ (ap (sum_by (λ (i : Interval). i.pages)) (sym (pages-flat (λ key. key) (λ k. k) t.forest.collections))
      ∙ (sym (sum-mixed (λ (i : Interval). i.pages) (flat_map pages_in (map (collection_renamed to id) s.forest.collections))
      (flat_map pages_in (map undated t.forest.collections))
      (mixed-flat_map pages_in (map (collection_renamed to id) s.forest.collections) (map undated t.forest.collections)
      alike.collections))
      ∙ (ap (sum_by (λ (i : Interval). i.pages)) (pages-flat to id s.forest.collections) ∙ sym (pages_sum s.forest.collections))))

  -- and as many are free
  pub free-alike : (views_of t).free ≡ (views_of s).free
  free-alike = λ i. alike.pool i - same_pages i

  -- A tracker fired in both, or in none.
  pub fired-alike : KeepsIds number → (tracker : ℕ) →
      list_any (λ (f : Fired). f.tracker == number tracker) t.trackers.fired
      ≡ list_any (λ (f : Fired). f.tracker == tracker) s.trackers.fired
  fired-alike counted tracker =
      sym (any_alike (λ (n : ℕ). n == number tracker) (λ (f : Fired). f.tracker == number tracker) (λ (f : Fired). f.tracker)
      (λ f. refl) t.trackers.fired)
      ∙ (sym (any-mixed (λ (n : ℕ). n == number tracker) (map (λ (f : Fired). number f.tracker) s.trackers.fired)
      (map (λ (f : Fired). f.tracker) t.trackers.fired) alike.fired)
      ∙ any_alike (λ (n : ℕ). n == number tracker) (λ (f : Fired). f.tracker == tracker) (λ (f : Fired). number f.tracker)
      (λ f. counted f.tracker tracker) s.trackers.fired)
