-- Tests over lists that were filtered and mapped.
use Rattle.forest_store.proofs.Common.{ℕ, ◌≡◌, nat_lt, refl, ap, sym, ◌∙◌, Bool, not, ◌&&◌, ◌||◌, if◌then◌else◌}
use Rattle.forest_store.proofs.Common.{List, [], ◌∷◌, map, Option, None, arith, list_any, list_all, find}
use Rattle.forest_store.proofs.Common.{filter, max, filter_map, fold, or_false, option_map, or_assoc}
use Rattle.sm_names.proofs.SamenessLaws.{none_below}
use Rattle.forest_store.proofs.lists.Elements.{map-same}

module _ {A B : Type 0} (asked : A → Bool) (f : A → B) (p : B → Bool) where
  -- some of those that were asked for pass
  pub any-map_filter : (xs : List A) → list_any p (map f (filter asked xs)) ≡ list_any (λ x. asked x && p (f x)) xs
  any-map_filter [] = refl
  any-map_filter (x ∷ xs) = grind (arith, any-map_filter xs)

  -- all of those that were asked for pass
  pub all-map_filter : (xs : List A) →
      list_all p (map f (filter asked xs)) ≡ list_all (λ x. not (asked x) || p (f x)) xs
  all-map_filter [] = refl
  all-map_filter (x ∷ xs) = grind (arith, all-map_filter xs)

  -- the first of those that were asked for that passes
  pub find-map_filter : (xs : List A) →
      find p (map f (filter asked xs)) ≡ option_map f (find (λ x. asked x && p (f x)) xs)
  find-map_filter [] = refl
  find-map_filter (x ∷ xs) = grind (arith, find-map_filter xs)

module _ {A : Type 0} (asked p : A → Bool) where
  -- some of those that were asked for pass
  pub any-filter : (xs : List A) → list_any p (filter asked xs) ≡ list_any (λ x. asked x && p x) xs
  any-filter xs = ap (list_any p) (sym (map-same (λ x. x) _ (λ x on. refl))) ∙ any-map_filter asked (λ x. x) p xs

  -- all of those that were asked for pass
  pub all-filter : (xs : List A) → list_all p (filter asked xs) ≡ list_all (λ x. not (asked x) || p x) xs
  all-filter xs = ap (list_all p) (sym (map-same (λ x. x) _ (λ x on. refl))) ∙ all-map_filter asked (λ x. x) p xs

-- what is made of those that were asked for twice
pub made-filter_map : {A B C : Type 0} (asked : A → Bool) (f : A → B) (again : B → Bool) (h : B → Option C)
    (xs : List A) → filter_map h (filter again (map f (filter asked xs)))
    ≡ filter_map (λ x. if asked x && again (f x) then h (f x) else None) xs
made-filter_map asked f again h [] = refl
made-filter_map asked f again h (x ∷ xs) = grind (arith, made-filter_map asked f again h xs)

-- some number is above this one exactly if the greatest is
above_from : {A : Type 0} (f : A → ℕ) (n start : ℕ) (xs : List A) →
    nat_lt n (fold (λ k x. max k (f x)) start xs) ≡ (nat_lt n start || list_any (λ x. nat_lt n (f x)) xs)
above_from f n start [] = sym (or_false (nat_lt n start))
above_from f n start (x ∷ xs) = grind (arith, above_from f n (max start (f x)) xs, or_assoc)

-- the same from 0 on
pub above_greatest : {A : Type 0} (f : A → ℕ) (n : ℕ) (xs : List A) →
    list_any (λ x. nat_lt n (f x)) xs ≡ nat_lt n (fold (λ k x. max k (f x)) 0 xs)
above_greatest f n xs = sym (above_from f n 0 xs
    ∙ ap (λ (b : Bool). b || list_any (λ x. nat_lt n (f x)) xs) (none_below n))
