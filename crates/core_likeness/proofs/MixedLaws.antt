-- Lists from which one element after another is taken.
use Rattle.std.proofs.Common.{ℕ, zero, suc, ◌≡◌, ◌+◌, ◌<◌, sym, subst}
use Rattle.std.proofs.Common.{List, [], ◌∷◌, length, map, drop, get_or, Option, Some, None, arith}
use Rattle.std.proofs.lemmas.List.{drop_more}
use Rattle.std.specs.List.{cons_option, filter_map, remove}
use Rattle.alike_cores.specs.Mixed.{Keeps, Mixed, Mixes, Nothing, Swaps}
use Rattle.alike_cores.proofs.Mixing.{mixed-map, mixed-same}

-- An element that is taken out is put back.
pub mixed-put : {A : Type 0} (d : A) (ys : List A) (at : ℕ) → at < length ys → Mixed (get_or ys at d ∷ remove ys at) ys
mixed-put d [] at within = absurd (omega (arith, within))
mixed-put d (y ∷ ys) zero within = mixed-same (y ∷ ys)
mixed-put d (y ∷ ys) (suc n) within =
    Mixes (get_or ys n d ∷ y ∷ remove ys n) (y ∷ get_or ys n d ∷ remove ys n) (y ∷ ys) (Swaps (get_or ys n d) y (remove ys n))
    (Keeps y (get_or ys n d ∷ remove ys n) ys (mixed-put d ys n (omega (arith, within))))

-- One number more of each is taken.
pub mixed-step : (xs ys : List ℕ) (i at d : ℕ) → i < length xs → at < length ys → get_or ys at d ≡ get_or xs i d →
    Mixed (drop (i + 1) xs) (remove ys at) → Mixed (drop i xs) ys
mixed-step xs ys i at d within there same rest =
    subst (λ (l : List ℕ). Mixed l ys) (sym (drop_more xs i d within))
    (Mixes (get_or xs i d ∷ drop (i + 1) xs) (get_or xs i d ∷ remove ys at) ys
    (Keeps (get_or xs i d) (drop (i + 1) xs) (remove ys at) rest)
    (subst (λ (n : ℕ). Mixed (n ∷ remove ys at) ys) same (mixed-put d ys at there)))

module _ {A B : Type 0} (f g : A → B) where
  -- One element more of each is taken.
  pub mixed-next : (xs ys : List A) (i at : ℕ) (d e : A) → i < length xs → at < length ys → g (get_or ys at d) ≡ f (get_or xs i e) →
      Mixed (map f (drop (i + 1) xs)) (map g (remove ys at)) → Mixed (map f (drop i xs)) (map g ys)
  mixed-next xs ys i at d e within there same rest =
      subst (λ (l : List A). Mixed (map f l) (map g ys)) (sym (drop_more xs i e within))
      (Mixes (f (get_or xs i e) ∷ map f (drop (i + 1) xs)) (f (get_or xs i e) ∷ map g (remove ys at)) (map g ys)
      (Keeps (f (get_or xs i e)) (map f (drop (i + 1) xs)) (map g (remove ys at)) rest)
      (subst (λ (b : B). Mixed (b ∷ map g (remove ys at)) (map g ys)) same (mixed-map g (get_or ys at d ∷ remove ys at) ys
      (mixed-put d ys at there))))

-- By whether something is there.
more : {B : Type 0} (o : Option B) (xs ys : List B) → Mixed xs ys → Mixed (cons_option o xs) (cons_option o ys)
more None xs ys m = m
more (Some b) xs ys m = Keeps b xs ys m

-- By what is there.
turned : {B : Type 0} (o p : Option B) (xs : List B) → Mixed (cons_option o (cons_option p xs)) (cons_option p (cons_option o xs))
turned None None xs = mixed-same xs
turned None (Some c) xs = mixed-same (c ∷ xs)
turned (Some b) None xs = mixed-same (b ∷ xs)
turned (Some b) (Some c) xs = Swaps b c xs

-- What is told of elements is told in another order.
pub mixed-filter_map : {A B : Type 0} (f : A → Option B) (xs ys : List A) → Mixed xs ys → Mixed (filter_map f xs) (filter_map f ys)
mixed-filter_map f _ _ Nothing = Nothing
mixed-filter_map f _ _ (Keeps x xs ys m) = more (f x) (filter_map f xs) (filter_map f ys) (mixed-filter_map f xs ys m)
mixed-filter_map f _ _ (Swaps x y xs) = turned (f x) (f y) (filter_map f xs)
mixed-filter_map f _ _ (Mixes xs ys zs m n) =
    Mixes (filter_map f xs) (filter_map f ys) (filter_map f zs) (mixed-filter_map f xs ys m) (mixed-filter_map f ys zs n)
