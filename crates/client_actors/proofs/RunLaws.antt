-- What lies in each place before and after all actors ran.
use Rattle.std.proofs.Common.{ℕ, suc, ◌≡◌, ◌<◌, ◌∙◌, refl, sym, ap, subst, List, [], ◌∷◌, ◌++◌}
use Rattle.std.proofs.Common.{append_assoc, arith, length, map, Option, Some, None, slice_index_or}
use Rattle.std.specs.Prelude.{drop, reverse, take, IsSome}
use Rattle.std.specs.List.{All, AllZip}
use Rattle.std.proofs.lemmas.List.{map-append, reverse-append}
use Rattle.std.proofs.lemmas.List.Elements.{All-cons, All-nil}
use Rattle.actor_scripts.specs.declared.step.ActorScript.{ActorScript}
use Rattle.client_actors.specs.declared.gate.ActorEnd.{ActorEnd}
use Rattle.client_actors.specs.ActorEnds.{HaveRun, IsEndOf, IsEndThere, end_id, id_there}

-- a relation that holds at each place
pub zip_each : {A B : Type 0} (R : A → B → Type 0) (xs : List A) (ys : List B) → length xs ≡ length ys →
    ((i : ℕ) (a : A) (b : B) → i < length xs → R (slice_index_or xs i a) (slice_index_or ys i b)) → AllZip R xs ys
zip_each R [] [] len each = tt
zip_each R [] (y ∷ ys) len each = absurd (omega (arith, len))
zip_each R (x ∷ xs) [] len each = absurd (omega (arith, len))
zip_each R (x ∷ xs) (y ∷ ys) len each =
    (each 0 x y (omega arith), zip_each R xs ys (omega (arith, len)) (λ i a b l. each (suc i) a b (omega (arith, l))))

-- a function that gives the same at each place
pub map_each : {A B : Type 0} (f : A → B) (xs ys : List A) → length xs ≡ length ys → ((i : ℕ) (d : A) → i < length xs →
    f (slice_index_or ys i d) ≡ f (slice_index_or xs i d)) → map f ys ≡ map f xs
map_each f [] [] len each = refl
map_each f [] (y ∷ ys) len each = absurd (omega (arith, len))
map_each f (x ∷ xs) [] len each = absurd (omega (arith, len))
map_each f (x ∷ xs) (y ∷ ys) len each =
    let one : f y ≡ f x = each 0 x (omega arith) in
    let more : map f ys ≡ map f xs = map_each f xs ys (omega (arith, len)) (λ i d l. each (suc i) d (omega (arith, l))) in
    cc

-- one more on both sides
pub map_push : {A B : Type 0} (f : A → B) (xs : List A) (ys : List B) (x : A) (y : B) → ys ≡ map f xs → y ≡ f x →
    ys ++ y ∷ [] ≡ map f (xs ++ x ∷ [])
map_push f xs ys x y so is = ap (λ l. l ++ y ∷ []) so ∙ (ap (λ b. map f xs ++ b ∷ []) is ∙ sym (map-append f xs (x ∷ [])))

-- the last one is taken out
pub moved : {A : Type 0} (taken : List A) (left rest all : List (Option A)) (x : A) → map Some taken ++ reverse left ≡ all →
    left ≡ rest ++ Some x ∷ [] → map Some (taken ++ x ∷ []) ++ reverse rest ≡ all
moved taken left rest all x so is =
    let turned : reverse left ≡ Some x ∷ reverse rest = ap reverse is ∙ reverse-append rest (Some x ∷ []) in
    ap (λ l. l ++ reverse rest) (map-append Some taken (x ∷ [])) ∙ (append_assoc (map Some taken) (Some x ∷ []) (reverse rest)
    ∙ (ap (λ l. map Some taken ++ l) (sym turned) ∙ so))

-- the beginning of a list with more behind it
start : {A : Type 0} (xs ys : List A) → take (length xs) (xs ++ ys) ≡ xs
start [] ys = refl
start (x ∷ xs) ys = ap (λ l. x ∷ l) (start xs ys)

-- a list that was written in place
pub whole : {A : Type 0} (n : ℕ) (new old : List A) → n ≡ length new → take n (new ++ drop (length new) old) ≡ new
whole n new old is = ap (λ k. take k (new ++ drop (length new) old)) is ∙ start new (drop (length new) old)

module _ {E S W : Type 0} where
  -- an end lies in each place
  pub all_some : (clients : List ℕ) (most : ℕ) (scripts : List ActorScript) (actors : List (Option (ActorEnd E S W))) →
      AllZip (IsEndThere clients most) scripts actors → All (λ a. IsSome a) actors
  all_some clients most [] [] so = All-nil (λ (a : Option (ActorEnd E S W)). IsSome a)
  all_some clients most [] (a ∷ actors) so = absurd so
  all_some clients most (s ∷ scripts) [] so = absurd so
  all_some clients most (s ∷ scripts) (None ∷ actors) so = absurd so.0
  all_some clients most (s ∷ scripts) (Some end ∷ actors) so =
      All-cons (λ (a : Option (ActorEnd E S W)). IsSome a) (Some end) actors refl (all_some clients most scripts actors so.1)

  -- the ids of the ends
  ids_there : (ends : List (ActorEnd E S W)) → map id_there (map Some ends) ≡ map end_id ends
  ids_there [] = refl
  ids_there (end ∷ ends) = ap (λ l. end_id end ∷ l) (ids_there ends)

  -- the ends out of their places
  taken_out : (clients : List ℕ) (most : ℕ) (scripts : List ActorScript) (ends : List (ActorEnd E S W)) →
      AllZip (IsEndThere clients most) scripts (map Some ends) → AllZip (IsEndOf clients most) scripts ends
  taken_out clients most [] [] so = so
  taken_out clients most [] (end ∷ ends) so = so
  taken_out clients most (s ∷ scripts) [] so = so
  taken_out clients most (s ∷ scripts) (end ∷ ends) so = (so.0, taken_out clients most scripts ends so.1)

  -- all have run
  pub have_run : (clients : List ℕ) (most : ℕ) (scripts : List ActorScript)
      (old new : List (Option (ActorEnd E S W))) (ends : List (ActorEnd E S W)) →
      AllZip (IsEndThere clients most) scripts new → clients ≡ map id_there old → map id_there new ≡ map id_there old →
      map Some ends ≡ new → HaveRun most scripts ends
  have_run clients most scripts old new ends so joined same is =
      let ids : clients ≡ map end_id ends = joined ∙ (sym same ∙ (sym (ap (map id_there) is) ∙ ids_there ends)) in
      subst (λ l. AllZip (IsEndOf l most) scripts ends) ids
      (taken_out clients most scripts ends (subst (AllZip (IsEndThere clients most) scripts) (sym is)
      so))
