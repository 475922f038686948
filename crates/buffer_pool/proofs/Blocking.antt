-- What stays true of blocks that change.
use Rattle.buffer_pool.proofs.Common.{All-drop, All-set, All-take, AreBlocks, Interval, List, [], all_in, ap, arith, cases_lt, drop}
use Rattle.buffer_pool.proofs.Common.{drop-set-lt, get_or, get_or-set_same, inl, inr, insert, length, length-insert, length-remove}
use Rattle.buffer_pool.proofs.Common.{length-set, length-take-le, nil_from_length, refl, remove, set, subst, suc, sym, take, take-set, ℕ}
use Rattle.buffer_pool.proofs.Common.{◌++◌, ◌+◌, ◌<◌, ◌∙◌, ◌∷◌, ◌≡◌, ◌≤◌}
use Rattle.std.proofs.lemmas.List.{length_push}
use Rattle.std.proofs.lemmas.List.Elements.{All-append, All-cons, All-push}
use Rattle.buffer_pool.proofs.Joins.{without_none, take-remove}

-- intervals in blocks, as the list of the blocks
abbrev Lists : Type 0
Lists = List (List Interval)

-- the block has an interval
abbrev Some : List Interval → Type 0
Some b = 0 < length b

-- the block has no interval
abbrev Empty : List Interval → Type 0
Empty b = b ≡ []

-- another block in the place of one
pub blocks-set : (used spare : Lists) (at : ℕ) (B : List Interval) (cu cs : ℕ) → 0 < length B → AreBlocks used spare cu cs →
    AreBlocks (set used at B) spare cu cs
blocks-set used spare at B cu cs some k =
    let long : length (set used at B) ≡ length used = length-set used at B in
    record {
      some = All-set Some used at B some k.some;
      empty = k.empty;
      has_used_room = omega (arith, k.has_used_room);
      has_spare_room = omega (arith, k.has_spare_room);
    }

-- a spare block is used
pub blocks-begun : (used spare : Lists) (at : ℕ) (B : List Interval) (used' spare' : Lists) (n cu cs cu' cs' : ℕ) → 0 < length B →
    at ≤ length used → used' ≡ insert used at B → spare' ≡ take n spare → n + 1 ≡ length spare → cu ≤ cu' → cs ≤ cs' →
    AreBlocks used spare cu cs → AreBlocks used' spare' cu' cs'
blocks-begun used spare at B used' spare' n cu cs cu' cs' some le is rest one more_u more_s k =
    let long : length (insert used at B) ≡ length used + 1 = length-insert used at B le in
    let short : length (take n spare) ≡ n = length-take-le n spare (omega arith) in
    let all : AreBlocks (insert used at B) (take n spare) cu' cs' =
    record {
      some = All-append Some (take at used) (B ∷ drop at used) (All-take Some at used k.some) (All-cons Some B (drop at used) some
          (All-drop Some at used k.some));
      empty = All-take Empty n spare k.empty;
      has_used_room = omega (arith, k.has_used_room);
      has_spare_room = omega (arith, k.has_spare_room);
    } in
    subst (λ s. AreBlocks used' s cu' cs') (sym rest) (subst (λ u. AreBlocks u (take n spare) cu' cs') (sym is) all)

-- a block of none is spare
pub blocks-gone : (used spare : Lists) (at : ℕ) (B : List Interval) (used' spare' : Lists) (cu cs cu' cs' : ℕ) → B ≡ [] →
    at < length used → used' ≡ remove used at → spare' ≡ spare ++ B ∷ [] → cu ≤ cu' → cs ≤ cs' →
    AreBlocks used spare cu cs → AreBlocks used' spare' cu' cs'
blocks-gone used spare at B used' spare' cu cs cu' cs' none lt is more more_u more_s k =
    let short : length (remove used at) + 1 ≡ length used = length-remove used at lt in
    let long : length (spare ++ B ∷ []) ≡ length spare + 1 = length_push spare B in
    let all : AreBlocks (remove used at) (spare ++ B ∷ []) cu' cs' =
    record {
      some = All-append Some (take at used) (drop (suc at) used) (All-take Some at used k.some) (All-drop Some (suc at) used k.some);
      empty = All-push Empty spare B k.empty none;
      has_used_room = omega (arith, k.has_used_room);
      has_spare_room = omega (arith, k.has_spare_room);
    } in
    subst (λ s. AreBlocks used' s cu' cs') (sym more) (subst (λ u. AreBlocks u (spare ++ B ∷ []) cu' cs') (sym is) all)

-- a block that changed and went
pub remove-set : (L : Lists) (b : ℕ) (B : List Interval) → remove (set L b B) b ≡ remove L b
remove-set L b B = λ i. take-set L b B i ++ drop-set-lt (suc b) L b B (omega arith) i

-- what is true once a block that changed is made spare if it has no interval
pub record IsCleared (used spare : Lists) (at : ℕ) (X : List Interval) (used' spare' : Lists) (cu' cs' : ℕ) : Type 0 where
  pub sound : AreBlocks used' spare' cu' cs'
  pub all : all_in used' ≡ all_in (set used at X)
  pub front : take at used' ≡ take at used
  pub count : length used' + length spare' ≡ length used + length spare

-- a block with an interval stays, and one with none goes to the spare ones
pub cleared : (used spare : Lists) (at n : ℕ) (X : List Interval) (used' spare' : Lists) (cu cs cu' cs' : ℕ) → at < length used →
    n ≡ length (get_or (set used at X) at []) → (n ≡ 0 → (used' ≡ remove (set used at X) at) × (spare' ≡ spare ++ [] ∷ [])) →
    (0 < n → (used' ≡ set used at X) × (spare' ≡ spare)) → cu ≤ cu' → cs ≤ cs' → AreBlocks used spare cu cs →
    IsCleared used spare at X used' spare' cu' cs'
cleared used spare at n X used' spare' cu cs cu' cs' lt is gone kept more_u more_s k =
    let here : get_or (set used at X) at [] ≡ X = get_or-set_same used at X [] lt in
    let size : n ≡ length X = is ∙ ap length here in
    let long : length (set used at X) ≡ length used = length-set used at X in
    elim (cases_lt 0 n) [
      | inl some ↦
          let p = kept some in
          let b = blocks-set used spare at X cu cs (omega arith) k in
          let sound : AreBlocks (set used at X) spare cu' cs' = record {
            some = b.some;
            empty = b.empty;
            has_used_room = omega (arith, b.has_used_room);
            has_spare_room = omega (arith, b.has_spare_room);
          } in
          record {
            sound = subst (λ s. AreBlocks used' s cu' cs') (sym p.1) (subst (λ u. AreBlocks u spare cu' cs') (sym p.0) sound);
            all = ap all_in p.0;
            front = ap (take at) p.0 ∙ take-set used at X;
            count = omega (arith, ap length p.0, ap length p.1);
          }
      | inr none ↦
          let p = gone (omega arith) in
          let empty : X ≡ [] = nil_from_length X (omega arith) in
          record {
            sound = blocks-gone used spare at [] used' spare' cu cs cu' cs' refl lt (p.0 ∙ remove-set used at X) p.1 more_u more_s k;
            all = ap all_in p.0 ∙ without_none (set used at X) at (omega arith) (here ∙ empty);
            front = ap (take at) p.0 ∙ take-remove (set used at X) at at (omega arith) (omega arith) ∙ take-set used at X;
            count = omega (
              arith,
              ap length p.0,
              ap length p.1,
              length-remove (set used at X) at (omega arith),
              length_push spare [],
            );
          }
    ]
