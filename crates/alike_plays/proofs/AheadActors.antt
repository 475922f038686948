-- Actors of plays that are alike but for what lies behind those that leave.
use Rattle.alike_plays.proofs.Common.{AreAlikeAhead, AreAlikeAll, AreAlikePlays, AreAlikeStages, Bool, GoesByEarly, In-map, Leave, List}
use Rattle.alike_plays.proofs.Common.{NodeKey, None, Option, Position, Reply, Setup, Some, Stage, [], ahead, ahead_by, ahead_of, ap}
use Rattle.alike_plays.proofs.Common.{both_ways, cond, early_in, either_way, eq-eqb, eqb-true, false, get-other, given, going_on, inl}
use Rattle.alike_plays.proofs.Common.{inr, is_some, leave_renamed, left_at, length, made_of, made_renamed, map, map-Some, none_is}
use Rattle.alike_plays.proofs.Common.{option_map, option_map_or, refl, slice_get, slice_get-map, slice_set, some-injective, subst, suc}
use Rattle.alike_plays.proofs.Common.{sym, true, zero, ℕ, ◌+◌, ◌==◌, ◌∙◌, ◌∷◌, ◌≡◌, ◌≤◌, ◌⊎◌}
use Rattle.actor_plays.proofs.PositionLaws.{get-set}
use Rattle.alike_plays.specs.Ahead.{count_early, early_first}
use Rattle.alike_plays.proofs.Ahead.{ahead-alike, ahead_known, plain, plain_back, same_vanish}
use Rattle.alike_plays.proofs.Places.{all_at, all_left}
use Rattle.alike_plays.proofs.Reaching.{IsKnown, IsSeen}

-- ---- lists

-- The new element is mapped too.
pub map-put : {A B : Type 0} (f : A → B) (xs : List A) (i : ℕ) (y : A) → map f (slice_set xs i y) ≡ slice_set (map f xs) i (f y)
map-put f [] i y = refl
map-put f (x ∷ xs) zero y = refl
map-put f (x ∷ xs) (suc i) y = ap (λ more. f x ∷ more) (map-put f xs i y)

-- Element by element.
pub map-twice : {A : Type 0} (f : A → A) → ((x : A) → f (f x) ≡ f x) → (xs : List A) → map f (map f xs) ≡ map f xs
map-twice f same [] = refl
map-twice f same (x ∷ xs) = λ i. same x i ∷ map-twice f same xs i

-- ---- who began early

-- Where the same ones began early, and of one actor the same is told, they are told alike with it.
pub early_put : (early : ℕ → ℕ → Bool) (xs ys : List (Option ℕ)) (i : ℕ) (x y : Option ℕ) →
    ((place : ℕ) → early_in early ys place ≡ early_in early xs place) → is_some (slice_get xs i) ≡ true →
    option_map (early i) y ≡ option_map (early i) x →
    (place : ℕ) → early_in early (slice_set ys i y) place ≡ early_in early (slice_set xs i x) place
early_put early xs ys i x y told there same place = by (either_way (i == place))
  where
    -- what stands there is replaced
    own : (zs : List (Option ℕ)) (z : Option ℕ) (o : Option (Option ℕ)) → slice_get zs i ≡ o → is_some o ≡ true →
        early_in early (slice_set zs i z) i ≡ Some (option_map (early i) z)
    own zs z None at some = cc
    own zs z (Some old) at some = ap (option_map (option_map (early i))) (get-set zs i old z at)

    -- something stands in both
    both : is_some (slice_get ys i) ≡ true
    both = sym (mapped (slice_get ys i)) ∙ (ap is_some (told i) ∙ (mapped (slice_get xs i) ∙ there))
      where
        -- by whether something stands there
        mapped : (o : Option (Option ℕ)) → is_some (option_map (option_map (early i)) o) ≡ is_some o
        mapped None = refl
        mapped (Some z) = refl

    -- by whether it is this place
    by : (i == place ≡ true) ⊎ (i == place ≡ false) →
        early_in early (slice_set ys i y) place ≡ early_in early (slice_set xs i x) place
    by (inl is) = subst (λ (k : ℕ). early_in early (slice_set ys i y) k ≡ early_in early (slice_set xs i x) k) (eqb-true i place is)
        (own ys y (slice_get ys i) refl both ∙ (ap Some same ∙ sym (own xs x (slice_get xs i) refl there)))
    by (inr other) = ap (option_map (option_map (early place))) (get-other ys i place y apart)
        ∙ (told place ∙ sym (ap (option_map (option_map (early place))) (get-other xs i place x apart)))
      where
        -- it is another place
        apart : i ≡ place → ⊥
        apart is = both_ways (i == place) (eq-eqb i place is) other

-- By cases.
flag-told : (test : ℕ → Bool) (o : Option (Option ℕ)) →
    option_map_or (λ (x : Option ℕ). option_map_or test x false) o false
    ≡ option_map_or (λ (x : Option Bool). option_map_or (λ (b : Bool). b) x false) (option_map (option_map test) o) false
flag-told test None = refl
flag-told test (Some None) = refl
flag-told test (Some (Some n)) = refl

-- The same ones began early, so as many of the first did.
first-alike : (early : ℕ → ℕ → Bool) (xs ys : List (Option ℕ)) → ((place : ℕ) → early_in early ys place ≡ early_in early xs place) →
    (n : ℕ) → early_first early ys n ≡ early_first early xs n
first-alike early xs ys told zero = refl
first-alike early xs ys told (suc n) =
    λ i. first-alike early xs ys told n i + cond ((flag-told (early n) (slice_get ys n)
    ∙ (ap (λ (o : Option (Option Bool)). option_map_or (λ (x : Option Bool). option_map_or (λ (b : Bool). b) x false) o false) (told n)
    ∙ sym (flag-told (early n) (slice_get xs n)))) i) 1 0

-- There are as many actors.
length-alike : (early : ℕ → ℕ → Bool) (xs ys : List (Option ℕ)) → ((place : ℕ) → early_in early ys place ≡ early_in early xs place) →
    length ys ≡ length xs
length-alike early [] [] told = refl
length-alike early [] (y ∷ ys) told = let none : Some (option_map (early 0) y) ≡ None = told 0 in cc
length-alike early (x ∷ xs) [] told = let none : None ≡ Some (option_map (early 0) x) = told 0 in cc
length-alike early (x ∷ xs) (y ∷ ys) told = ap suc (length-alike (λ place. early (suc place)) xs ys (λ place. told (suc place)))

-- So as many of all did.
count-alike : (early : ℕ → ℕ → Bool) (xs ys : List (Option ℕ)) → ((place : ℕ) → early_in early ys place ≡ early_in early xs place) →
    count_early early ys ≡ count_early early xs
count-alike early xs ys told =
    ap (early_first early ys) (length-alike early xs ys told) ∙ first-alike early xs ys told (length xs)

-- So who may begin is told by who began early, if it is told by how many did.
pub counts_early : (setup : Setup) (early : ℕ → ℕ → Bool) (may : ℕ → ℕ → ℕ → Bool) →
    ((begun : List (Option ℕ)) (actor at : ℕ) → setup.may_leave begun actor at ≡ may (count_early early begun) actor at) →
    GoesByEarly early setup
counts_early setup early may told begun again same actor at =
    told again actor at ∙ (ap (λ (n : ℕ). may n actor at) (count-alike early begun again same) ∙ sym (told begun actor at))

-- ---- without what lies behind

-- Stage by stage.
all_ahead : (to : NodeKey → NodeKey) (id number : ℕ → ℕ) (ones others : List Stage) → AreAlikeAll to id number ones others →
    AreAlikeAll to id number (map ahead_of ones) (map ahead_of others)
all_ahead to id number [] [] alike = tt
all_ahead to id number [] (b ∷ bs) alike = absurd alike
all_ahead to id number (a ∷ as_more) [] alike = absurd alike
all_ahead to id number (a ∷ as_more) (b ∷ bs) alike =
    (ahead-alike to id number a b alike.0, all_ahead to id number as_more bs alike.1)

-- Plays that are alike are so without what lies behind.
pub both_ahead : (one other : Position) → AreAlikePlays one other → AreAlikePlays (ahead one) (ahead other)
both_ahead one other alike = record {
  to = alike.to;
  id = alike.id;
  number = alike.number;
  keeps = alike.keeps;
  kept = alike.kept;
  counted = alike.counted;
  cores = alike.cores;
  stages = all_ahead alike.to alike.id alike.number one.stages other.stages alike.stages;
  fallen = alike.fallen;
}

-- And who leaves began to at the same steps.
pub exactly_ahead : (early : ℕ → ℕ → Bool) (one other : Position) → AreAlikePlays one other → AreAlikeAhead early one other
exactly_ahead early one other alike = record {
  alike = both_ahead one other alike;
  began = λ place. ap (λ (begun : List (Option ℕ)). early_in early begun place)
      (all_left alike.to alike.id alike.number one.stages other.stages alike.stages);
}

-- The core shows the same history, and actors know less.
pub seen_ahead : (p : Position) → IsSeen p → IsSeen (ahead p)
seen_ahead p seen = record {
  history = seen.history;
  shows = seen.shows;
  known = λ stage there.
      let old = In-map ahead_of p.stages stage there in
      subst (IsKnown p.core) (sym old.2)
      (ahead_known (λ key. given p.core.forest key ≡ true) (λ i. i ≤ p.core.events) (λ n. n ≤ p.core.events) old.0
      (seen.known old.0 old.1));
  fell = seen.fell;
}

-- At each place stands what is ahead of the actor.
pub at_ahead : (p : Position) (actor : ℕ) (stage : Stage) → slice_get p.stages actor ≡ Some stage →
    slice_get (ahead p).stages actor ≡ Some (ahead_of stage)
at_ahead p actor stage at = slice_get-map ahead_of p.stages actor ∙ ap (option_map ahead_of) at

-- So an actor stands there.
at_back : (p : Position) (actor : ℕ) (stage : Stage) → slice_get (ahead p).stages actor ≡ Some stage →
    (s : Stage) × (slice_get p.stages actor ≡ Some s) × (ahead_of s ≡ stage)
at_back p actor stage at = map-Some ahead_of (slice_get p.stages actor) stage (sym (slice_get-map ahead_of p.stages actor) ∙ at)

-- An actor that does not leave stands where it did.
pub at_plain : (p : Position) (actor : ℕ) (stage : Stage) → slice_get (ahead p).stages actor ≡ Some stage → stage.vanish ≡ None →
    slice_get p.stages actor ≡ Some stage
at_plain p actor stage at none =
    let old = at_back p actor stage at in
    old.1 ∙ ap Some (plain_back old.0 stage old.2 none).0

-- What an actor that does not leave goes on to is ahead of it.
pub put_plain : (p : Position) (actor : ℕ) (stage : Stage) → stage.vanish ≡ None →
    map ahead_of (slice_set p.stages actor stage) ≡ slice_set (map ahead_of p.stages) actor stage
put_plain p actor stage none =
    map-put ahead_of p.stages actor stage ∙ ap (slice_set (map ahead_of p.stages) actor) (plain stage none)

module _ (early : ℕ → ℕ → Bool) (actor : ℕ) (one other : Position) (like : AreAlikeAhead early one other) where
  -- the second actor is where the first is, ahead
  abbrev pub Same : Stage → Stage → Type 0
  Same stage same = AreAlikeStages like.alike.to like.alike.id like.alike.number (ahead_of stage) (ahead_of same)

  -- At a place of both stand two that are alike ahead.
  pub same_at : (stage : Stage) → slice_get one.stages actor ≡ Some stage →
      (same : Stage) × (slice_get other.stages actor ≡ Some same) × Same stage same
  same_at stage at =
      let a = all_at like.alike.to like.alike.id like.alike.number (ahead one).stages (ahead other).stages like.alike.stages actor
      (ahead_of stage) (at_ahead one actor stage at) in
      let b = at_back other actor a.0 a.1 in (
        b.0,
        b.1,
        subst (AreAlikeStages like.alike.to like.alike.id like.alike.number (ahead_of stage)) (sym b.2) a.2,
      )

  -- Both leave, or none does.
  pub both_leave : (stage same : Stage) → Same stage same → is_some same.vanish ≡ is_some stage.vanish
  both_leave stage same are =
      sym (same_vanish same) ∙ (ap is_some are.vanish ∙ (from (ahead_of stage).vanish ∙ same_vanish stage))
    where
      -- by how far it is
      from : (o : Option Leave) → is_some (option_map (leave_renamed like.alike.to like.alike.id) o) ≡ is_some o
      from None = refl
      from (Some l) = refl

  -- If none does, they are at the same step.
  pub same_step : (stage same : Stage) → Same stage same → is_some stage.vanish ≡ false → same.at ≡ stage.at
  same_step stage same are none =
      sym (ap (λ (s : Stage). s.at) (plain same (none_is same.vanish (both_leave stage same are ∙ none))))
      ∙ (are.at ∙ ap (λ (s : Stage). s.at) (plain stage (none_is stage.vanish none)))

  -- Two that stand at one place are alike ahead.
  pub both_at : (stage same : Stage) → slice_get one.stages actor ≡ Some stage → slice_get other.stages actor ≡ Some same → Same stage same
  both_at stage same at at_too =
      let there = same_at stage at in
      subst (Same stage) (some-injective there.0 same (sym there.1 ∙ at_too)) there.2

  -- Nothing that was made is left out.
  made_stays : (stage : Stage) → (ahead_of stage).made ≡ stage.made
  made_stays stage = by stage.vanish
    where
      -- by whether parcels wait
      goes : (b : Bool) (l : Leave) → (going_on b stage l).made ≡ stage.made
      goes true l = refl
      goes false l = refl

      -- by how far it is
      by : (o : Option Leave) → (ahead_by stage o).made ≡ stage.made
      by None = refl
      by (Some l) = goes (l.waiting == 0) l

  -- The same steps made the same.
  pub made_there : (stage same : Stage) → slice_get one.stages actor ≡ Some stage → slice_get other.stages actor ≡ Some same →
      made_of same.made ≡ map (made_renamed like.alike.to like.alike.id like.alike.number) (made_of stage.made)
  made_there stage same at at_too =
      ap made_of (sym (made_stays same))
      ∙ ((both_at stage same at at_too).made
      ∙ ap (λ (made : List (ℕ × Reply)). map (made_renamed like.alike.to like.alike.id like.alike.number) (made_of made))
      (made_stays stage))

  -- where it began stands at its place
  pub at_left : (p : Position) (stage : Stage) → slice_get p.stages actor ≡ Some stage →
      slice_get (map left_at p.stages) actor ≡ Some (left_at stage)
  at_left p stage at = slice_get-map left_at p.stages actor ∙ ap (option_map left_at) at

  -- Both are at one step, or began alike.
  pub steps_there : (stage same : Stage) → slice_get one.stages actor ≡ Some stage → slice_get other.stages actor ≡ Some same →
      (option_map (early actor) (left_at same) ≡ option_map (early actor) (left_at stage))
      × (is_some stage.vanish ≡ false → same.at ≡ stage.at)
  steps_there stage same at at_too = (
    some-injective (option_map (early actor) (left_at same)) (option_map (early actor) (left_at stage))
        (sym (ap (option_map (option_map (early actor))) (at_left other same at_too))
        ∙ (like.began actor ∙ ap (option_map (option_map (early actor))) (at_left one stage at))),
    same_step stage same (both_at stage same at at_too),
  )
