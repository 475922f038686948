-- The actors of alike plays, place by place.
use Rattle.alike_plays.proofs.Common.{AreAlikeAll, AreAlikeStages, In, Leave, List, NodeKey, None, Option, Some, Stage, [], inl, inr}
use Rattle.alike_plays.proofs.Common.{leave_renamed, left_at, map, option_map, refl, slice_get, slice_set, some-injective, subst, suc}
use Rattle.alike_plays.proofs.Common.{zero, ℕ, ◌∙◌, ◌∷◌, ◌≡◌}

module _ (to : NodeKey → NodeKey) (id number : ℕ → ℕ) where
  -- By the place.
  pub all_at : (ones others : List Stage) → AreAlikeAll to id number ones others → (place : ℕ) (one : Stage) →
      slice_get ones place ≡ Some one → (other : Stage) × (slice_get others place ≡ Some other) × AreAlikeStages to id number one other
  all_at [] [] alike place one at = cc
  all_at [] (b ∷ bs) alike place one at = absurd alike
  all_at (a ∷ as_more) [] alike place one at = absurd alike
  all_at (a ∷ as_more) (b ∷ bs) alike zero one at =
      (b, refl, subst (λ (x : Stage). AreAlikeStages to id number x b) (some-injective a one at) alike.0)
  all_at (a ∷ as_more) (b ∷ bs) alike (suc place) one at = all_at as_more bs alike.1 place one at

  -- By the place.
  pub all_back : (ones others : List Stage) → AreAlikeAll to id number ones others → (place : ℕ) (other : Stage) →
      slice_get others place ≡ Some other → (one : Stage) × (slice_get ones place ≡ Some one) × AreAlikeStages to id number one other
  all_back [] [] alike place other at = cc
  all_back [] (b ∷ bs) alike place other at = absurd alike
  all_back (a ∷ as_more) [] alike place other at = absurd alike
  all_back (a ∷ as_more) (b ∷ bs) alike zero other at =
      (a, refl, subst (λ (x : Stage). AreAlikeStages to id number a x) (some-injective b other at) alike.0)
  all_back (a ∷ as_more) (b ∷ bs) alike (suc place) other at = all_back as_more bs alike.1 place other at

  -- Two that are alike are put at one place.
  pub all_set : (ones others : List Stage) → AreAlikeAll to id number ones others → (place : ℕ) (one other : Stage) →
      AreAlikeStages to id number one other → AreAlikeAll to id number (slice_set ones place one) (slice_set others place other)
  all_set [] [] alike place one other same = tt
  all_set [] (b ∷ bs) alike place one other same = absurd alike
  all_set (a ∷ as_more) [] alike place one other same = absurd alike
  all_set (a ∷ as_more) (b ∷ bs) alike zero one other same = (same, alike.1)
  all_set (a ∷ as_more) (b ∷ bs) alike (suc place) one other same = (alike.0, all_set as_more bs alike.1 place one other same)

  -- Those that leave began to at the same steps.
  pub all_left : (ones others : List Stage) → AreAlikeAll to id number ones others → map left_at others ≡ map left_at ones
  all_left [] [] alike = refl
  all_left [] (b ∷ bs) alike = absurd alike
  all_left (a ∷ as_more) [] alike = absurd alike
  all_left (a ∷ as_more) (b ∷ bs) alike = λ i. same i ∷ all_left as_more bs alike.1 i
    where
      -- by how far it is in leaving
      from : (o : Option Leave) → option_map (λ (l : Leave). a.at) (option_map (leave_renamed to id) o) ≡ option_map (λ (l : Leave). a.at) o
      from None = refl
      from (Some l) = refl

      -- both leave, or none does
      same : left_at b ≡ left_at a
      same = (λ i. option_map (λ (l : Leave). alike.0.at i) (alike.0.vanish i)) ∙ from a.vanish

-- Actor by actor, what is alike under some names is so under others.
pub all_again : (to again : NodeKey → NodeKey) (id later number next : ℕ → ℕ) (ones others : List Stage) →
    AreAlikeAll to id number ones others →
    ((one other : Stage) → In one ones → In other others → AreAlikeStages to id number one other →
    AreAlikeStages again later next one other) → AreAlikeAll again later next ones others
all_again to again id later number next [] [] alike each = tt
all_again to again id later number next [] (b ∷ bs) alike each = absurd alike
all_again to again id later number next (a ∷ as_more) [] alike each = absurd alike
all_again to again id later number next (a ∷ as_more) (b ∷ bs) alike each = (
  each a b (inl refl) (inl refl) alike.0,
  all_again to again id later number next as_more bs alike.1 (λ one other here there. each one other (inr here) (inr there)),
)
