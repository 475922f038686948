-- Actors that are alike, one after another.
use Rattle.play_likeness.proofs.Common.{Actor, AreAlikeAll, AreAlikeStages, List, NodeKey, Stage, [], ap, get_or, length, map, subst, sym}
use Rattle.play_likeness.proofs.Common.{take, take_all, take_more, ℕ, ◌+◌, ◌<◌, ◌∙◌, ◌∷◌, ◌≡◌, ◌≤◌}
use Rattle.std.proofs.Common.{◌++◌}
use Rattle.std.proofs.lemmas.List.{map-append}

module _ (to : NodeKey → NodeKey) (id number : ℕ → ℕ) where
  -- One more comes last.
  all-push : (ones others : List Stage) (one other : Stage) → AreAlikeAll to id number ones others →
      AreAlikeStages to id number one other →
      AreAlikeAll to id number (ones ++ one ∷ []) (others ++ other ∷ [])
  all-push [] [] one other all more = (more, tt)
  all-push [] (t ∷ ts) one other all more = absurd all
  all-push (s ∷ ss) [] one other all more = absurd all
  all-push (s ∷ ss) (t ∷ ts) one other all more = (all.0, all-push ss ts one other all.1 more)

  -- Actor by actor.
  pub all-more : (f : Actor → Stage) (ones others : List Actor) (i : ℕ) (d e : Actor) → i < length ones → i < length others →
      AreAlikeAll to id number (map f (take i ones)) (map f (take i others)) →
      AreAlikeStages to id number (f (get_or ones i d)) (f (get_or others i e)) →
      AreAlikeAll to id number (map f (take (i + 1) ones)) (map f (take (i + 1) others))
  all-more f ones others i d e within there all more =
      let new = all-push (map f (take i ones)) (map f (take i others)) (f (get_or ones i d)) (f (get_or others i e)) all more in
      let one : map f (take (i + 1) ones) ≡ map f (take i ones) ++ f (get_or ones i d) ∷ [] =
      ap (map f) (take_more ones i d within) ∙ map-append f (take i ones) (get_or ones i d ∷ []) in
      let other : map f (take (i + 1) others) ≡ map f (take i others) ++ f (get_or others i e) ∷ [] =
      ap (map f) (take_more others i e there) ∙ map-append f (take i others) (get_or others i e ∷ []) in
      subst (λ (l : List Stage). AreAlikeAll to id number l (map f (take (i + 1) others))) (sym one)
      (subst (AreAlikeAll to id number (map f (take i ones) ++ f (get_or ones i d) ∷ [])) (sym other) new)

  -- At the end all are.
  pub all-done : (f : Actor → Stage) (ones others : List Actor) (i : ℕ) → length ones ≤ i → length others ≤ i →
      AreAlikeAll to id number (map f (take i ones)) (map f (take i others)) → AreAlikeAll to id number (map f ones) (map f others)
  all-done f ones others i all both alike =
      subst (λ (l : List Actor). AreAlikeAll to id number (map f l) (map f others)) (take_all i ones all)
      (subst (λ (l : List Actor). AreAlikeAll to id number (map f (take i ones)) (map f l)) (take_all i others both) alike)
