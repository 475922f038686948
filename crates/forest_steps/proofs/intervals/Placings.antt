-- What the allocation of a root unit makes of a collection and of the pool.
use Rattle.forest_steps.proofs.Common.{ℕ, ◌+◌, ◌≡◌, refl, ap, sym, ◌∙◌, subst, List, [], ◌∷◌, ◌++◌, map, length, Some}
use Rattle.forest_steps.proofs.Common.{Interval, NodeKey, Buffers, HeldBuffer, Collection, range_with_len, names, Mark}
use Rattle.forest_steps.proofs.Common.{places, pages_of, with_buffers, Places, mark_of, pages_in, after_allocation}
use Rattle.forest_steps.proofs.Common.{by_page, laid, name_of, made, arith, append_assoc, laid_out, IsPlacing, any_sorted}
use Rattle.std.proofs.lemmas.List.{map-append}
use Rattle.sm_names.specs.Apart.{at_pages}
use Rattle.sm_names.proofs.PlaceLaws.{places_same}
use Rattle.forest_store.proofs.lists.ByPage.{with_buffers_sorted}

-- ---- buffers at their starts

-- they lie as they are laid out
laid_are : (id pages index : ℕ) (starts : List ℕ) →
    laid id pages index starts ≡ laid_out pages (map (name_of id) (range_with_len index (length starts))) starts
laid_are id pages index [] = refl
laid_are id pages index (s ∷ ss) =
    ap (λ hs. record { buffer = name_of id index; pages = at_pages pages s } ∷ hs)
    (laid_are id pages (index + 1) ss)

-- in front of others
pub scene_laid : (id pages count : ℕ) (starts : List ℕ) (held : List HeldBuffer) → length starts ≡ count →
    laid id pages 0 starts ++ held ≡ laid_out pages (names id count) starts ++ held
scene_laid id pages count starts held many =
    ap (λ hs. hs ++ held) (laid_are id _ 0 _) ∙ ap (λ k. laid_out pages (names id k) starts ++ held) many

-- they take these pages
laid_pages : (id pages index : ℕ) (starts : List ℕ) →
    map (λ (h : HeldBuffer). h.pages) (laid_out pages (map (name_of id) (range_with_len index (length starts))) starts)
    ≡ map (at_pages pages) starts
laid_pages id pages index [] = refl
laid_pages id pages index (s ∷ ss) = ap (λ is. at_pages pages s ∷ is) (laid_pages id pages (index + 1) ss)

-- the pool holds them in order beside what it held
pub pool_laid : (id pages count : ℕ) (starts : List ℕ) (held : List HeldBuffer) (others : List Interval) →
    length starts ≡ count →
    with_buffers pages starts (by_page (map (λ (h : HeldBuffer). h.pages) held ++ others))
    ≡ by_page (map (λ (h : HeldBuffer). h.pages) (laid_out pages (names id count) starts ++ held) ++ others)
pool_laid id pages count starts held others many =
    let all : map (λ (h : HeldBuffer). h.pages) (laid_out pages (names id count) starts ++ held)
    ≡ map (at_pages pages) starts ++ (map (λ (h : HeldBuffer). h.pages) held) =
    map-append (λ (h : HeldBuffer). h.pages) (laid_out pages (names id count) starts) held
    ∙ ap (λ is. is ++ map (λ (h : HeldBuffer). h.pages) held)
    (subst (λ k. map (λ (h : HeldBuffer). h.pages) (laid_out pages (names id k) starts)
    ≡ map (at_pages pages) starts) many (laid_pages id _ 0 _)) in
    with_buffers_sorted pages starts (map (λ (h : HeldBuffer). h.pages) held ++ others)
    ∙ ap by_page (sym (append_assoc (map (at_pages pages) starts) (map (λ (h : HeldBuffer). h.pages) held) others)
    ∙ ap (λ is. is ++ others) (sym all))

-- ---- the mark

-- the order of the held pages does not matter
pub places_sorted : (pool pages count : ℕ) (is : List Interval) →
    places pool pages count (by_page is) ≡ places pool pages count is
places_sorted pool pages count is = places_same pool pages count _ is (λ test. any_sorted _ is)

module _ (pool : ℕ) (others : List Interval) (c : Collection) (head : NodeKey) (wants : Buffers) where
  -- the outcome of the decision
  abbrev step : Mark
  step = mark_of pool (pages_in c ++ others) (Places head wants)

  -- with places the unit is allocated
  pub placed_made : {starts : List ℕ} → IsPlacing c head wants →
      places pool (pages_of wants.size) wants.count (pages_in c ++ others) ≡ Some starts →
      made pool others step c
      ≡ record {
        id = c.id;
        nodes = after_allocation head c.nodes;
        buffers = Some wants;
        held =
            laid_out (pages_of wants.size) (names c.id wants.count) starts ++ c.held;
      }
  placed_made h found = grind arith
