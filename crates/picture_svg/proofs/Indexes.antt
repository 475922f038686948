-- The buffers of a tree by index, one index more at a time.
use Rattle.picture_svg.proofs.Common.{List, Names, Shown, [], ap, append-nil, arith, flat_map, map, shown_at, shown_to, ℕ, ◌++◌, ◌∙◌, ◌≡◌}
use Rattle.std.proofs.Common.{refl, ◌+◌, ◌∷◌}
use Rattle.std.specs.List.{range_with_len}
use Rattle.std.proofs.lemmas.Grind.{flat_map-append}
use Rattle.std.proofs.lemmas.List.FromFn.{map-range_with_len_more}
use Rattle.core_state.specs.State.{State}
use Rattle.picture_model.specs.declared.picture.Tree.{Tree}

-- none is below 0
pub shown-none : (s : State) (names : Names) (clients : List ℕ) (tree : Tree) → shown_to s names clients tree 0 ≡ []
unfolding shown_to
shown-none s names clients tree = refl

-- one more comes last
pub shown-more : (s : State) (names : Names) (clients : List ℕ) (tree : Tree) (n : ℕ) →
    shown_to s names clients tree (n + 1) ≡ shown_to s names clients tree n ++ shown_at s names clients tree n
unfolding shown_to
shown-more s names clients tree n =
    let at = shown_at s names clients tree in
    ap (flat_map (λ (shown : List Shown). shown)) (map-range_with_len_more at 0 n n (omega arith))
    ∙ (flat_map-append (λ (shown : List Shown). shown) (map at (range_with_len 0 n)) (at n ∷ [])
    ∙ ap (λ (last : List Shown). shown_to s names clients tree n ++ last) (append-nil (at n)))
