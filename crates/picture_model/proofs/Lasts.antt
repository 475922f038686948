-- What the last element of a list decides.
use Rattle.picture_model.proofs.Common.{List, Moment, Node, NodeKey, [], refl, ◌++◌, ◌∷◌, ◌≡◌}
use Rattle.picture_model.specs.PictureStates.{marked, top_of, walked_from}

-- the last mark decides
pub walked-last : (nodes : List Node) (before : List Moment) (m : Moment) →
    walked_from nodes (before ++ m ∷ []) ≡ marked m.before.nodes.items m.mark
walked-last nodes [] m = refl
walked-last nodes (n ∷ before) m = walked-last (marked n.before.nodes.items n.mark) before m

-- the last key is on top
pub top-last : (origin : NodeKey) (below : List NodeKey) (key : NodeKey) → top_of origin (below ++ key ∷ []) ≡ key
top-last origin [] key = refl
top-last origin (k ∷ below) key = top-last k below key
