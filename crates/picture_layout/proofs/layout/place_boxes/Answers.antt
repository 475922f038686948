use Rattle.std.proofs.Common.{◌≡◌, ◌∙◌, ap, sym, ℕ, List, [], ◌∷◌, ◌++◌, append-nil, arith, length}
use Rattle.std.proofs.lemmas.List.{nil_from_length}
use Rattle.forest_store.specs.declared.node.Node.{Node}
use Rattle.picture_layout.specs.declared.layout.NodeBox.{NodeBox}
use Rattle.picture_layout.specs.Layouts.{box_of, boxes_from}
use Rattle.picture_layout.proofs.Places.{box-more}
use Rattle.picture_layout.proofs.layout.place_boxes.Goals as goal

-- one more node
pub nodes-preserved : goal.nodes-preserved
nodes-preserved c = λ keys has.
    let boxes : List NodeBox = c.nodes.boxes.items in
    let n : Node = c.in-Some.node.now in
    let at : c.len.result ≡ length boxes = grind arith in
    let pushed : c.push.new.self.items ≡ boxes ++ box_of c.args.start c.args.parents.now c.args.corners.now keys (length boxes) n ∷ [] =
    c.in_ok-push.ensures.items
    ∙ (ap (λ (s : NodeBox). boxes ++ s ∷ []) (c.box_at.ensures keys has)
    ∙ ap (λ (k : ℕ). boxes ++ box_of c.args.start c.args.parents.now c.args.corners.now keys k n ∷ []) at) in
    box-more c.args.start c.args.parents.now c.args.corners.now keys n c.nodes.rest.now c.in-Some.later.now boxes c.push.new.self.items
    c.in-Some.ensures.cases.0 pushed
    ∙ c.nodes.invariant keys has

-- none is left
pub returns : goal.returns
returns c = λ keys has.
    sym (append-nil c.nodes.boxes.items)
    ∙ (ap (λ (ns : List Node). c.nodes.boxes.items ++ boxes_from c.args.start c.args.parents.now c.args.corners.now keys
    (length c.nodes.boxes.items) ns)
    (sym (nil_from_length c.nodes.rest.now c.in_default.ensures.cases))
    ∙ (c.nodes.invariant keys has
    ∙ ap (boxes_from c.args.start c.args.parents.now c.args.corners.now keys 0) c.as_slice-rest.ensures.value))
