use Rattle.picture_svg.proofs.Common.{List, Shown, ap, arith, shown_at, shown_to, sym, ◌++◌, ◌∙◌, ◌≡◌}
use Rattle.picture_svg.specs.declared.bars.TheConstants.{INDICES}
use Rattle.picture_svg.proofs.Indexes.{shown-more, shown-none}
use Rattle.picture_svg.proofs.bars.bars_of.Goals as goal

-- no index was looked at yet
pub loop-index-init : goal.loop-index-init
loop-index-init c = λ names keeps calls.
    grind (arith, c.new-bars.ensures.items, shown-none c.args.event_writer.now.session.core names c.args.clients.now.items c.args.tree.now)

-- one more index
pub loop-index-preserved : goal.loop-index-preserved
loop-index-preserved c = λ names keeps calls.
    let s = c.args.event_writer.now.session.core in
    let clients = c.args.clients.now.items in
    let tree = c.args.tree.now in
    c.in_ok-add_index.ensures names keeps calls
    ∙ (ap (λ (front : List Shown). front ++ shown_at s names clients tree c.loop-index.index) (c.loop-index.invariant names keeps calls)
    ∙ sym (shown-more s names clients tree c.loop-index.index))

-- all were
pub returns : goal.returns
returns c = λ names keeps calls.
    c.loop-index.invariant names keeps calls
    ∙ ap (shown_to c.args.event_writer.now.session.core names c.args.clients.now.items c.args.tree.now) all
  where
    all : c.loop-index.index ≡ INDICES
    all = omega (arith, c.loop-index.auto.index-end, c.loop-index-test.false)
