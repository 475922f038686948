use Rattle.std.proofs.Common.{◌∙◌, sym, arith, ◌++◌, ◌∷◌, []}
use Rattle.std.proofs.lemmas.List.FromFn.{map-range_with_len_more}
use Rattle.picture_layout.specs.Layouts.{corner_at}
use Rattle.picture_layout.proofs.layout.corners_over.Goals as goal

-- one more comes last
pub loop-at-preserved : goal.loop-at-preserved
loop-at-preserved c =
    c.in_ok-push.ensures.items
    ∙ ((λ i. c.loop-at.invariant i ++ c.corner_under.ensures i ∷ [])
    ∙ sym (map-range_with_len_more
    (corner_at c.args.start c.args.pitch c.args.grid.now.widths.items c.args.grid.now.columns.items c.args.grid.now.depths.items)
    0 c.loop-at.at c.loop-at.at
    (omega arith)))
