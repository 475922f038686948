use Rattle.picture_svg.proofs.Common.{Shown, capped_sum, fold, map, max, shown_in, take, ◌≡◌}
use Rattle.picture_layout.specs.Lengths.{capped_product}
use Rattle.picture_svg.specs.Bars.{words_column}
use Rattle.picture_svg.proofs.bars.right_of.Given as goal

-- that of those so far
abbrev pub invariant-loop-bar : goal.invariant-loop-bar
invariant-loop-bar l = l.right ≡ fold (λ x (b : Shown). max x (capped_sum (words_column l.width) (capped_product 8 b.letters))) l.start
    (map shown_in (take l.bar-index l.bars))
