use Rattle.picture_svg.proofs.Common.{Keeps, Names, fires_bottom, length, svg_fires, ◌++◌, ◌≡◌}
use Rattle.picture_svg.proofs.picture.push_fires.Given as goal

-- those so far, and those that are left, are all
abbrev pub invariant-firings : goal.invariant-firings
invariant-firings l = ((names : Names) → Keeps l.tables names →
    l.body.items ++ svg_fires names l.y l.rest ≡ l.initial.body.items ++ svg_fires names l.row l.initial.rest)
    × (fires_bottom l.y l.rest ≡ fires_bottom l.row l.initial.rest)

abbrev pub decreases-firings : goal.decreases-firings
decreases-firings l = length l.rest
