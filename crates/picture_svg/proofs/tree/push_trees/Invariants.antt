use Rattle.picture_svg.proofs.Common.{Calls, FindsTravels, Keeps, List, Names, Travel, length, svg_trees, trees_bottom, trees_right, ◌++◌}
use Rattle.picture_svg.proofs.Common.{◌≡◌}
use Rattle.picture_svg.proofs.tree.push_trees.Given as goal

-- those so far, and those that are left, are all
abbrev pub invariant-trees : goal.invariant-trees
invariant-trees l = (names : Names) → Keeps l.sheet.event_writer.now.session.tables names → Calls l.sheet.event_writer.now.labels names →
    ((steps : List Travel) → FindsTravels l.sheet.travels.now steps →
    l.body.items ++ svg_trees l.sheet.event_writer.now.session.core names l.sheet.clients.now.items steps l.sheet.width l.bottom l.rest
    ≡ l.initial.body.items ++ svg_trees l.sheet.event_writer.now.session.core names l.sheet.clients.now.items steps l.sheet.width
    l.row l.initial.rest)
    × (trees_bottom l.sheet.event_writer.now.session.core names l.sheet.clients.now.items l.sheet.width l.bottom l.rest
    ≡ trees_bottom l.sheet.event_writer.now.session.core names l.sheet.clients.now.items l.sheet.width l.row l.initial.rest)
    × (trees_right l.sheet.event_writer.now.session.core names l.sheet.clients.now.items l.sheet.width l.bottom l.right l.rest
    ≡ trees_right l.sheet.event_writer.now.session.core names l.sheet.clients.now.items l.sheet.width l.row 0 l.initial.rest)

abbrev pub decreases-trees : goal.decreases-trees
decreases-trees l = length l.rest
