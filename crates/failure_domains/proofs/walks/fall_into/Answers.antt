use Rattle.failure_domains.proofs.Common.{IsWalk, List, NodeKey, Table, arith, children_at, children_within, depth_at, false, length}
use Rattle.failure_domains.proofs.Common.{links_climbed, subst, ◌+◌, ◌<◌, ◌≡◌, ◌≤◌}
use Rattle.failure_domains.proofs.Bounds.{all_within}
use Rattle.failure_domains.proofs.Climbs.{climb_links, links_climbed-top, links_within-most}
use Rattle.failure_domains.proofs.Descents.{walk_by_layers}
use Rattle.failure_domains.proofs.Reaches.{climb_is_short, keys_are_taken}
use Rattle.failure_domains.proofs.walks.fall_into.Goals as goal

-- a walk without a bound
whole_walk : {N : Type 0} (t : Table N) (top : NodeKey) (keys : List NodeKey) →
    IsWalk (children_within (λ _. false) t top) (depth_at t) top (length keys) keys →
    IsWalk (children_at t) (depth_at t) top (length keys) keys
whole_walk t top keys walk = subst (λ d. IsWalk d (depth_at t) top (length keys) keys) (all_within t top) walk

-- the climb is shorter than the list, and a list is short
pub overflow_add-result : goal.overflow_add-result
overflow_add-result g c =
    let climb = c.climb-steps in
    let walk = c.in-Ok in
    let short : climb.result.1 < length c.walk.new.keys.items =
    climb_is_short g.N.Link.blocks c.args.table.now walk.ensures.forest c.args.origin
    climb.result.0 climb.result.1 climb.ensures.path c.walk.new.keys.items
    (whole_walk c.args.table.now climb.result.0 c.walk.new.keys.items walk.ensures.keys) in
    omega (arith, walk.ensures.visits, walk.ensures.few)

-- the climb and the walk find what the failure takes
pub returns-clause-keys : goal.returns-clause-keys
returns-clause-keys g c =
    let climb = c.climb-steps in
    let walk = c.in-Ok in
    keys_are_taken g.N.Link.blocks c.args.table.now walk.ensures.forest c.args.origin
    climb.result.0 climb.result.1 climb.ensures.path c.walk.new.keys.items
    (whole_walk c.args.table.now climb.result.0 c.walk.new.keys.items walk.ensures.keys) climb.ensures.top

-- the climb counts its links, and none is left above its top
pub returns-clause-visits : goal.returns-clause-visits
returns-clause-visits g c =
    let t = c.args.table.now in
    let climb = c.climb-steps in
    let walk = c.in-Ok in
    let links : links_climbed g.N.Link.blocks t c.args.origin
    ≡ climb.result.1 + links_climbed g.N.Link.blocks t climb.result.0 =
    climb_links g.N.Link.blocks t walk.ensures.forest c.args.origin climb.result.0 climb.result.1 climb.ensures.path in
    let none : links_climbed g.N.Link.blocks t climb.result.0 ≡ 0 =
    links_climbed-top g.N.Link.blocks t walk.ensures.forest climb.result.0 climb.ensures.top in
    omega (arith, walk.ensures.visits, c.walk.new.keys.ok)

-- no more links are climbed than there are above the origin
pub returns-clause-few_visits : goal.returns-clause-few_visits
returns-clause-few_visits g c =
    let t = c.args.table.now in
    let visits = returns-clause-visits g c in
    let few : links_climbed g.N.Link.blocks t c.args.origin ≤ depth_at t c.args.origin =
    links_within-most g.N.Link.blocks t c.in-Ok.ensures.forest (depth_at t c.args.origin) c.args.origin in
    omega (arith, visits)

-- the keys stand by layers
pub returns-clause-layers : goal.returns-clause-layers
returns-clause-layers g c =
    let t = c.args.table.now in
    let top : NodeKey = c.climb-steps.result.0 in
    walk_by_layers t top (children_at t) c.walk.new.keys.items
    (whole_walk t top c.walk.new.keys.items c.in-Ok.ensures.keys)
