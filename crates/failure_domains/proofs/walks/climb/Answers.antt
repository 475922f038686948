use Rattle.failure_domains.proofs.Common.{IsForest, Start, Step, arith, depth_at, sym, table_len, ◌+◌, ◌<◌, ◌≡◌}
use Rattle.std.proofs.Common.{add-one}
use Rattle.failure_domains.proofs.Climbs.{table_len-there, way_up-Some, climb_depth}
use Rattle.failure_domains.proofs.walks.climb.Goals as goal

pub up-init : goal.up-init
up-init g c = record { path = Start; there = c.requires; forest = λ more. absurd (omega arith) }

-- the way up is open, and leads to the parent
pub up-preserved : goal.up-preserved
up-preserved g c =
    let forest : IsForest c.args.table.now = c.in-Some.ensures.forest in
    let open_link =
    way_up-Some g.N.Link.blocks c.args.table.now forest c.up.top c.in-Some.above (sym c.in-Some.ensures.value) in
    record {
      path = rw add-one (Step c.up.top c.in-Some.above c.up.steps c.up.invariant.path open_link.0 open_link.1);
      there = forest.parent_there c.in-Some.above c.up.top open_link.1;
      forest = λ _. forest;
    }

-- a climb has fewer steps than the table has nodes
pub unreachable-requires : goal.unreachable-requires
unreachable-requires g c =
    let some : 0 < table_len c.args.table.now = table_len-there c.args.table.now c.args.origin c.requires in
    let forest : IsForest c.args.table.now = c.up.invariant.forest (omega arith) in
    let deep : depth_at c.args.table.now c.args.origin ≡ c.up.steps + depth_at c.args.table.now c.up.top =
    climb_depth g.N.Link.blocks c.args.table.now forest c.args.origin c.up.top c.up.steps c.up.invariant.path in
    let shallow : depth_at c.args.table.now c.args.origin < table_len c.args.table.now =
    forest.shallow c.args.origin c.requires in
    omega arith
