use Rattle.failure_domains.proofs.Common.{All, All-append, IsForest, IsSome, IsWalk, NodeKey, arith, children_within, common_steps}
use Rattle.failure_domains.proofs.Common.{depth_at, false, length, length-append, row_at, subst, sym, table_len, true, ◌++◌, ◌+◌, ◌<◌}
use Rattle.failure_domains.proofs.Common.{◌≡◌, ◌≤◌}
use Rattle.std.proofs.Common.{IsOk}
use Rattle.failure_domains.proofs.Bounds.{first_goes_on, within_apart, within_fewer}
use Rattle.failure_domains.proofs.Descents.{walk_steps}
use Rattle.failure_domains.proofs.Rooms.{children_there, keys_fit}
use Rattle.failure_domains.proofs.walks.walk.Goals as goal

-- the children of the next key were appended
pub down-preserved : goal.down-preserved
down-preserved g c =
    let t = c.args.table.now in
    let stops = g.B.WalkBound.stops c.args.bound.now in
    let top : NodeKey = c.args.top in
    let keys = c.down.keys.items in
    let key = c.index.result.now in
    let forest : IsForest t =
    first_goes_on stops t top (IsForest t) c.down.visits keys c.down.invariant.walk.layers key c.index.ensures
    c.down.invariant.forest c.append_within.ensures.forest in
    let appended : c.append_within.new.keys.items ≡ keys ++ children_within stops t top key = c.in_ok-append_within.ensures.ok in
    let more : c.down.visits < length keys = omega arith in
    record {
      walk = subst (λ ks. IsWalk (children_within stops t top) (depth_at t) top (c.down.visits + 1) ks) (sym appended)
          (walk_steps t top (children_within stops t top) forest (within_fewer stops t top) (within_apart stops t top forest)
          c.down.visits keys c.down.invariant.walk more key (sym c.index.ensures));
      forest = λ _. forest;
      there = subst (All (λ k. IsSome (row_at t k))) (sym appended)
          (All-append (λ k. IsSome (row_at t k)) keys (children_within stops t top key) c.down.invariant.there
          (children_there t forest key (children_within stops t top key) (within_fewer stops t top key)));
      capacity = omega arith;
    }

-- with the children of the next key there are no more keys than nodes
pub returns-in_err-append_within-clause-room : goal.returns-in_err-append_within-clause-room
returns-in_err-append_within-clause-room g c h =
    let t = c.args.table.now in
    let stops = g.B.WalkBound.stops c.args.bound.now in
    let top : NodeKey = c.args.top in
    let keys = c.down.keys.items in
    let key = c.index.result.now in
    let below = children_within stops t top key in
    let forest : IsForest t =
    first_goes_on stops t top (IsForest t) c.down.visits keys c.down.invariant.walk.layers key c.index.ensures
    c.down.invariant.forest c.append_within.ensures.forest in
    let more : c.down.visits < length keys = omega arith in
    let walk =
    walk_steps t top (children_within stops t top) forest (within_fewer stops t top) (within_apart stops t top forest)
    c.down.visits keys c.down.invariant.walk more key (sym c.index.ensures) in
    let fit : length (keys ++ below) ≤ table_len t = keys_fit t (keys ++ below) walk.once
    (All-append (λ k. IsSome (row_at t k)) keys below c.down.invariant.there
    (children_there t forest key below (within_fewer stops t top key))) in
    let both = length-append keys below in
    let never : false ≡ true = subst IsOk c.in_err-append_within.was
    (c.append_within.ensures.room (omega (arith, h, fit, both, c.down.keys.ok, c.down.invariant.capacity))) in
    cc

-- by arithmetic and the usual steps
pub returns-then-is_err-clause-room : goal.returns-then-is_err-clause-room
returns-then-is_err-clause-room g c = grind (arith, common_steps)
