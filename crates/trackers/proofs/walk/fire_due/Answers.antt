use Rattle.trackers.proofs.Common.{List, Waiter, World, ap, arith, drop_more, get_or, ids_of, length, length_push, subst, ◌∙◌}
use Rattle.std.proofs.lemmas.List.{drop_all}
use Rattle.trackers.proofs.Walks.{Walked, met_row, no_waiter, stand_here, stands_found, stands_step, walked_rows, walked_fired}
use Rattle.trackers.proofs.walk.fire_due.Goals as goal

-- the walk stands at a row that waits
pub fire_by_id-requires-clause-waits : goal.fire_by_id-requires-clause-waits
fire_by_id-requires-clause-waits g c =
    let w : World = g.W.World.seen c.args.world.now in
    let stands = stand_here w c.args.event c.args.rows.now.rows c.args.rows.now.fired c.loop-waiter.rows.rows c.loop-waiter.rows.fired
    c.args.due.now c.loop-waiter.waiter-index c.loop-waiter-test.true c.loop-waiter.invariant.walked in (
      length stands.done,
      stands.row,
      stands_found w c.args.event c.args.rows.now.rows c.args.rows.now.fired _ _ _ _ stands c.requires.rising,
      (met_row w c.args.event stands.row stands.met).0,
    )

-- there is room for its firing
pub fire_by_id-requires-clause-room : goal.fire_by_id-requires-clause-room
fire_by_id-requires-clause-room g c = omega (
  arith,
  c.loop-waiter.invariant.room,
  c.loop-waiter.invariant.same,
  ap length (drop_more c.args.due.now c.loop-waiter.waiter-index no_waiter c.loop-waiter-test.true),
)

-- one that is due less
pub loop-waiter-preserved : goal.loop-waiter-preserved
loop-waiter-preserved g c =
    let w : World = g.W.World.seen c.args.world.now in
    let i = c.loop-waiter.waiter-index in
    let stands = stand_here w c.args.event c.args.rows.now.rows c.args.rows.now.fired c.loop-waiter.rows.rows c.loop-waiter.rows.fired
    c.args.due.now i c.loop-waiter-test.true c.loop-waiter.invariant.walked in
    let found = stands_found w c.args.event c.args.rows.now.rows c.args.rows.now.fired _ _ _ _ stands c.requires.rising in
    rw (c.fire_by_id.ensures.row (length stands.done) stands.row found, c.fire_by_id.ensures.fired) record {
      walked = stands_step w c.args.event c.args.rows.now.rows c.args.rows.now.fired _ _ _ _ stands;
      room = omega (
        arith,
        c.loop-waiter.invariant.room,
        ap length (drop_more c.args.due.now i no_waiter c.loop-waiter-test.true),
        length_push c.loop-waiter.rows.fired
            (record { tracker = (get_or c.args.due.now i no_waiter).tracker.id; event = c.args.event }),
      );
      same = c.fire_by_id.ensures.room ∙ c.loop-waiter.invariant.same;
    }

pub returns-clause-rows : goal.returns-clause-rows
returns-clause-rows g c =
    let w : World = g.W.World.seen c.args.world.now in
    walked_rows w c.args.event c.args.rows.now.rows c.args.rows.now.fired c.loop-waiter.rows.rows c.loop-waiter.rows.fired
    (subst (λ (l : List Waiter). Walked w c.args.event c.args.rows.now.rows c.args.rows.now.fired c.loop-waiter.rows.rows
    c.loop-waiter.rows.fired (ids_of l)) (drop_all c.loop-waiter.waiter-index c.args.due.now (omega (arith, c.loop-waiter-test.false)))
    c.loop-waiter.invariant.walked)

pub returns-clause-fired : goal.returns-clause-fired
returns-clause-fired g c =
    let w : World = g.W.World.seen c.args.world.now in
    walked_fired w c.args.event c.args.rows.now.rows c.args.rows.now.fired c.loop-waiter.rows.rows c.loop-waiter.rows.fired
    (subst (λ (l : List Waiter). Walked w c.args.event c.args.rows.now.rows c.args.rows.now.fired c.loop-waiter.rows.rows
    c.loop-waiter.rows.fired (ids_of l)) (drop_all c.loop-waiter.waiter-index c.args.due.now (omega (arith, c.loop-waiter-test.false)))
    c.loop-waiter.invariant.walked)
