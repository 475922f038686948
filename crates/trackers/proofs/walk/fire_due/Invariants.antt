use Rattle.trackers.proofs.Common.{drop, ids_of, length, ◌+◌, ◌≡◌, ◌≤◌}
use Rattle.trackers.proofs.Walks.{Walked}
use Rattle.trackers.proofs.walk.fire_due.Given as goal

abbrev pub invariant-loop-waiter : goal.invariant-loop-waiter
invariant-loop-waiter g l = record {
  walked : Walked (g.W.World.seen l.world) l.event l.initial.rows.rows l.initial.rows.fired l.rows.rows l.rows.fired
      (ids_of (drop l.waiter-index l.due));
  room : length l.rows.fired + length (drop l.waiter-index l.due) ≤ l.initial.rows.room;
  same : l.rows.room ≡ l.initial.rows.room;
}
