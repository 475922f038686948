use Rattle.trackers.proofs.Common.{filter, is_waiter_due, take, vec_capacity, ◌++◌, ◌≡◌}
use Rattle.trackers.proofs.index.list_due.Given as goal

-- those so far that are due are listed
abbrev pub invariant-loop-waiter : goal.invariant-loop-waiter
invariant-loop-waiter g l = record {
  listed : l.due.items ≡ l.initial.due.items ++ filter (is_waiter_due (g.W.World.seen l.world)) (take l.waiter-index l.list);
  capacity : vec_capacity l.due ≡ vec_capacity l.initial.due;
}
