use Rattle.trackers.proofs.Common.{List, Waiter, World, ap, arith, drop, filter, filter-append, is_waiter_due, length, length-append}
use Rattle.trackers.proofs.Common.{take, ◌+◌}
use Rattle.std.proofs.lemmas.List.{take-append-drop}
use Rattle.std.proofs.lemmas.List.Filters.{length-filter_more}
use Rattle.trackers.proofs.Walks.{no_waiter}
use Rattle.trackers.proofs.index.list_due.Goals as goal

-- those so far that are due, and this one, are no more than all
pub push_due-requires : goal.push_due-requires
push_due-requires g c = λ is_due.
    let w : World = g.W.World.seen c.args.world.now in
    let xs : List Waiter = c.args.list.now in
    let i = c.loop-waiter.waiter-index in
    omega (
      arith,
      c.requires,
      c.loop-waiter.invariant.capacity,
      ap length c.loop-waiter.invariant.listed,
      length-append c.args.due.now.items (filter (is_waiter_due w) (take i xs)),
      rw is_due at (length-filter_more (is_waiter_due w) xs i no_waiter c.loop-waiter-test.true),
      ap (λ l. length (filter (is_waiter_due w) l)) (take-append-drop (i + 1) xs),
      ap length (filter-append (is_waiter_due w) (take (i + 1) xs) (drop (i + 1) xs)),
      length-append (filter (is_waiter_due w) (take (i + 1) xs)) (filter (is_waiter_due w) (drop (i + 1) xs)),
    )
