use Rattle.forced_marks.proofs.Common.{find, has_room, least_start, range_with_len, ◌-◌, ◌≡◌}
use Rattle.forced_marks.proofs.placement.least_start.Given as goal

-- the first with room is still to come
abbrev pub invariant-starts : goal.invariant-starts
invariant-starts l =
    find (λ start. has_room l.pool l.held (record { start = start; pages = l.pages })) (range_with_len l.start (l.pool - l.start))
    ≡ least_start l.pool l.pages l.held

abbrev pub decreases-starts : goal.decreases-starts
decreases-starts l = l.pool - l.start
