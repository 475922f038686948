use Rattle.thread_runs.proofs.Common.{PartedTo, ◌+◌, ◌≤◌}
use Rattle.std.proofs.Common.{vec_len, vec_capacity}
use Rattle.thread_runs.proofs.actor_parts.part_all.Given as goal

-- what is left of those that are parted is in the list, and there is room for the others
abbrev pub invariant-vanishing : goal.invariant-vanishing
invariant-vanishing g l =
    PartedTo l.fn.ends.items l.ends.items l.parts.items l.found × (vec_len l.parts + vec_len l.ends ≤ vec_capacity l.parts)

abbrev pub decreases-vanishing : goal.decreases-vanishing
decreases-vanishing g l = vec_len l.ends
