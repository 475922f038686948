use Rattle.thread_runs.proofs.Common.{arith}
use Rattle.thread_runs.proofs.EndLaws.{parted-more, parted-none}
use Rattle.thread_runs.proofs.actor_parts.part_all.Goals as goal

pub vanishing-init : goal.vanishing-init
vanishing-init g c = (
  parted-none c.args.ends.items _ _ c.reverse.ensures.items c.requires.none,
  omega (arith, c.requires.room, c.reverse.ensures.len),
)

pub vanishing-preserved : goal.vanishing-preserved
vanishing-preserved g c = (
  parted-more c.args.ends.items _ _ _ _ _ _ _ c.in-Some.end _ c.vanishing.invariant.0 c.in-Some.ensures.items c.part_of-part.ensures.part
      c.push_reserved.ensures.items c.part_of-part.ensures.fault c.or-found.ensures,
  omega (arith, c.vanishing.invariant.1, c.push_reserved.ensures.len, c.push_reserved.ensures.capacity, c.in-Some.ensures.len),
)
