use Rattle.actor_plays.proofs.Common.{option_map, ◌+◌}
use Rattle.actor_plays.specs.Leaves.{vanish_of}
use Rattle.actor_plays.proofs.actor.Actor.note.Goals as goal

pub returns-clause-stage : goal.returns-clause-stage
returns-clause-stage c = λ i. record {
  at = c.args.self.now.at + 1;
  known = c.in-Ok-note_reply.ensures.known i;
  made = c.in-Ok.ensures.items i;
  vanish = option_map vanish_of c.args.self.now.vanish;
}
