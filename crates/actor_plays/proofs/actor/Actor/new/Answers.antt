use Rattle.actor_plays.proofs.Common.{None}
use Rattle.actor_plays.proofs.actor.Actor.new.Goals as goal

pub returns : goal.returns
returns c = λ i. record { at = 0; known = c.new-state.ensures i; made = c.new-made.ensures.items i; vanish = None }
