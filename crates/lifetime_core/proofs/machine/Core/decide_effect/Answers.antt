use Rattle.lifetime_core.proofs.Common.{◌∙◌}
use Rattle.lifetime_core.proofs.machine.Core.decide_effect.Goals as goal

pub decide_answered-requires : goal.decide_answered-requires
decide_answered-requires c = record {
  key = c.requires.key;
  node = c.requires.node;
  answered = c.effect-reply.ensures ∙ c.requires.effect;
}
