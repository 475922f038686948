-- The nodes that are unkept then are taken out.
use Rattle.alloc_event.proofs.Common.{◌∙◌}
use Rattle.alloc_event.proofs.forest.Forest.spend.Goals as goal

pub returns-clause-collections : goal.returns-clause-collections
returns-clause-collections c = c.forget_unkept.ensures.collections ∙ c.forget_or_spend.ensures.spent

pub returns-clause-keys : goal.returns-clause-keys
returns-clause-keys c = record {
  limit = c.forget_unkept.ensures.keys.limit ∙ c.forget_or_spend.ensures.keys.limit;
  keys = λ key. c.forget_unkept.ensures.keys.keys key ∙ c.forget_or_spend.ensures.keys.keys key;
}
