use Rattle.lifetime_core.proofs.Common.{sym, ◌∙◌}
use Rattle.lifetime_core.proofs.Named.{end_is, names_it}
use Rattle.lifetime_core.proofs.by_kind.step_kind.Goals as goal

-- the end that is asked about is that of the node that the call names
pub early_answer-requires : goal.early_answer-requires
early_answer-requires g = λ c. record {
  end = end_is c.args.core.now c.known-call.result _ _ c.key_of-named.ensures c.named-node.ensures
      ∙ sym (c.with_end-unspent.ensures.value c.args.core.now);
  end_there = c.with_end-unspent.ensures.unspent;
}

pub decide_effect-decision-requires-clause-key : goal.decide_effect-decision-requires-clause-key
decide_effect-decision-requires-clause-key g = λ c. sym c.key_of-named.ensures

pub decide_effect-decision-requires-clause-node : goal.decide_effect-decision-requires-clause-node
decide_effect-decision-requires-clause-node g = λ c.
    names_it c.args.core.now c.known-call.result _ _ c.key_of-named.ensures c.named-node.ensures

pub decide_effect-decision-requires-clause-end : goal.decide_effect-decision-requires-clause-end
decide_effect-decision-requires-clause-end g = λ c.
    end_is c.args.core.now c.known-call.result _ _ c.key_of-named.ensures c.named-node.ensures
    ∙ sym (c.with_end-unspent.ensures.value c.args.core.now)
