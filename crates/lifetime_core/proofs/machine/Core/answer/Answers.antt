use Rattle.lifetime_core.proofs.Common.{sym, ◌∙◌}
use Rattle.lifetime_core.proofs.Named.{end_is}
use Rattle.lifetime_core.proofs.machine.Core.answer.Goals as goal

-- the end that is asked about is that of the node that the call names
pub answer-requires : goal.answer-requires
answer-requires c = record {
  law = c.traits_of-traits.ensures.law;
  end = end_is c.args.self.now c.args.call.now _ _ c.key_of.ensures c.named-node.ensures
      ∙ sym (c.with_end.ensures.value c.args.self.now);
  unspent = c.with_end.ensures.unspent;
}
