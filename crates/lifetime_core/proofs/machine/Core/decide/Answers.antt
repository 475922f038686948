use Rattle.lifetime_core.proofs.Common.{sym, ◌∙◌}
use Rattle.lifetime_core.proofs.Named.{end_is, names_it}
use Rattle.lifetime_core.proofs.machine.Core.decide.Goals as goal

-- the end that is asked about is that of the node that the call names
pub answer-reply-requires : goal.answer-reply-requires
answer-reply-requires c = record {
  law = c.traits_of-traits.ensures.law;
  end = end_is c.args.self.now c.args.call.now _ _ c.key_of-named.ensures c.named-node.ensures
      ∙ sym (c.with_end.ensures.value c.args.self.now);
  unspent = c.with_end.ensures.unspent;
}

pub decide_answered-requires : goal.decide_answered-requires
decide_answered-requires c = record {
  key = sym c.key_of-named.ensures;
  node = names_it c.args.self.now c.args.call.now _ _ c.key_of-named.ensures c.named-node.ensures;
  answered = c.answer-reply.ensures;
}
