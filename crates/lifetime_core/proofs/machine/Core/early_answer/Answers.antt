use Rattle.lifetime_core.proofs.machine.Core.early_answer.Goals as goal

pub first_answer-requires : goal.first_answer-requires
first_answer-requires c = record {
  law = c.traits_of-traits.ensures.law;
  end = c.requires.end;
  unspent = c.requires.end_there;
}
