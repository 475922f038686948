use Rattle.client_vanish.proofs.Common.{held_in, inl, refl, top_first}
use Rattle.client_vanish.proofs.VanishingLaws.{parts_none}
use Rattle.client_vanish.proofs.vanishing.give_up_if.Goals as goal

pub returns-in-Err-clause-parts : goal.returns-in-Err-clause-parts
returns-in-Err-clause-parts g c = record {
  parts = parts_none c.args.client.now (top_first c.args.stack.now.items) (held_in c.args.kept.now) c.requires.none;
  turn = inl refl;
}
