use Rattle.actor_plays.proofs.Common.{arith, refl}
use Rattle.actor_plays.proofs.PassLaws.{all_rests, more_further, none_passed, one_more_rests}
use Rattle.actor_plays.proofs.PlayLaws.{only_actors}
use Rattle.actor_plays.proofs.play.Play.pass_all.Goals as goal

pub actors-init : goal.actors-init
actors-init c = record {
  play = c.requires;
  passes = none_passed c.args.plans.now c.args.self.now;
  rests = λ k less. absurd (omega (arith, less));
  rest = refl;
}

pub actors-preserved : goal.actors-preserved
actors-preserved c = record {
  play = c.pass.ensures.play;
  passes = more_further c.args.plans.now c.args.self.now c.actors.self c.pass.new.self c.actors.invariant.passes
      c.actors.invariant.rest c.pass.ensures.passes;
  rests = one_more_rests c.args.plans.now c.actors.self c.pass.new.self c.actors.actor c.pass.ensures.passes c.pass.ensures.rest
      c.pass.ensures.rests c.actors.invariant.rests;
  rest = only_actors c.args.self.now c.actors.self c.pass.new.self c.actors.invariant.rest c.pass.ensures.rest;
}

pub returns-clause-rests : goal.returns-clause-rests
returns-clause-rests c = all_rests c.args.plans.now c.actors.self c.actors.actor c.actors-test.false c.actors.invariant.rests
