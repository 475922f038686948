use Rattle.actor_plays.proofs.Common.{refl, slice_get, stages_of, subst, ℕ, ◌≤◌}
use Rattle.actor_plays.proofs.PassLaws.{none_behind, none_passed, one_behind, one_further, rests_behind}
use Rattle.actor_plays.proofs.PlayLaws.{only_actors}
use Rattle.actor_plays.proofs.play.Play.pass.Goals as goal

pub passing-init : goal.passing-init
passing-init c = record {
  play = c.requires;
  passes = none_passed c.args.plans.now c.args.self.now;
  behind = none_behind (slice_get (stages_of c.args.self.now) c.args.actor);
  rest = refl;
}

pub returns-then-not-pass_one-clause-rests : goal.returns-then-not-pass_one-clause-rests
returns-then-not-pass_one-clause-rests c = c.pass_one.ensures.rests c.if-not-pass_one.true

pub passing-preserved : goal.passing-preserved
passing-preserved c =
    let passes = c.pass_one.ensures.passes c.if-not-pass_one.false in
    record {
      play = c.pass_one.ensures.play;
      passes = one_further c.args.plans.now c.args.self.now c.passing.self c.pass_one.new.self c.args.actor c.passing.invariant.passes
          c.passing.invariant.rest passes;
      behind = one_behind c.args.plans.now c.passing.self c.pass_one.new.self c.args.actor c.passing.behind passes
          c.passing.invariant.behind;
      rest = only_actors c.args.self.now c.passing.self c.pass_one.new.self c.passing.invariant.rest c.pass_one.ensures.rest;
    }

pub returns-clause-rests : goal.returns-clause-rests
returns-clause-rests c =
    rests_behind c.args.plans.now c.passing.self c.args.actor c.passing.behind
    (subst (λ (n : ℕ). n ≤ c.passing.behind) c.steps_in-most.ensures c.passing-test.false) c.passing.invariant.behind
