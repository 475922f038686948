use Rattle.std.proofs.Common.{◌≡◌, ◌∙◌, refl, sym, inl, inr, arith}
use Rattle.client_actors.proofs.ScriptLaws.{on_err}
use Rattle.client_actors.proofs.PatienceLaws.{waiting-given, waiting-more, waiting-none, waiting-taken}
use Rattle.client_actors.proofs.actor_run.take_step.Goals as goal

-- the step was not made yet
pub loop-tries-init : goal.loop-tries-init
loop-tries-init g c = record {
  waits = waiting-none c.args.playing.now.clients.now c.args.step.now c.args.actor.now;
  aware = c.requires.aware;
  sound = c.requires.sound;
  id = refl;
}

-- one try more, for which nothing was there
pub loop-tries-preserved : goal.loop-tries-preserved
loop-tries-preserved g c =
    let so = c.loop-tries.invariant in
    record {
      waits = waiting-more c.args.playing.now.clients.now c.args.step.now c.args.actor.now c.loop-tries.tries
          c.loop-tries.actor so.waits c.try_step.new.actor
          c.in_ok-reply.reply c.in_ok-reply.ensures.stepped (sym c.is_nothing.ensures ∙ c.if-not-is_nothing.false);
      aware = c.in_ok-reply.ensures.stepped.aware;
      sound = c.try_step.ensures.sound;
      id = c.try_step.ensures.id ∙ so.id;
    }

-- a fault in one of the tries
pub returns-in_err-reply-clause-given : goal.returns-in_err-reply-clause-given
returns-in_err-reply-clause-given g c =
    on_err c.from_residual.result _
    (waiting-given c.args.playing.now.clients.now c.args.step.now c.args.actor.now c.loop-tries.tries
    c.loop-tries.actor c.loop-tries.invariant.waits
    c.args.playing.now.most (omega (arith, c.loop-tries-test.true)) c.try_step.new.actor c.in_err-reply.ensures.faltered)

-- something was there, or the step made no call
pub returns-then-not-is_nothing-clause-taken : goal.returns-then-not-is_nothing-clause-taken
returns-then-not-is_nothing-clause-taken g c =
    waiting-taken c.args.playing.now.clients.now c.args.step.now c.args.actor.now c.loop-tries.tries
    c.loop-tries.actor c.loop-tries.invariant.waits
    c.args.playing.now.most (omega (arith, c.loop-tries-test.true)) c.try_step.new.actor c.in_ok-reply.reply c.in_ok-reply.ensures.stepped
    (inl (sym c.is_nothing.ensures ∙ c.if-not-is_nothing.true))

-- a fault in the last try
pub returns-in_err-_last-clause-given : goal.returns-in_err-_last-clause-given
returns-in_err-_last-clause-given g c =
    let all : c.loop-tries.tries ≡ c.args.playing.now.most = omega (arith, c.loop-tries-test.false, c.loop-tries.auto.tries-end) in
    on_err c.from_residual-in_err-_last.result _
    (waiting-given c.args.playing.now.clients.now c.args.step.now c.args.actor.now c.loop-tries.tries
    c.loop-tries.actor c.loop-tries.invariant.waits
    c.args.playing.now.most (omega (arith, all)) c.try_step-2.new.actor c.in_err-_last.ensures.faltered)

-- the last try
pub returns-clause-taken : goal.returns-clause-taken
returns-clause-taken g c =
    let all : c.loop-tries.tries ≡ c.args.playing.now.most = omega (arith, c.loop-tries-test.false, c.loop-tries.auto.tries-end) in
    waiting-taken c.args.playing.now.clients.now c.args.step.now c.args.actor.now c.loop-tries.tries
    c.loop-tries.actor c.loop-tries.invariant.waits
    c.args.playing.now.most (omega (arith, all)) c.try_step-2.new.actor c.in_ok-_last._last c.in_ok-_last.ensures.stepped (inr all)
