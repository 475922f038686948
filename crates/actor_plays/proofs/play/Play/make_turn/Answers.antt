use Rattle.actor_plays.proofs.Common.{Play, Turn, [], ap, refl, sym, ◌++◌, ◌∙◌, ◌∷◌}
use Rattle.actor_plays.proofs.MoveLaws.{takes_made, takes_made_untold, takes_waits, takes_waits_untold}
use Rattle.actor_plays.proofs.PlayLaws.{called, left_waiting}
use Rattle.actor_plays.proofs.play.Play.make_turn.Goals as goal

pub returns-then-must_wait-clause-turn : goal.returns-then-must_wait-clause-turn
returns-then-must_wait-clause-turn c =
    left_waiting c.args.plans.now c.args.self.now c.args.self.now c.call.new.self c.args.actor c.args.asks.now.client
    c.args.asks.now.next c.args.asks.now.asked c.in_ok-reply.reply c.requires.play c.requires.asks.step c.requires.asks.call
    c.requires.asks.caller (sym c.must_wait.ensures ∙ c.if-must_wait.true) c.in_ok-reply.ensures.shows c.in_ok-reply.ensures.entries
    c.in_ok-reply.ensures.rest refl

pub returns-clause-turn : goal.returns-clause-turn
returns-clause-turn c = (
  called c.args.plans.now c.args.self.now c.call.new.self c.note.new.self c.args.actor c.args.asks.now.client
      c.args.asks.now.next c.args.asks.now.asked c.in_ok-reply.reply c.requires.play c.requires.asks.step c.requires.asks.call
      c.requires.asks.caller (sym c.must_wait.ensures ∙ c.if-must_wait.false) c.in_ok-reply.ensures.shows c.in_ok-reply.ensures.entries
      c.in_ok-reply.ensures.rest c.in_ok-note.ensures.stages c.in_ok-note.ensures.turns c.in_ok-note.ensures.rest,
  c.in_ok-note.ensures.turns ∙ ap (λ (p : Play). p.turns.items ++ Turn.Step c.args.actor ∷ []) c.in_ok-reply.ensures.rest,
)

pub returns-then-must_wait-clause-takes : goal.returns-then-must_wait-clause-takes
returns-then-must_wait-clause-takes c = λ tells.
    takes_waits c.args.plans.now c.args.self.now c.call.new.self c.call.new.self c.args.actor c.args.asks.now c.in_ok-reply.reply
    c.requires.asks c.in_ok-reply.ensures.makes (sym c.must_wait.ensures ∙ c.if-must_wait.true) c.in_ok-reply.ensures.rest

pub returns-then-must_wait-clause-untold : goal.returns-then-must_wait-clause-untold
returns-then-must_wait-clause-untold c =
    takes_waits_untold c.args.plans.now c.args.self.now c.call.new.self c.call.new.self c.args.actor c.args.asks.now c.in_ok-reply.reply
    c.requires.asks c.in_ok-reply.ensures.makes (sym c.must_wait.ensures ∙ c.if-must_wait.true) c.in_ok-reply.ensures.rest

pub returns-clause-takes : goal.returns-clause-takes
returns-clause-takes c = λ tells.
    takes_made c.args.plans.now c.args.self.now c.call.new.self c.note.new.self c.args.actor c.args.asks.now c.in_ok-reply.reply
    c.requires.asks c.in_ok-reply.ensures.makes (sym c.must_wait.ensures ∙ c.if-must_wait.false) c.in_ok-reply.ensures.rest
    c.in_ok-note.ensures.stages c.in_ok-note.ensures.rest (c.in_ok-reply.ensures.fell tells)

pub returns-clause-untold : goal.returns-clause-untold
returns-clause-untold c =
    takes_made_untold c.args.plans.now c.args.self.now c.call.new.self c.note.new.self c.args.actor c.args.asks.now c.in_ok-reply.reply
    c.requires.asks c.in_ok-reply.ensures.makes (sym c.must_wait.ensures ∙ c.if-must_wait.false) c.in_ok-reply.ensures.rest
    c.in_ok-note.ensures.stages c.in_ok-note.ensures.rest
