use Rattle.play_search.proofs.Common.{refl, sym, ◌∙◌}
use Rattle.play_search.proofs.EndingLaws.{left_open, turned_on}
use Rattle.play_search.proofs.graph.Graph.goes_on.Goals as goal

-- an actor must leave
pub returns-then-branch : goal.returns-then-branch
returns-then-branch c = λ yes.
    left_open c.args.ground.now.plans.now c.args.ground.now.vanishing c.args.ground.now.setting c.args.play.now
    (c.in_ok-is_left_open.ensures c.if-branch.true)

-- the actor made its call
pub returns : goal.returns
returns c = λ yes.
    turned_on c.args.ground.now.plans.now c.args.ground.now.vanishing c.args.ground.now.setting c.args.play.now
    c.take_turn.new.self c.in-Some.actor c.in_ok-turned.turned c.requires.way c.requires.rests
    (c.in_ok-turned.ensures.takes refl) (sym c.is_made.ensures ∙ yes)
