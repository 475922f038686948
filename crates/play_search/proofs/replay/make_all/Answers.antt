use Rattle.play_search.proofs.Common.{ap, ◌++◌, ◌∙◌}
use Rattle.play_search.proofs.OnWay.{way_rests}
use Rattle.play_search.proofs.replay.make_all.Goals as goal

-- the play begins as one of the search
pub make_turns-requires-clause-play : goal.make_turns-requires-clause-play
make_turns-requires-clause-play c = c.requires.way.plays

pub make_turns-requires-clause-way : goal.make_turns-requires-clause-way
make_turns-requires-clause-way c = λ tells. c.requires.way

-- these turns were made, and all passed what they could
pub returns-clause-play : goal.returns-clause-play
returns-clause-play c = λ tells.
    way_rests c.args.ground.now.plans.now c.args.ground.now.vanishing c.args.ground.now.setting c.args.turns.now
    c.make_turns.new.play c.pass_all.new.self (c.in_ok-make_turns.ensures.way tells)
    (c.in_ok-make_turns.ensures.turns ∙ ap (λ turns. turns ++ c.args.turns.now) c.requires.none)
    c.pass_all.ensures.play c.pass_all.ensures.passes c.pass_all.ensures.rests c.pass_all.ensures.rest
