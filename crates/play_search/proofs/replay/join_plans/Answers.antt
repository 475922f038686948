use Rattle.play_search.proofs.Common.{◌∙◌}
use Rattle.play_search.proofs.OnWay.{way_starts}
use Rattle.play_search.proofs.replay.join_plans.Goals as goal

-- all clients have joined
pub returns-clause-way : goal.returns-clause-way
returns-clause-way c =
    let joining = c.in_ok-join_all.ensures.joining in
    let count = c.have_joined.ensures.count c.if-not-have_joined.false in
    way_starts c.args.ground.now.plans.now c.args.ground.now.vanishing c.args.ground.now.setting c.join_all.new.play
    (c.have_joined.ensures.play joining count) joining.turns (c.have_joined.ensures.clients joining count)
    (c.in_ok-join_all.ensures.pages ∙ c.requires.pages) (c.in_ok-join_all.ensures.limits ∙ c.requires.limits)
    (c.have_joined.ensures.begins joining count)

pub returns-clause-turns : goal.returns-clause-turns
returns-clause-turns c = c.in_ok-join_all.ensures.joining.turns
