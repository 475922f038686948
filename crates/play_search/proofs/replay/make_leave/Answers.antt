use Rattle.play_search.proofs.Common.{IsLeave, TakesLeave, subst}
use Rattle.play_search.proofs.OnWay.{way_leaves}
use Rattle.play_search.proofs.replay.make_leave.Goals as goal

-- all passed what they could, and the actor left, which it might
pub returns-then-branch-clause-play : goal.returns-then-branch-clause-play
returns-then-branch-clause-play c =
    (subst (IsLeave c.args.ground.now.plans.now c.pass_all.new.self c.take_leave.new.self c.args.actor) c.if-branch.true
    c.in_ok-take_leave.ensures.leave).0

-- by its own falls, if it tells them
pub returns-then-branch-clause-way : goal.returns-then-branch-clause-way
returns-then-branch-clause-way c = λ tells.
    let plans = c.args.ground.now.plans.now in
    let mid = c.pass_all.new.self in
    let new = c.take_leave.new.self in
    way_leaves plans c.args.ground.now.vanishing c.args.ground.now.setting c.args.play.now mid new c.args.actor c.in_ok-may_go.field-0
    (c.requires.way tells) c.pass_all.ensures.play c.pass_all.ensures.passes c.pass_all.ensures.rests c.pass_all.ensures.rest
    c.in_ok-may_go.ensures c.if-not-branch.false
    (subst (IsLeave plans mid new c.args.actor) c.if-branch.true c.in_ok-take_leave.ensures.leave)
    (subst (TakesLeave plans mid new c.args.actor) c.if-branch.true (c.in_ok-take_leave.ensures.takes tells))
