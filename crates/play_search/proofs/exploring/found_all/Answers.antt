use Rattle.play_search.proofs.Common.{IsFound}
use Rattle.std.proofs.lemmas.List.Elements.{All-push}
use Rattle.play_search.proofs.exploring.found_all.Goals as goal

pub goals-preserved : goal.goals-preserved
goals-preserved c = rw c.in-Ok.ensures.items
    (All-push (IsFound c.args.ground.now.plans.now c.args.ground.now.vanishing c.args.ground.now.setting) c.goals.all.items
    c.in_ok-found.found c.goals.invariant c.in_ok-found.ensures)
