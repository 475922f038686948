use Rattle.play_search.proofs.Common.{Found, List, NoneIsMissing, setup_of, subst}
use Rattle.play_search.proofs.exploring.explored.Goals as goal

-- of the outcomes that were found
pub returns-clause-none : goal.returns-clause-none
returns-clause-none g c = λ yes.
    subst (λ (outcomes : List Found). NoneIsMissing c.args.ground.now.vanishing.at_end
    (setup_of c.args.ground.now.plans.now c.args.ground.now.vanishing c.args.ground.now.setting) outcomes)
    c.deref-3.ensures.value (c.in_ok-certainty.ensures.none yes)

-- it was asked for, and the search was complete
pub returns-clause-asked : goal.returns-clause-asked
returns-clause-asked g c = λ yes. c.in_ok-certainty.ensures.asked yes
