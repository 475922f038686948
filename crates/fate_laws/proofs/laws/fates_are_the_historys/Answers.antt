use Rattle.fate_laws.proofs.Common.{Entry, List, refl, subst, timeline}
use Rattle.actor_plays.specs.Endings.{maker_in}
use Rattle.fate_laws.proofs.Fell.{AreToldOf}
use Rattle.fate_laws.proofs.Histories.{fate_is, reached_told}
use Rattle.fate_laws.proofs.OneHistory.{one_history}
use Rattle.fate_laws.proofs.laws.fates_are_the_historys.Goals as goal

pub returns-clause-history : goal.returns-clause-history
returns-clause-history c setup turns p reached =
    let t = reached_told setup turns p reached in (t.history, t.plays, t.shows)

-- the steps make the same calls, which are answered the same
pub returns-clause-one : goal.returns-clause-one
returns-clause-one c setup turns p history other plays shows again too =
    (one_history setup.plans setup.clients p.core.pool p.core.limits turns history p.stages plays other p.stages again shows.legal.answers
    too.legal.answers (λ j. refl)).0

-- what is told of the nodes that fell is the history's
pub returns-clause-fates : goal.returns-clause-fates
returns-clause-fates c setup turns p reached history plays shows =
    let t = reached_told setup turns p reached in
    let is = (one_history setup.plans setup.clients p.core.pool p.core.limits turns t.history p.stages t.plays history p.stages plays
    t.shows.legal.answers shows.legal.answers (λ j. refl)).0 in
    fate_is p.core history shows p.falls (subst (λ (l : List Entry). AreToldOf p.falls (timeline p.core.pool l)) is t.told)
    (maker_in p.stages)
