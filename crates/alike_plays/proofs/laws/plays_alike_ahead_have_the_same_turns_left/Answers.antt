use Rattle.alike_plays.proofs.Common.{sym, ◌∙◌}
use Rattle.alike_plays.proofs.Reaching.{reached_seen}
use Rattle.alike_plays.proofs.TurnsLeft.{asks_behind, leaves_left, waits_ahead}
use Rattle.alike_plays.proofs.laws.plays_alike_ahead_have_the_same_turns_left.Goals as goal

pub returns-clause-asks : goal.returns-clause-asks
returns-clause-asks c setup early actor one other like b = asks_behind setup actor early one other like b

pub returns-clause-waits : goal.returns-clause-waits
returns-clause-waits c setup early actor one other like reached reached_too a b waits =
    waits_ahead setup actor early one other like (reached_seen setup one reached) (reached_seen setup other reached_too) a b ∙ waits

pub returns-clause-back : goal.returns-clause-back
returns-clause-back c setup early actor one other like reached reached_too a b waits =
    sym (waits_ahead setup actor early one other like (reached_seen setup one reached) (reached_seen setup other reached_too) a b) ∙ waits

pub returns-clause-leaves : goal.returns-clause-leaves
returns-clause-leaves c early actor one other like stage same at at_too = leaves_left early actor one other like stage same at at_too
