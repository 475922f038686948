use Rattle.alike_plays.proofs.Reaching.{reached_seen}
use Rattle.alike_plays.proofs.Turning.{calls_alike, leaves_alike, pass_alike, pass_back}
use Rattle.alike_plays.proofs.laws.alike_plays_stay_alike.Goals as goal

pub returns-clause-passes : goal.returns-clause-passes
returns-clause-passes c setup actor one other alike new pass = pass_alike setup actor one other alike new pass

pub returns-clause-back : goal.returns-clause-back
returns-clause-back c setup actor one other alike again pass = pass_back setup actor one other alike again pass

pub returns-clause-calls : goal.returns-clause-calls
returns-clause-calls c setup actor one other new again alike reached reached_too call call_too =
    calls_alike setup actor one other alike (reached_seen setup one reached) (reached_seen setup other reached_too) new again call call_too

pub returns-clause-leaves : goal.returns-clause-leaves
returns-clause-leaves c setup actor one other new again alike reached reached_too leave leave_too =
    leaves_alike setup actor one other alike (reached_seen setup one reached) (reached_seen setup other reached_too) new again leave
    leave_too
