use Rattle.sm_names.specs.Timelines.{timeline}
use Rattle.history_laws.proofs.GoneLaws.{gone_on, fault_on, above_here, not_live, live_born, listed_once}
use Rattle.history_laws.proofs.GrowthLaws.{legal_grows}
use Rattle.history_laws.proofs.LifeLaws.{ordered}
use Rattle.history_laws.proofs.lives.gone_is_for_good.Goals as goal

pub returns-clause-fault : goal.returns-clause-fault
returns-clause-fault c = fault_on

pub returns-clause-gone : goal.returns-clause-gone
returns-clause-gone c = gone_on

pub returns-clause-above : goal.returns-clause-above
returns-clause-above c pool limits history legal node here =
    above_here (timeline pool history) node (ordered pool limits (timeline pool history) (legal_grows pool limits history legal)) here

pub returns-clause-not_live : goal.returns-clause-not_live
returns-clause-not_live c = not_live

pub returns-clause-live : goal.returns-clause-live
returns-clause-live c = live_born

pub returns-clause-listed : goal.returns-clause-listed
returns-clause-listed c pool limits history legal node =
    listed_once (timeline pool history) node (ordered pool limits (timeline pool history) (legal_grows pool limits history legal)).sound
