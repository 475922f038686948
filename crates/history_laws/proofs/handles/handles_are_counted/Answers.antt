use Rattle.sm_names.specs.Timelines.{timeline}
use Rattle.history_laws.proofs.CountLaws.{counted, total_is, moving_is, drops-le-opens, lands-le-lifts}
use Rattle.history_laws.proofs.GrowthLaws.{legal_grows}
use Rattle.history_laws.proofs.handles.handles_are_counted.Goals as goal

pub returns-clause-total : goal.returns-clause-total
returns-clause-total c pool limits history legal =
    total_is (timeline pool history) (counted pool limits (timeline pool history) (legal_grows pool limits history legal))

pub returns-clause-in_parcels : goal.returns-clause-in_parcels
returns-clause-in_parcels c pool limits history legal =
    moving_is (timeline pool history) (counted pool limits (timeline pool history) (legal_grows pool limits history legal))

pub returns-clause-dropped : goal.returns-clause-dropped
returns-clause-dropped c pool limits history legal =
    drops-le-opens (timeline pool history) (counted pool limits (timeline pool history) (legal_grows pool limits history legal))

pub returns-clause-collected : goal.returns-clause-collected
returns-clause-collected c pool limits history legal =
    lands-le-lifts (timeline pool history) (counted pool limits (timeline pool history) (legal_grows pool limits history legal))
