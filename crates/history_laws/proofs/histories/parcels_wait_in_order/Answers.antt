use Rattle.history_laws.proofs.Common.{[], timeline}
use Rattle.history_laws.proofs.ParcelLaws.{drawn_history, drawn_nothing, parcels-given, parcels-collected}
use Rattle.history_laws.proofs.histories.parcels_wait_in_order.Goals as goal

pub returns-clause-given : goal.returns-clause-given
returns-clause-given c pool limits history legal mark client parcel =
    parcels-given (timeline pool history) mark client parcel (drawn_history pool limits [] history legal.answers drawn_nothing)

pub returns-clause-collected : goal.returns-clause-collected
returns-clause-collected c = parcels-collected
