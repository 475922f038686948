use Rattle.event_laws.proofs.Common.{legal_grows, timeline}
use Rattle.event_laws.proofs.EndEventLaws.{at_most_one, waits_in_transit, in_transit_born, in_transit_unspent}
use Rattle.event_laws.proofs.ends.ends_are_in_one_parcel.Goals as goal

pub returns-clause-once : goal.returns-clause-once
returns-clause-once c pool limits history legal = at_most_one pool limits (timeline pool history) (legal_grows pool limits history legal)

pub returns-clause-waits : goal.returns-clause-waits
returns-clause-waits c pool limits history legal =
    waits_in_transit pool limits (timeline pool history) (legal_grows pool limits history legal)

pub returns-clause-born : goal.returns-clause-born
returns-clause-born c pool limits history legal =
    in_transit_born pool limits (timeline pool history) (legal_grows pool limits history legal)

pub returns-clause-unspent : goal.returns-clause-unspent
returns-clause-unspent c pool limits history legal =
    in_transit_unspent pool limits (timeline pool history) (legal_grows pool limits history legal)
