use Rattle.forced_marks.proofs.Common.{legal_grows, timeline}
use Rattle.history_laws.proofs.CountLaws.{counted, total_is}
use Rattle.forced_marks.proofs.Holders.{held_by}
use Rattle.forced_marks.proofs.laws.held_buffers_have_holders.Goals as goal

pub returns : goal.returns
returns c pool limits history legal buffer given =
    held_by (timeline pool history) buffer given
    (total_is (timeline pool history) (counted pool limits (timeline pool history) (legal_grows pool limits history legal)) buffer)
