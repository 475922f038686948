use Rattle.forced_marks.proofs.Common.{Handing, subst}
use Rattle.forced_marks.proofs.Rows.{below_is, end_row, loss_row, one_row, row_is}
use Rattle.sm_names.specs.Elements.{In}
use Rattle.forced_marks.proofs.laws.each_taken_node_stands_in_one_row.Goals as goal

pub returns-clause-rows : goal.returns-clause-rows
returns-clause-rows c marks way taken h on =
    let r = row_is marks way taken h on in
    (r.0, λ node there. below_is marks way taken h.above node (subst (λ (x : Handing). In node x.below) r.1 there))

pub returns-clause-one : goal.returns-clause-one
returns-clause-one c = one_row

pub returns-clause-loss : goal.returns-clause-loss
returns-clause-loss c = loss_row

pub returns-clause-ended : goal.returns-clause-ended
returns-clause-ended c = end_row
