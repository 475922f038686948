use Rattle.core_likeness.proofs.Common.{Entry, None, Some, ap, arith, common_steps, entry_mark, length, map, take, timeline, tracked_at}
use Rattle.core_likeness.proofs.Common.{tracked_of, ◌<◌, ◌∙◌}
use Rattle.core_likeness.proofs.TrackerLaws.{attached-more}
use Rattle.core_likeness.proofs.readings.tracking.attached_in.Goals.{in-Some+in_ok-push, in_default}
use Rattle.core_likeness.proofs.readings.tracking.attached_in.Goals as goal

-- one more comes last, or none
pub loop-at-preserved : goal.loop-at-preserved
loop-at-preserved c = λ pool.
    let within : c.loop-at.at < length c.args.entries.now = omega arith in
    let told = λ (x : Entry). tracked_at (timeline pool (take c.loop-at.at c.args.entries.now)) (entry_mark x) in
    let here = ap told c.index-entries-at.is in
    elim c.match-attached_by.branch [
      | in-Some+in_ok-push w ↦
          let more = attached-more pool c.args.entries.now c.loop-at.at c.index-entries-at.result within c.loop-at.all.items
          (Some w.in-Some.tracker) (c.loop-at.invariant pool) (w.in-Some.ensures pool ∙ here) in
          let pushed = w.in_ok-push.ensures.items in
          let is = ap (λ v. map tracked_of v.items) w.all-is in
          is ∙ (ap (map tracked_of) pushed ∙ more)
      | in_default w ↦
          let more = attached-more pool c.args.entries.now c.loop-at.at c.index-entries-at.result within c.loop-at.all.items
          None (c.loop-at.invariant pool) (w.in_default.ensures pool ∙ here) in
          let is = ap (λ v. map tracked_of v.items) w.all-is in
          grind (arith, common_steps, is, more)
    ]
