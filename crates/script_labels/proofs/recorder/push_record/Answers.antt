use Rattle.std.proofs.Common.{arith, ◌+◌}
use Rattle.script_labels.specs.Records.{scribe_after}
use Rattle.script_labels.proofs.Walks.{goes-on}
use Rattle.script_labels.proofs.recorder.push_record.Goals as goal

pub entries-preserved : goal.entries-preserved
entries-preserved c =
    let s = c.entries.invariant.0.0 in
    let calls = c.entries.invariant.0.1 in (
      (
        scribe_after s c.label_of_next.result (c.entries.event + 1) c.in-Some.entry.now,
        c.in_ok-push_entry.ensures.calls s calls,
        goes-on _ _ _ s c.entries.labels.now _ c.label_of_next.result
            (c.entries.event + 1) c.in-Some.entry.now c.entries.rest.now c.in-Some.later.now
            c.entries.invariant.0.2 c.in-Some.ensures.cases.0 c.label_of_next.ensures
            (c.in_ok-push_entry.ensures.text s calls) c.labels_left-labels.ensures,
      ),
      omega (arith, c.entries.invariant.1, c.in-Some.ensures.cases.1),
    )
