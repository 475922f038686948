use Rattle.script_labels.proofs.Walks.{is-entry, ok-always}
use Rattle.script_labels.proofs.recorder.Recorder.push_entry.Goals as goal

pub returns-clause-text : goal.returns-clause-text
returns-clause-text c =
    ok-always c.note.result _
    (λ s calls. is-entry _ _ _ _ _ s c.args.next c.args.event c.args.entry c.in_ok-binds.binds c.in_ok-binds.ensures
    (c.in_ok-push_call.ensures s calls) c.in_ok-push.ensures.ok (c.in_ok-push_reply.ensures s.names calls.names) c.in_ok-push-2.ensures.ok)
