use Rattle.std.proofs.Common.{subst}
use Rattle.script_labels.specs.Names.{names_after}
use Rattle.script_labels.specs.Records.{RecorderNames}
use Rattle.script_labels.proofs.Walks.{joins, ok-weaker}
use Rattle.script_labels.proofs.recorder.Recorder.note.Goals as goal

pub returns-in-Client-Joined : goal.returns-in-Client-Joined
returns-in-Client-Joined c =
    ok-weaker c.call_client.result _ _
    (λ on s calls. subst (RecorderNames c.call_client.new.self)
    (joins s c.args.binds c.args.reply c.in-Client-Joined.client c.in-Client-Joined.label c.in-Client-Joined.is-0 c.in-Client-Joined.is-1)
    (on (record s { names = names_after s.names c.args.binds c.args.reply })
    (record { names = c.in_ok-bind.ensures s.names calls.names; clients = calls.clients })))
    c.call_client.ensures
