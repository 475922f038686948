-- The text of a reply, of a poll and of a view. Labels stand for nodes and trackers; keys are never shown.
use Rattle.std.specs.Prelude.{ℕ, ◌==◌, if◌then◌else◌, List, [], ◌∷◌, ◌++◌, codes}
use Rattle.std.specs.Fmt.{decimal}
use Rattle.std.specs.Int.{bit_at}
use Rattle.std.specs.List.{flat_map}
use Rattle.sm_names.specs.declared.rules.TheConstants.{MAX_BUFFERS}
use Rattle.sm_names.specs.declared.keys.HeldBuffer.{HeldBuffer}
use Rattle.sm_names.specs.declared.keys.BufferName.{BufferName}
use Rattle.sm_names.specs.declared.keys.Kind.{Kind}
use Rattle.sm_names.specs.declared.keys.NodeKey.{NodeKey}
use Rattle.sm_names.specs.declared.messages.Reply.{Reply}
use Rattle.sm_names.specs.declared.outcomes.Cause.{Cause}
use Rattle.sm_names.specs.declared.outcomes.Failure.{Failure}
use Rattle.sm_names.specs.declared.tracking.Fired.{Fired}
use Rattle.sm_names.specs.Handles.{names as names_of}
use Rattle.sm_names.specs.Marks.{Timeline}
use Rattle.sm_names.specs.Numbers.{refusal_number, refusal_name, misuse_number, misuse_name}
use Rattle.sm_names.specs.Trackers.{fired}
use Rattle.sm_names.specs.Views.{live_nodes, held_by_page, free_pages}
use Rattle.script_labels.specs.declared.act.Binds.{Binds}
use Rattle.script_lines.specs.declared.line.Query.{Query}
use Rattle.script_lines.specs.Labels.{label_text, text_of_label}
use Rattle.script_lines.specs.LineTexts.{strength_name}
use Rattle.script_labels.specs.Names.{Names, label_of_node, label_of_root, label_of_tracker}

-- the label that the line binds, if it binds any
abbrev pub bound_text : Binds → List ℕ
bound_text Binds.Nothing = []
bound_text (Binds.Client label) = text_of_label label
bound_text (Binds.Node label) = text_of_label label
bound_text (Binds.Tracker label) = text_of_label label

-- the name of what an end is
abbrev pub kind_name : Kind → List ℕ
kind_name Kind.Token = codes "token"
kind_name Kind.Collection = codes "collection"

-- the name of a failure of an allocation
abbrev pub failure_name : Failure → List ℕ
failure_name Failure.NoStrong = codes "NoStrong"
failure_name Failure.NoBuffers = codes "NoBuffers"
failure_name Failure.TooManyBuffers = codes "TooManyBuffers"
failure_name Failure.PoolFull = codes "PoolFull"
failure_name Failure.TooFew = codes "TooFew"
failure_name Failure.TooSmall = codes "TooSmall"

-- why a node failed
abbrev pub cause_text : Cause → List ℕ
cause_text Cause.Lost = codes "lost"
cause_text (Cause.Misused misuse) = codes "misused " ++ misuse_name misuse
cause_text (Cause.Failed failure) = codes "failed " ++ failure_name failure
cause_text Cause.NoStrong = codes "nostrong"

-- a number and a name
abbrev pub numbered : ℕ → List ℕ → List ℕ
numbered number name = decimal number ++ 32 ∷ name

-- a node behind a space
abbrev pub node_text : Names → NodeKey → List ℕ
node_text names node = 32 ∷ label_text (label_of_node names node)

-- a buffer behind a space, by the label of its collection's root
abbrev pub buffer_text : Names → BufferName → List ℕ
buffer_text names buffer = 32 ∷ label_text (label_of_root names buffer.collection) ++ 46 ∷ decimal buffer.index

-- the buffer behind a space, if it is in the set: bit i stands for buffer i
abbrev pub member_text : Names → ℕ → BufferName → List ℕ
member_text names set buffer = if bit_at set buffer.index == 1 then buffer_text names buffer else []

-- the reply to a call that was to bind this, without the end of its line
abbrev pub reply_text : Names → Binds → Reply → List ℕ
reply_text names binds Reply.Done = codes "done"
reply_text names binds (Reply.Joined client) = codes "joined"
reply_text names binds (Reply.Shut waiting) = codes "shut " ++ decimal waiting
reply_text names binds (Reply.Token key collection) = codes "token" ++ 32 ∷ bound_text binds
reply_text names binds (Reply.Collected key kind collection) = kind_name kind ++ 32 ∷ bound_text binds
reply_text names binds (Reply.CollectedHandle buffer strength) =
    codes "handle" ++ buffer_text names buffer ++ 32 ∷ strength_name strength
reply_text names binds Reply.Empty = codes "empty"
reply_text names binds Reply.Pending = codes "pending"
reply_text names binds (Reply.Allocated count size) = codes "allocated " ++ numbered count (decimal size)
reply_text names binds (Reply.Taken collection strength set) =
    codes "taken " ++ strength_name strength ++ flat_map (member_text names set) (names_of collection MAX_BUFFERS)
reply_text names binds (Reply.Tracker id) = codes "tracker" ++ 32 ∷ bound_text binds
reply_text names binds (Reply.Refused refusal) = codes "refused " ++ numbered (refusal_number refusal) (refusal_name refusal)
reply_text names binds (Reply.Misused misuse) = codes "misused " ++ numbered (misuse_number misuse) (misuse_name misuse)
reply_text names binds (Reply.PeerClosed cause origin) =
    codes "closed " ++ cause_text cause ++ 32 ∷ label_text (label_of_node names origin)

-- what is read of a tracker that fired at this event
abbrev pub poll_text : ℕ → List ℕ
poll_text event = codes "fired " ++ decimal event

-- a held buffer behind a space, its first page, and how many pages
abbrev pub held_text : Names → HeldBuffer → List ℕ
held_text names held = buffer_text names held.buffer ++ 32 ∷ numbered held.pages.start (decimal held.pages.pages)

-- a firing behind a space: the label of its tracker, and the event
abbrev pub fired_text : Names → Fired → List ℕ
fired_text names firing = 32 ∷ label_text (label_of_tracker names firing.tracker) ++ 32 ∷ decimal firing.event

-- what is shown after these marks, without the end of its line
abbrev pub view_text : ℕ → Timeline → Names → Query → List ℕ
view_text pool marks names Query.Live = codes "live" ++ flat_map (node_text names) (live_nodes marks)
view_text pool marks names Query.Held = codes "held" ++ flat_map (held_text names) (held_by_page pool marks)
view_text pool marks names Query.Fired = codes "fired" ++ flat_map (fired_text names) (fired marks)
view_text pool marks names Query.Free = codes "free " ++ decimal (free_pages pool marks)
