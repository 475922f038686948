-- Which replies a call can have: that of its row in the table of calls, and those of calls that take no effect.
use Rattle.std.specs.Prelude.{Bool, true, false, ◌||◌, is_some}
use Rattle.sm_names.specs.declared.call_parts.Answer.{Answer}
use Rattle.sm_names.specs.declared.messages.Call.{Call}
use Rattle.sm_names.specs.declared.messages.Reply.{Reply}
use Rattle.sm_names.specs.CallRows.{row_for}
use Rattle.sm_names.specs.Timelines.{key_of}

-- the call takes no memory, whatever it is answered
abbrev pub takes_no_memory : Call → Bool
takes_no_memory Call.Shut = true
takes_no_memory Call.Collect = true
takes_no_memory _ = false

-- the call only asks whether its node is well
abbrev pub is_sync : Call → Bool
is_sync (Call.Sync key) = true
is_sync _ = false

-- the call releases its node
abbrev pub is_releasing : Call → Bool
is_releasing (Call.Release key) = true
is_releasing _ = false

-- the answers are of the same form
abbrev pub same_answer : Answer → Answer → Bool
same_answer Answer.Done Answer.Done = true
same_answer Answer.Joined Answer.Joined = true
same_answer Answer.Shut Answer.Shut = true
same_answer Answer.Token Answer.Token = true
same_answer Answer.Parcel Answer.Parcel = true
same_answer Answer.Allocated Answer.Allocated = true
same_answer Answer.Taken Answer.Taken = true
same_answer Answer.Tracker Answer.Tracker = true
same_answer _ _ = false

-- the table of calls says that the call is answered so, where it takes effect
abbrev pub is_answered : Answer → Call → Bool
is_answered answer call = same_answer answer (row_for call).answers

-- the call can have the reply: a call that takes effect has that of its row, where Pending stands for buffers that are not there
-- yet; a call on no node is neither a misuse nor told of a failure, and any call may be refused
abbrev pub fits_call : Call → Reply → Bool
fits_call call Reply.Done = is_answered Answer.Done call
fits_call call (Reply.Joined made) = is_answered Answer.Joined call
fits_call call (Reply.Shut waiting) = is_answered Answer.Shut call
fits_call call (Reply.Token key collection) = is_answered Answer.Token call
fits_call call (Reply.Collected key kind collection) = is_answered Answer.Parcel call
fits_call call (Reply.CollectedHandle buffer strength) = is_answered Answer.Parcel call
fits_call call Reply.Empty = is_answered Answer.Parcel call
fits_call call Reply.Pending = is_answered Answer.Allocated call || is_answered Answer.Taken call
fits_call call (Reply.Allocated count size) = is_answered Answer.Allocated call
fits_call call (Reply.Taken collection strength set) = is_answered Answer.Taken call
fits_call call (Reply.Tracker id) = is_answered Answer.Tracker call
fits_call call (Reply.Misused misuse) = is_some (key_of call)
fits_call call (Reply.PeerClosed cause origin) = is_some (key_of call)
fits_call call (Reply.Refused refusal) = true
