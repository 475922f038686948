-- What happened, in order: each call with its reply, and after it what it forced.
use Rattle.std.specs.Prelude.{ℕ, Bool, true, false, List}
use Rattle.sm_names.specs.declared.keys.NodeKey.{NodeKey}
use Rattle.sm_names.specs.declared.messages.Call.{Call}
use Rattle.sm_names.specs.declared.messages.Reply.{Reply}
use Rattle.sm_names.specs.declared.outcomes.Cause.{Cause}
use Rattle.sm_names.specs.Words.{times}

-- an event: the caller, the call, and the reply
abbrev pub Entry : Type 0
Entry = ℕ × Call × Reply

-- what stands in a timeline
pub data Mark : Type 0 where
  -- an event
  Called : ℕ → Reply → Call → Mark
  -- the node failed by this cause, and took others with it
  Loss : NodeKey → Cause → Mark
  -- the unit with this head was given its buffers
  Allocated : NodeKey → Mark
  -- this node and all below it are gone, since none of them was live any more
  Ended : NodeKey → Mark

-- the marks so far, the newest first
abbrev pub Timeline : Type 0
Timeline = List Mark

-- the mark is an event: each other mark is forced by one
abbrev pub is_event : Mark → Bool
is_event (Called client reply call) = true
is_event _ = false

-- how many events there were
abbrev pub events : Timeline → ℕ
events marks = times is_event marks

-- a call with this reply took effect: only a refusal, a misuse and PeerClosed say that it did not
abbrev pub took_effect : Reply → Bool
took_effect (Reply.Refused refusal) = false
took_effect (Reply.Misused misuse) = false
took_effect (Reply.PeerClosed cause origin) = false
took_effect _ = true
