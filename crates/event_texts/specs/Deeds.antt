-- The lines whose calls did something to an end that a later answer may rest on.
use Rattle.std.specs.Prelude.{ℕ, ◌≡◌, ◌==◌, ◌&&◌, Bool, List, [], ◌∷◌, Option, Some, None}
use Rattle.std.specs.Map.{lookup}
use Rattle.std.specs.Option.{option_map, option_map_or}
use Rattle.sm_names.specs.declared.keys.NodeKey.{NodeKey}
use Rattle.sm_names.specs.declared.messages.Call.{Call}
use Rattle.sm_names.specs.declared.messages.Reply.{Reply}
use Rattle.sm_names.specs.Sameness.{same_key}
use Rattle.event_facts.specs.declared.event.Event.{Event}
use Rattle.event_texts.specs.declared.deeds.Deed.{Deed}
use Rattle.event_texts.specs.declared.deeds.TheConstants.{BOUND, CONSTRAINED, GIVEN, SPENT, TAKEN}
use Rattle.event_texts.specs.declared.event_writer.EventWriter.{EventWriter}
use Rattle.event_texts.specs.EventTexts.{since_text}
use Rattle.event_texts.specs.LostLines.{LossLines, NumberedLine, RecallsLosses, kept_line, with_losses}

-- the deeds are one
abbrev pub same_deed : Deed → Deed → Bool
same_deed a b = same_key a.node b.node && a.kind == b.kind

-- the deed of this kind on the end of the node
abbrev pub deed_on : ℕ → NodeKey → Deed
deed_on kind node = record { node = node; kind = kind }

-- the deed, if the call was done
abbrev pub deed_if_done : Reply → Deed → Option Deed
deed_if_done Reply.Done deed = Some deed
deed_if_done _ deed = None

-- the deed, if the end was released, or its node had failed: a Release spends the end then too
abbrev pub deed_if_released : Reply → Deed → Option Deed
deed_if_released (Reply.PeerClosed cause origin) deed = Some deed
deed_if_released reply deed = deed_if_done reply deed

-- the deed, if the call opened handles
abbrev pub deed_if_taken : Reply → Deed → Option Deed
deed_if_taken (Reply.Taken collection strength set) deed = Some deed
deed_if_taken _ deed = None

-- what the call did to an end: only these calls can spend, give, bind or constrain an end, or take by it
abbrev pub deed_of : Call → Reply → Option Deed
deed_of (Call.Release key) reply = deed_if_released reply (deed_on SPENT key)
deed_of (Call.Close key) reply = deed_if_done reply (deed_on SPENT key)
deed_of (Call.Give key to) reply = deed_if_done reply (deed_on GIVEN key)
deed_of (Call.Bind key) reply = deed_if_done reply (deed_on BOUND key)
deed_of (Call.SetConstraints key demand) reply = deed_if_done reply (deed_on CONSTRAINED key)
deed_of (Call.Take key) reply = deed_if_taken reply (deed_on TAKEN key)
deed_of _ reply = None

-- the lines by deeds, the newest first
abbrev pub DeedLines : Type 0
DeedLines = List (Deed × NumberedLine)

-- behind the line that did this, if it did something
abbrev pub with_deed : NumberedLine → Option Deed → DeedLines → DeedLines
with_deed line None lines = lines
with_deed line (Some deed) lines = (deed, line) ∷ lines

-- the newest line that did this
abbrev pub deed_line : DeedLines → Deed → Option NumberedLine
deed_line lines deed = lookup (λ other. same_deed other deed) lines

-- the text of that line, if there is one
abbrev pub deed_since : DeedLines → Deed → List ℕ
deed_since lines deed = option_map_or (λ (l : NumberedLine). since_text l.0 l.1) (deed_line lines deed) []

-- ---- all lines that are kept

-- those whose events made nodes fail, and those that did something to an end
pub record KeptLines : Type 0 where
  pub losses : LossLines
  pub deeds : DeedLines

-- no line was kept yet
abbrev pub no_lines : KeptLines
no_lines = record { losses = []; deeds = [] }

-- behind the line of this event
abbrev pub with_event : NumberedLine → Event → KeptLines → KeptLines
with_event line e lines = record {
  losses = with_losses line e.moments.items lines.losses;
  deeds = with_deed line (deed_of e.call e.reply) lines.deeds;
}

-- the event writer keeps these lines with deeds
abbrev pub RecallsDeeds : EventWriter → DeedLines → Type 0
RecallsDeeds event_writer lines =
    (deed : Deed) → option_map kept_line (lookup (same_deed deed) event_writer.deeds.entries) ≡ deed_line lines deed

-- the event writer keeps these lines, and the limits of its core
pub record Recalls (event_writer : EventWriter) (lines : KeptLines) : Type 0 where
  pub losses : RecallsLosses event_writer lines.losses
  pub deeds : RecallsDeeds event_writer lines.deeds
  pub limits : event_writer.limits ≡ event_writer.session.core.limits
