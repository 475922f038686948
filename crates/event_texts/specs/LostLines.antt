-- The lines whose events made nodes fail, by the node where the loss began.
use Rattle.std.specs.Prelude.{ℕ, ◌≡◌, List, [], ◌∷◌, Option}
use Rattle.std.specs.Map.{lookup}
use Rattle.std.specs.Option.{option_map, option_map_or}
use Rattle.sm_names.specs.declared.keys.NodeKey.{NodeKey}
use Rattle.sm_names.specs.Sameness.{same_key}
use Rattle.forced_marks.specs.declared.decision.Forced.{Forced}
use Rattle.forced_marks.specs.declared.moment.Moment.{Moment}
use Rattle.event_texts.specs.declared.event_writer.KeptLine.{KeptLine}
use Rattle.event_texts.specs.declared.event_writer.EventWriter.{EventWriter}
use Rattle.event_texts.specs.EventTexts.{since_text}

-- the number of a line, and its bytes
abbrev pub NumberedLine : Type 0
NumberedLine = ℕ × List ℕ

-- the lines by nodes, the newest first
abbrev pub LossLines : Type 0
LossLines = List (NodeKey × NumberedLine)

-- behind this mark of the line's event
abbrev pub with_loss : NumberedLine → Forced → LossLines → LossLines
with_loss line (Forced.Loss fault) lines = (fault.origin, line) ∷ lines
with_loss line (Forced.Allocated head) lines = lines
with_loss line (Forced.Ended top) lines = lines

-- behind these marks of the line's event, in order
abbrev pub with_losses : NumberedLine → List Moment → LossLines → LossLines
with_losses line [] lines = lines
with_losses line (m ∷ later) lines = with_losses line later (with_loss line m.mark lines)

-- the newest line whose event made a loss that began at the node
abbrev pub loss_line : LossLines → NodeKey → Option NumberedLine
loss_line lines node = lookup (λ other. same_key other node) lines

-- the text of that line, if there is one
abbrev pub since_line : LossLines → NodeKey → List ℕ
since_line lines node = option_map_or (λ (l : NumberedLine). since_text l.0 l.1) (loss_line lines node) []

-- a line as the event writer keeps it
abbrev pub kept_line : KeptLine → NumberedLine
kept_line l = (l.number, l.line.items)

-- the event writer keeps these lines with losses
abbrev pub RecallsLosses : EventWriter → LossLines → Type 0
RecallsLosses event_writer lines =
    (node : NodeKey) → option_map kept_line (lookup (same_key node) event_writer.losses.entries) ≡ loss_line lines node
