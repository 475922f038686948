-- The text of a line of a script.
use Rattle.std.specs.Prelude.{ℕ, if◌then◌else◌, Option, Some, None, List, [], ◌∷◌, ◌++◌, codes}
use Rattle.std.specs.Fmt.{decimal}
use Rattle.sm_names.specs.declared.call_parts.Argument.{Argument}
use Rattle.sm_names.specs.declared.call_parts.Object.{Object}
use Rattle.sm_names.specs.declared.keys.Strength.{Strength}
use Rattle.sm_names.specs.CallRows.{word_of}
use Rattle.sm_names.specs.Demands.{Demand}
use Rattle.script_lines.specs.declared.buffer_label.BufferLabel.{BufferLabel}
use Rattle.script_lines.specs.declared.label.Label.{Label}
use Rattle.script_lines.specs.declared.line.Line.{Line}
use Rattle.script_lines.specs.declared.line.Request.{Request}
use Rattle.script_lines.specs.declared.line.Query.{Query}
use Rattle.script_lines.specs.Labels.{text_of_label}

-- the name of a strength
abbrev pub strength_name : Strength → List ℕ
strength_name Strength.Strong = codes "strong"
strength_name Strength.Weak = codes "weak"

-- three numbers, each behind a space
abbrev pub demand_text : Demand → List ℕ
demand_text demand = 32 ∷ decimal demand.camping ++ 32 ∷ decimal demand.at_least ++ 32 ∷ decimal demand.size

-- a buffer: a label, a point and the index
abbrev pub buffer_label_text : BufferLabel → List ℕ
buffer_label_text buffer = text_of_label buffer.node ++ 46 ∷ decimal buffer.index

-- what a call is made on, behind a space
abbrev pub object_text : Object Label BufferLabel → List ℕ
object_text Object.Nothing = []
object_text (Object.Node node) = 32 ∷ text_of_label node
object_text (Object.Buffer buffer) = 32 ∷ buffer_label_text buffer

-- what else it says, each word behind a space
abbrev pub argument_text : Argument Label → List ℕ
argument_text Argument.Nothing = []
argument_text (Argument.Client to) = 32 ∷ text_of_label to
argument_text (Argument.Children children) = if children then codes " children" else []
argument_text (Argument.Constraints constraints) = demand_text constraints
argument_text (Argument.Most most) = 32 ∷ decimal most
argument_text (Argument.Strength strength) = 32 ∷ strength_name strength
argument_text (Argument.Gift strength to) = 32 ∷ strength_name strength ++ 32 ∷ text_of_label to

-- the label that is to be bound, behind a space
abbrev pub binds_text : Option Label → List ℕ
binds_text None = []
binds_text (Some label) = 32 ∷ text_of_label label

-- what a client asks: the word of the call, what it is made on, what else it says, and the label that is to be bound
abbrev pub request_text : Request Label BufferLabel → List ℕ
request_text r = word_of r.kind ++ object_text r.object ++ argument_text r.argument ++ binds_text r.binds

-- the name of a view
abbrev pub view_name : Query → List ℕ
view_name Query.Live = codes "live"
view_name Query.Held = codes "held"
view_name Query.Fired = codes "fired"
view_name Query.Free = codes "free"

-- the line, without its end
abbrev pub line_text : Line → List ℕ
line_text Line.Nothing = []
line_text (Line.Join client) = text_of_label client ++ codes " join"
line_text (Line.Ask client request) = text_of_label client ++ 32 ∷ request_text request
line_text (Line.Poll client tracker) = text_of_label client ++ codes " poll " ++ text_of_label tracker
line_text (Line.Show view) = codes "show " ++ view_name view
