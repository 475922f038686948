-- What clients and nodes are called, as labels stand for them.
use Rattle.std.specs.Prelude.{ℕ, ◌≡◌, ◌==◌, if◌then◌else◌, List, [], ◌++◌, map, Option, Some, None}
use Rattle.std.specs.Map.{lookup}
use Rattle.sm_names.specs.declared.keys.NodeKey.{NodeKey}
use Rattle.sm_names.specs.declared.messages.Reply.{Reply}
use Rattle.sm_names.specs.Marks.{Entry}
use Rattle.sm_names.specs.Sameness.{same_key}
use Rattle.sm_names.specs.Timelines.{timeline}
use Rattle.core_state.specs.Shown.{Shows}
use Rattle.script_lines.specs.declared.label.Label.{Label}
use Rattle.script_lines.specs.Labels.{same_label, text_of_label}
use Rattle.script_labels.specs.declared.act.Binds.{Binds}
use Rattle.script_labels.specs.Names.{Names, Place, names_after}
use Rattle.script_labels.specs.Tables.{Keeps}
use Rattle.script_labels.specs.Texts.{reply_text}
use Rattle.sm_script.specs.Scenes.{Scene, as_line}
use Rattle.sm_script.specs.Sessions.{IsAt}
use Rattle.event_texts.specs.declared.labels.Labels.{Labels}
use Rattle.event_texts.specs.declared.event_writer.EventWriter.{EventWriter}
use Rattle.event_texts.specs.Failing.{failures}

-- the label of the client, the last that it got
abbrev pub client_label : Names → ℕ → Option Label
client_label names client =
    lookup (λ other. other == client) (map (λ (c : Label × ℕ). (c.1, c.0)) names.clients)

-- the label that the node got last: that of its birth, or the last under which its end was collected
abbrev pub last_label : Names → NodeKey → Option Label
last_label names node =
    lookup (λ other. same_key other node) (map (λ (n : Label × Place). (n.1.0, n.0)) names.nodes)

-- the last label, where it is another than the first
abbrev pub other_text : Option Label → Option Label → List ℕ
other_text None first = []
other_text (Some last) None = text_of_label last
other_text (Some last) (Some first) = if same_label last first then [] else text_of_label last

-- clients and nodes are called as the names say
pub record Calls (labels : Labels) (names : Names) : Type 0 where
  pub clients : (client : ℕ) → lookup (λ other. client == other) labels.clients.entries ≡ client_label names client
  pub nodes : (node : NodeKey) → lookup (same_key node) labels.nodes.entries ≡ last_label names node

-- the event writer has come so far, calls everything by the names for which the labels stand, and has counted the events in
-- which nodes failed
pub record Knows (event_writer : EventWriter) (scene : Scene) : Type 0 where
  pub is_at : IsAt event_writer.session scene
  pub calls : Calls event_writer.labels scene.names
  pub failed : event_writer.failures ≡ failures (timeline event_writer.session.core.pool scene.history)

-- the event writer took note of the reply of a call: its text stands behind what was there, and what the call made or brought
-- is called as the line says
pub record Notes (old new : EventWriter) (binds : Binds) (reply : Reply) (before after : List ℕ) : Type 0 where
  pub pool : new.session.core.pool ≡ old.session.core.pool
  pub limits : new.session.core.limits ≡ old.session.core.limits
  pub shows : (history : List Entry) → Shows old.session.core history → Shows new.session.core history
  pub text : (names : Names) → Keeps old.session.tables names → after ≡ before ++ as_line (reply_text names binds reply)
  pub keeps : (names : Names) → Keeps old.session.tables names → Keeps new.session.tables (names_after names binds reply)
  pub calls : (names : Names) → Calls old.labels names → Calls new.labels (names_after names binds reply)
