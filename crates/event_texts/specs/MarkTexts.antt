-- The texts of the marks of an event, as functions of what labels stand for.
use Rattle.std.specs.Prelude.{ℕ, List, [], ◌∷◌, ◌++◌, Option}
use Rattle.std.specs.Option.{option_and_then, option_map, option_map_or}
use Rattle.sm_names.specs.declared.keys.HeldBuffer.{HeldBuffer}
use Rattle.sm_names.specs.declared.keys.NodeKey.{NodeKey}
use Rattle.sm_names.specs.declared.outcomes.Buffers.{Buffers}
use Rattle.forest_store.specs.declared.snapshot.Snapshot.{Snapshot}
use Rattle.forced_marks.specs.declared.decision.Forced.{Forced}
use Rattle.forced_marks.specs.declared.moment.Moment.{Moment}
use Rattle.event_facts.specs.Events.{snapshot_held, scene_after}
use Rattle.script_labels.specs.Names.{Names}
use Rattle.event_texts.specs.EventTexts.{initial_text, logical_text}
use Rattle.event_texts.specs.LossTexts.{end_text, loss_text}

-- the buffers of a collection, if it was given some, and those with pages
abbrev pub Placed : Type 0
Placed = Option (Buffers × List HeldBuffer)

-- the buffers of the collection and their pages, if it has buffers
abbrev pub placed_in : Option Snapshot → Placed
placed_in scene = option_map (λ (b : Buffers). (b, snapshot_held scene)) (option_and_then (λ (s : Snapshot). s.buffers) scene)

-- that the unit with this head was allocated, out of the buffers that there were, or of those that were placed
abbrev pub allocated_text : Names → Snapshot → NodeKey → Placed → List ℕ
allocated_text names scene head placed =
    let initial = option_map_or (λ (p : Buffers × List HeldBuffer). initial_text names scene.nodes.items head p.0 p.1) placed [] in
    option_map_or (λ (given : Buffers). logical_text names scene.nodes.items head given) scene.buffers initial

-- a mark in a collection where this many pages are free, behind which these buffers are there
abbrev pub forced_text : Names → ℕ → Placed → Snapshot → Forced → List ℕ
forced_text names free placed scene (Forced.Loss fault) = loss_text names scene.nodes.items scene.buffers free fault
forced_text names free placed scene (Forced.Allocated head) = allocated_text names scene head placed
forced_text names free placed scene (Forced.Ended top) = end_text names scene.nodes.items top

-- the lines of one mark, from the collection as it stood before
abbrev pub mark_text : Names → ℕ → Placed → Moment → List ℕ
mark_text names free placed m = forced_text names free placed m.before m.mark

-- the marks of an event, in order: behind each are the buffers that are there before the next, or after the event
abbrev pub marks_text : Names → ℕ → Option Snapshot → List Moment → List ℕ
marks_text names free after [] = []
marks_text names free after (m ∷ later) =
    mark_text names free (placed_in (scene_after later after)) m ++ marks_text names free after later
