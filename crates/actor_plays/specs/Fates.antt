-- Which nodes fell.
use Rattle.std.specs.Prelude.{ℕ, ◌≡◌, List, [], ◌∷◌, ◌++◌, map, Option, Some, None, Vec}
use Rattle.std.specs.List.{filter, find, flat_map}
use Rattle.std.specs.Option.{option_map}
use Rattle.sm_names.specs.declared.keys.NodeKey.{NodeKey}
use Rattle.sm_names.specs.declared.messages.Call.{Call}
use Rattle.sm_names.specs.declared.messages.Reply.{Reply}
use Rattle.sm_names.specs.declared.outcomes.Fault.{Fault}
use Rattle.sm_names.specs.Marks.{Entry, Mark, Loss, Ended}
use Rattle.sm_names.specs.Sameness.{same_key}
use Rattle.forest_store.specs.declared.node.Node.{Node}
use Rattle.forest_store.specs.Nodes.{after_loss}
use Rattle.core_state.specs.Shown.{Shows}
use Rattle.core_state.specs.State.{State}
use Rattle.std.specs.declared.alloc.Global.{Global}
use Rattle.forced_marks.specs.declared.moment.Moment.{Moment}
use Rattle.forced_marks.specs.Marks.{AreStages, Stage}
use Rattle.forced_marks.specs.Moments.{stage_of}
use Rattle.event_facts.specs.Facts.{is_lost_with}
use Rattle.actor_plays.specs.declared.falls.GoneNode.{GoneNode}
use Rattle.actor_plays.specs.Plays.{joins}

-- the node is gone, by its fault if it has one
abbrev pub fall_told : Node → GoneNode
fall_told n = record { key = n.key; fault = n.fault }

-- the node ends
abbrev pub end_told : Node → GoneNode
end_told n = record { key = n.key; fault = None }

-- the nodes of these that are gone behind the mark, a loss, or that it takes, an end
abbrev pub falls_by : Mark → List Node → List GoneNode
falls_by (Loss origin cause) nodes =
    map fall_told (filter (λ (n : Node). n.gone) (after_loss (record { cause = cause; origin = origin }) nodes))
falls_by (Ended top) nodes = map end_told (filter (is_lost_with nodes top) nodes)
falls_by _ nodes = []

-- the same of a mark with the collection before it
abbrev pub falls_at : Stage → List GoneNode
falls_at s = falls_by s.mark s.before.nodes

-- the marks of an event are told, and with the nodes that they take those that fell are these
abbrev pub AreTold : Option (Vec Moment Global) → List GoneNode → List GoneNode → Type 0
AreTold None before later = ⊥
AreTold (Some moments) before later = later ≡ before ++ flat_map falls_at (map stage_of moments.items)

-- these nodes fell in the history, as the marks of its events tell
pub data AreFalls : List Entry → List GoneNode → Type 0 where
  Starts : (clients : List ℕ) → AreFalls (joins clients) []
  Tells : (history : List Entry) (falls : List GoneNode) (old new : State) (client : ℕ) (call : Call) (reply : Reply)
      (stages : List Stage) →
      AreFalls history falls → Shows old history → Shows new (history ++ (client, call, reply) ∷ []) →
      AreStages old new client call reply stages →
      AreFalls (history ++ (client, call, reply) ∷ []) (falls ++ flat_map falls_at stages)

-- how the node of this key fell first, if it did: by its fault, or without one
abbrev pub fault_fallen : List GoneNode → NodeKey → Option (Option Fault)
fault_fallen falls key = option_map (λ (f : GoneNode). f.fault) (find (λ (f : GoneNode). same_key f.key key) falls)
