-- All nodes that were ever born, as they were last seen, collection by collection.
use Rattle.std.specs.Prelude.{ℕ, ◌≡◌, ◌==◌, ◌&&◌, not, Bool, true, false, if◌then◌else◌}
use Rattle.std.specs.Prelude.{List, [], ◌∷◌, ◌++◌, map, reverse, Option, Some, None, Vec}
use Rattle.std.specs.declared.alloc.Global.{Global}
use Rattle.std.specs.BTreeMap.{get}
use Rattle.std.specs.List.{list_any}
use Rattle.std.specs.Option.{option_map_or}
use Rattle.std.specs.Ordering.{nat_cmp}
use Rattle.sm_names.specs.declared.keys.NodeKey.{NodeKey}
use Rattle.sm_names.specs.declared.messages.Call.{Call}
use Rattle.sm_names.specs.declared.messages.Reply.{Reply}
use Rattle.sm_names.specs.declared.outcomes.Fault.{Fault}
use Rattle.sm_names.specs.Marks.{Entry}
use Rattle.forest_store.specs.declared.node.End.{End}
use Rattle.forest_store.specs.declared.node.Node.{Node}
use Rattle.forest_store.specs.Forest.{node_at}
use Rattle.forest_store.specs.Nodes.{above_among, is_of, is_spent, node_of}
use Rattle.forest_store.specs.Questions.{blocks_here, is_below}
use Rattle.core_state.specs.Shown.{Shows}
use Rattle.core_state.specs.State.{State}
use Rattle.forced_marks.specs.declared.decision.Forced.{Forced}
use Rattle.forced_marks.specs.declared.moment.Moment.{Moment}
use Rattle.forced_marks.specs.Explanations.{climb}
use Rattle.event_facts.specs.declared.event.Event.{Event}
use Rattle.event_texts.specs.EventLines.{IsEventOf}
use Rattle.picture_model.specs.Seen.{named_in}
use Rattle.picture_model.specs.declared.picture_state.PictureState.{PictureState}

-- the nodes of this collection, by birth
abbrev pub known_in : PictureState → ℕ → List Node
known_in picture_state id = option_map_or (λ (nodes : Vec Node Global). nodes.items) (get nat_cmp picture_state.families id) []

-- ---- behind a mark

-- a node that left by this fault, if it is taken
abbrev pub after_mark : Option Fault → Bool → Node → Node
after_mark fault taken n = if taken then record n { gone = true; fault = fault } else n

-- a node that left by this fault, if it is one of these, unless it had before
abbrev pub left_if : Option Fault → (NodeKey → Bool) → Node → Node
left_if fault below n = after_mark fault (not n.gone && below n.key) n

-- the nodes, of which the top one and those below it left by this fault, unless they had before
abbrev pub left_below : List Node → NodeKey → Option Fault → List Node
left_below nodes top fault = map (left_if fault (is_below nodes top)) nodes

-- the last of these, or this one
abbrev pub top_of : NodeKey → List NodeKey → NodeKey
top_of origin [] = origin
top_of origin (key ∷ keys) = top_of key keys

-- the nodes once this mark is made
abbrev pub marked : List Node → Forced → List Node
marked nodes (Forced.Allocated head) = nodes
marked nodes (Forced.Ended top) = left_below nodes top None
marked nodes (Forced.Loss fault) = left_below nodes
    (top_of fault.origin (climb (λ k. list_any (blocks_here k) nodes) fault.origin (above_among (reverse nodes) fault.origin)))
    (Some fault)

-- the nodes behind the last of these marks, or these
abbrev pub walked_from : List Node → List Moment → List Node
walked_from nodes [] = nodes
walked_from nodes (m ∷ more) = walked_from (marked m.before.nodes.items m.mark) more

-- the nodes behind the last of these marks; none where there is no mark
abbrev pub walked : List Moment → List Node
walked moments = walked_from [] moments

-- ---- behind an event

-- the node once it was forgotten: as the walk has it, if it has it, gone, and its end spent
abbrev pub forgotten : List Node → Node → Node
forgotten later n = record (option_map_or (λ (m : Node). m) (node_of later n.key) n) { gone = true; end = End.Spent }

-- the node as it is seen behind the event; one that was gone, and whose end was spent, does not change
abbrev pub seen_again : State → List Node → Node → Node
seen_again s later n =
    let again = option_map_or (λ (present : Node). present) (node_at s.forest n.key) (forgotten later n) in
    if n.gone && is_spent n.end then n else again

-- the nodes, if theirs is the collection that the call named
abbrev pub refreshed : State → Option ℕ → List Moment → ℕ → List Node → List Node
refreshed s named moments id nodes =
    if option_map_or (λ other. other == id) named false then map (seen_again s (walked moments)) nodes else nodes

-- the collection that the call named, if the event has a mark: no node leaves by one that has none
abbrev pub marked_in : Option ℕ → List Moment → Option ℕ
marked_in named [] = None
marked_in named (m ∷ more) = named

-- the nodes of this collection, with the one of this key behind them, if that is of it, and kept
abbrev pub with_named : State → NodeKey → ℕ → ℕ → List Node → List Node
with_named s key collection id nodes =
    if collection == id then option_map_or (λ n. nodes ++ n ∷ []) (node_at s.forest key) nodes else nodes

-- the same with the one that the reply tells of, if it is new
abbrev pub with_told : State → Reply → ℕ → List Node → List Node
with_told s (Reply.Token key collection) id nodes = with_named s key collection id nodes
with_told s _ id nodes = nodes

-- the nodes of this collection behind the event, whose call named that one
abbrev pub known_after : State → Option ℕ → Event → ℕ → List Node → List Node
known_after s named event id nodes =
    with_told s event.reply id (refreshed s (marked_in named event.moments.items) event.moments.items id nodes)

-- the picture state knows each node that the core keeps, in the node's collection
pub record KnowsKept (s : State) (picture_state : PictureState) : Type 0 where
  pub known : (key : NodeKey) (n : Node) → node_at s.forest key ≡ Some n → list_any (is_of key) (known_in picture_state n.collection) ≡ true

-- these nodes are known of each collection once the calls of the history were made: first none, then behind the event of each call
-- those that `known_after` has
pub data HasSeen (pool : ℕ) : List Entry → (ℕ → List Node) → Type 0 where
  NoneSeen : (known : ℕ → List Node) → ((id : ℕ) → known id ≡ []) → HasSeen pool [] known
  OneSeen : (history : List Entry) (before known : ℕ → List Node) (old new : State) (client : ℕ) (call : Call) (event : Event) →
      HasSeen pool history before → Shows old history → old.pool ≡ pool → IsEventOf old client call event →
      Shows new (history ++ (client, call, event.reply) ∷ []) → new.pool ≡ pool →
      ((id : ℕ) → known id ≡ known_after new (named_in old call) event id (before id)) →
      HasSeen pool (history ++ (client, call, event.reply) ∷ []) known
