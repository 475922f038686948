-- What a picture shows behind an event: its trees, and the marks of the event in words.
use Rattle.std.specs.Prelude.{ℕ, ◌≡◌, Bool, true, false, ◌&&◌, ◌||◌, ◌==◌, not, nat_lt, All}
use Rattle.std.specs.Prelude.{if◌then◌else◌, List, [], ◌∷◌, length, map, take, Option, Some, None, Vec, is_some}
use Rattle.std.specs.declared.alloc.Global.{Global}
use Rattle.std.specs.List.{filter, list_any, position}
use Rattle.std.specs.Option.{option_and_then, option_map_or}
use Rattle.sm_names.specs.declared.keys.HeldBuffer.{HeldBuffer}
use Rattle.sm_names.specs.declared.keys.NodeKey.{NodeKey}
use Rattle.forest_store.specs.declared.node.Node.{Node}
use Rattle.forest_store.specs.declared.snapshot.Snapshot.{Snapshot}
use Rattle.forest_store.specs.Forest.{collection_at, node_at}
use Rattle.forest_store.specs.Nodes.{is_of, node_of}
use Rattle.core_state.specs.Reads.{views_of}
use Rattle.core_state.specs.State.{State}
use Rattle.forced_marks.specs.declared.decision.Forced.{Forced}
use Rattle.forced_marks.specs.declared.moment.Moment.{Moment}
use Rattle.event_facts.specs.declared.before.Before.{Before}
use Rattle.event_facts.specs.declared.event.Event.{Event}
use Rattle.event_facts.specs.Events.{scene_after}
use Rattle.event_facts.specs.Facts.{is_back, is_keeper}
use Rattle.script_labels.specs.Names.{Names}
use Rattle.event_texts.specs.MarkTexts.{mark_text, placed_in}
use Rattle.picture_model.specs.declared.picture_state.PictureState.{PictureState}
use Rattle.picture_model.specs.declared.picture.Picture.{Picture}
use Rattle.picture_model.specs.declared.picture.ToldMark.{ToldMark}
use Rattle.picture_model.specs.declared.picture.Tree.{Tree}
use Rattle.picture_model.specs.declared.failure_view.Travel.{Travel}
use Rattle.picture_model.specs.Seen.{IsTree, held_of_collection, seen_in}
use Rattle.picture_model.specs.Travels.{travels_of}

-- ---- trees

-- a tree, with its lists
pub record TreeLists : Type 0 where
  pub id : ℕ
  pub nodes : List Node
  pub left : List NodeKey
  pub held : List HeldBuffer
  pub freed : List HeldBuffer
  pub strong : List NodeKey

-- what the lists of a tree have
abbrev pub lists_of : Tree → TreeLists
lists_of t = record {
  id = t.id;
  nodes = t.nodes.items;
  left = t.left.items;
  held = t.held.items;
  freed = t.freed.items;
  strong = t.strong.items;
}

-- the collection with this id before the event, if that concerns it
abbrev pub before_if : ℕ → Before → Option Before
before_if id b = if b.copied.id == id then Some b else None

-- the collection with this id before the event, if the event changed it
abbrev pub before_in : Option Event → ℕ → Option Before
before_in event id = option_and_then (before_if id) (option_and_then (λ (e : Event). e.before) event)

-- the node is gone, and was not among these earlier ones
abbrev pub has_gone : List Node → Node → Bool
has_gone earlier n = n.gone && option_map_or (λ (m : Node). not m.gone) (node_of earlier n.key) false

-- those of the nodes that left since the collection stood so
abbrev pub left_since : List Node → Before → List NodeKey
left_since known b = map (λ (n : Node). n.key) (filter (has_gone b.copied.nodes.items) known)

-- those of its buffers that have no pages any more, where these have
abbrev pub freed_since : List HeldBuffer → Before → List HeldBuffer
freed_since held b = filter (is_back held) b.copied.held.items

-- the tree of a collection, of which the picture state knows these nodes: they stand as the core has them, by birth; the nodes
-- that left, and the buffers that gave their pages back, did so at the event
abbrev pub tree_in : State → Option Event → ℕ → List Node → TreeLists
tree_in s event id known = record {
  id = id;
  nodes = map (seen_in s) known;
  left = option_map_or (left_since known) (before_in event id) [];
  held = held_of_collection s id;
  freed = option_map_or (freed_since (held_of_collection s id)) (before_in event id) [];
  strong = map (λ (n : Node). n.key) (filter is_keeper (map (seen_in s) known));
}

-- the tree is shown: its collection is kept, or the event took a node of it or gave pages of it back
abbrev pub is_shown : State → TreeLists → Bool
is_shown s t = is_some (collection_at s.forest t.id) || (nat_lt 0 (length t.left) || nat_lt 0 (length t.freed))

-- a collection that the picture state knows, and its nodes
abbrev pub Family : Type 0
Family = ℕ × Vec Node Global

-- the trees that are shown of these collections, in their order
abbrev pub trees_of : State → Option Event → List Family → List TreeLists
trees_of s event families =
    filter (is_shown s) (map (λ (f : Family). tree_in s event f.0 f.1.items) families)

-- no node that the core keeps is missing: a tree of its collection shows it
pub record ShowsKept (s : State) (trees : List Tree) : Type 0 where
  pub shown : (key : NodeKey) (n : Node) → node_at s.forest key ≡ Some n →
      list_any (λ (t : Tree). t.id == n.collection && list_any (is_of key) t.nodes.items) trees ≡ true

-- ---- marks

-- the first line of a text, without its end
abbrev pub first_line : List ℕ → List ℕ
first_line text = option_map_or (λ at. take at text) (position (λ b. b == 10) text) text

-- the mark is a failure
abbrev pub is_failure : Forced → Bool
is_failure (Forced.Loss fault) = true
is_failure (Forced.Allocated head) = false
is_failure (Forced.Ended top) = false

-- whether the mark is a failure, and its words
abbrev pub ToldWords : Type 0
ToldWords = Bool × List ℕ

-- whether a mark is a failure, and its first line
abbrev pub words_of : ToldMark → ToldWords
words_of m = (m.fails, m.line.items)

-- each mark in the first line of its text, where this many pages are free, and so the collection stands behind them
abbrev pub told_in : Names → ℕ → Option Snapshot → List Moment → List ToldWords
told_in names free after [] = []
told_in names free after (m ∷ later) =
    (is_failure m.mark, first_line (mark_text names free (placed_in (scene_after later after)) m)) ∷ told_in names free after later

-- ---- the whole

-- the marks of the event, as they are told
abbrev pub told_behind : Names → ℕ → Option Event → List ToldWords
told_behind names free event = option_map_or (λ (e : Event). told_in names free e.after e.moments.items) event []

-- the links that the failures of the event followed
abbrev pub travels_behind : Option Event → List Travel
travels_behind event = option_map_or (λ (e : Event). travels_of e.moments.items) event []

-- how many trackers had fired before the event
abbrev pub fired_before : Option Event → ℕ
fired_before event = option_map_or (λ (e : Event). e.fired) event 0

-- the picture is that of a core in this state behind this event, or where nothing happened: the trees that are shown of the
-- collections that the picture state knows, the marks of the event in words, the links that its failures followed, and how many
-- trackers had fired before it
pub record ShowsEvent (s : State) (names : Names) (picture_state : PictureState) (event : Option Event) (picture : Picture) : Type 0 where
  pub seen : All (IsTree s) picture.trees.items
  pub trees : map lists_of picture.trees.items ≡ trees_of s event picture_state.families.entries
  pub told : map words_of picture.told.items ≡ told_behind names (views_of s).free event
  pub travels : picture.travels.items ≡ travels_behind event
  pub fired : picture.fired ≡ fired_before event
