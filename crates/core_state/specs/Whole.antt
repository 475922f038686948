-- What the fields of a core keep true. No public clause cites this module.
use Rattle.std.specs.Prelude.{◌≡◌, ℕ, ◌<◌, ◌≤◌, ◌^◌, true, false, ◌||◌, ◌==◌, ⊤, List, [], ◌∷◌, map, Option, Some, None, is_some, IfSome}
use Rattle.std.specs.List.{All, AllByRecursion}
use Rattle.sm_names.specs.declared.rules.TheConstants.{MAX_PAGES}
use Rattle.sm_names.specs.declared.keys.NodeKey.{NodeKey}
use Rattle.sm_names.specs.declared.keys.HeldBuffer.{HeldBuffer}
use Rattle.sm_names.specs.declared.tracking.Fired.{Fired}
use Rattle.sm_names.specs.Isolation.{IsOf}
use Rattle.sm_names.specs.Marks.{Entry}
use Rattle.sm_names.specs.Timelines.{timeline}
use Rattle.sm_names.specs.Elements.{In}
use Rattle.buffer_holds.specs.Counts.{HasPlaces}
use Rattle.buffer_pool.specs.Holdings.{Holdings}
use Rattle.forest_store.specs.declared.node.Node.{Node}
use Rattle.forest_store.specs.Forest.{Collection, Forest, IsPoolOf, given, node_at, is_left, tidied}
use Rattle.forest_store.specs.Nodes.{is_spent}
use Rattle.forest_store.specs.Settling.{Handles, is_home_in}
use Rattle.trackers.specs.declared.waiting.Waiting.{Waiting}
use Rattle.trackers.specs.Table.{Cell}
use Rattle.core_state.specs.declared.task.EndPlace.{EndPlace}
use Rattle.core_state.specs.declared.task.EventTask.{EventTask}
use Rattle.core_state.specs.Shown.{Shows, recalling}
use Rattle.core_state.specs.State.{State}

-- each number is below all that follow it
abbrev pub Rise : List ℕ → Type 0
Rise [] = ⊤
Rise (n ∷ ns) = AllByRecursion (λ m. n < m) ns × Rise ns

-- the node, of the collection with this id: its key is one of these, it failed or was released if it is gone, and its
-- end is spent if it was released
pub record IsNodeFit (Known : NodeKey → Type 0) (id : ℕ) (n : Node) : Type 0 where
  pub key : Known n.key
  pub collection : n.collection ≡ id
  pub failed : n.gone ≡ true → (is_some n.fault || n.released) ≡ true
  pub left : n.released ≡ true → is_spent n.end ≡ true

-- each of these nodes is fit
abbrev pub AreFit : (NodeKey → Type 0) → ℕ → List Node → Type 0
AreFit Known id nodes = (n : Node) → In n nodes → IsNodeFit Known id n

-- no two of these nodes have the same key
abbrev pub AreOnce : List Node → Type 0
AreOnce nodes = (n m : Node) → In n nodes → In m nodes → n.key ≡ m.key → n ≡ m

-- no node of the collection is over, and something is left of it
pub record IsTidy (c : Collection) : Type 0 where
  pub tidied : tidied c ≡ c
  pub kept : is_left c ≡ false

-- the collections stand by their ids, no key stands in two of them or twice, and all that is over was forgotten
pub record IsSound (f : Forest) : Type 0 where
  pub rising : Rise (map (λ (c : Collection). c.id) f.collections)
  pub fit : (c : Collection) → In c f.collections → AreFit (λ key. given f key ≡ true) c.id c.nodes
  pub apart : (c d : Collection) → In c f.collections → In d f.collections →
      (n m : Node) → In n c.nodes → In m d.nodes → n.key ≡ m.key → c.id ≡ d.id
  pub once : (c : Collection) → In c f.collections → AreOnce c.nodes
  pub tidy : (c : Collection) → In c f.collections → IsTidy c

-- the forest in mid-event: the nodes that may be forgotten are in this collection alone, and so is the end that is about to
-- be spent
pub record IsAmid (f : Forest) (id : ℕ) (leaving : Option NodeKey) : Type 0 where
  pub rising : Rise (map (λ (c : Collection). c.id) f.collections)
  pub tidy : (c : Collection) → In c f.collections → (c.id == id) ≡ false → IsTidy c
  pub there : (key : NodeKey) → leaving ≡ Some key → (c : Collection) × (n : Node) × In c f.collections × In n c.nodes × (n.key ≡ key) ×
      (c.id ≡ id)
  pub alone : (key : NodeKey) → leaving ≡ Some key → (c : Collection) → In c f.collections → (c.id == id) ≡ false → (n : Node) →
      In n c.nodes → n.key ≡ key → ⊥

-- the event can be finished: the forest is sound, except for nodes of the task's collection that may be forgotten, and the end
-- that the task spends
abbrev pub CanFinish : Forest → Option EventTask → Type 0
CanFinish f None = IsSound f
CanFinish f (Some t) = IsAmid f t.collection t.spends

-- the end that is carried is there, and is spent neither before nor after
abbrev pub CanCarry : Forest → Option EndPlace → Type 0
CanCarry f carried = IfSome carried
    (λ (c : EndPlace). (n : Node) × (node_at f c.key ≡ Some n) × (is_spent n.end ≡ false) × (is_spent c.end ≡ false))

-- each held buffer is one of its collection, and not home
abbrev pub NoBufferHome : Handles → Forest → Type 0
NoBufferHome handles f = (c : Collection) → In c f.collections → (h : HeldBuffer) → In h c.held →
    (h.buffer.collection ≡ c.id) × (is_home_in handles c h.buffer ≡ false)

-- what holds of a core that forgot no firing: it shows a legal history, and each tracker that waits is filed under the collection that it
-- concerns by this history; the rest is bookkeeping that no history tells
pub record IsWholeCore (pool : Holdings) (s : State) : Type 0 where
  pub sized : (1 ≤ s.pool) × (s.pool ≤ MAX_PAGES)
  pub pages : IsPoolOf pool s.forest
  pub few : s.events < 2 ^ 53
  pub limit : s.forest.limit ≡ s.limits.nodes
  pub handle_limit : s.holds.limit ≡ s.limits.handles
  pub places : HasPlaces s.holds
  pub tracker_limit : s.trackers.limit ≡ s.limits.trackers
  pub numbered : All (λ (c : Cell). c.id ≤ s.events) s.trackers.cells
  pub history : List Entry
  pub shows : Shows s history
  pub filed : All (λ (t : Waiting). IsOf (timeline s.pool history) t.collection t.condition) s.trackers.unfired

-- what holds of each core: with the firings that it forgot before its own, it is whole
pub record IsCore (pool : Holdings) (s : State) : Type 0 where
  pub gone : List Fired
  pub whole : IsWholeCore pool (recalling gone s)
