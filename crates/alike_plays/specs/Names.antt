-- Which names an actor knows.
use Rattle.std.specs.Prelude.{◌≡◌, ℕ, ⊤, List, [], Option, Some, None}
use Rattle.sm_names.specs.declared.keys.BufferName.{BufferName}
use Rattle.sm_names.specs.declared.keys.NodeKey.{NodeKey}
use Rattle.sm_names.specs.declared.keys.Strength.{Strength}
use Rattle.sm_names.specs.declared.messages.Call.{Call}
use Rattle.sm_names.specs.declared.messages.Reply.{Reply}
use Rattle.sm_names.specs.declared.outcomes.Fault.{Fault}
use Rattle.sm_names.specs.Elements.{In}
use Rattle.sm_names.specs.Timelines.{buffer_of, key_of}
use Rattle.actor_scripts.specs.declared.object.ActorObject.{ActorObject}
use Rattle.actor_scripts.specs.ActorStates.{Known}
use Rattle.actor_plays.specs.declared.falls.GoneNode.{GoneNode}
use Rattle.actor_plays.specs.Leaves.{Leave}
use Rattle.actor_plays.specs.Plays.{Stage}
use Rattle.alike_cores.specs.Renamed.{buffer_renamed}

-- the names of an object
abbrev pub KnownObject : (NodeKey → Type 0) → (ℕ → Type 0) → ActorObject → Type 0
KnownObject Key Id (ActorObject.Token key collection) = Key key × Id collection
KnownObject Key Id (ActorObject.Collection key collection) = Key key × Id collection
KnownObject Key Id (ActorObject.Handle buffer strength) = Id buffer.collection

-- the names in a reply
abbrev pub KnownReply : (NodeKey → Type 0) → (ℕ → Type 0) → (ℕ → Type 0) → Reply → Type 0
KnownReply Key Id Num (Reply.Token key collection) = Key key × Id collection
KnownReply Key Id Num (Reply.Collected key kind collection) = Key key × Id collection
KnownReply Key Id Num (Reply.CollectedHandle buffer strength) = Id buffer.collection
KnownReply Key Id Num (Reply.Taken collection strength set) = Id collection
KnownReply Key Id Num (Reply.Tracker tracker) = Num tracker
KnownReply Key Id Num (Reply.PeerClosed cause origin) = Key origin
KnownReply Key Id Num (Reply.Joined client) = Num client
KnownReply Key Id Num _ = ⊤

-- the names that an actor knows; under any other it has nothing
pub record KnownActor (Key : NodeKey → Type 0) (Id Num : ℕ → Type 0) (k : Known) : Type 0 where
  pub nodes : (label : ℕ) (place : NodeKey × ℕ) → k.nodes label ≡ Some place → Key place.0 × Id place.1
  pub trackers : (label tracker : ℕ) → k.trackers label ≡ Some tracker → Num tracker
  pub objects : (object : ActorObject) → In (Some object) k.objects → KnownObject Key Id object
  pub spots : (key : NodeKey) → (Key key → ⊥) → k.spots key ≡ None
  pub handles : (strength : Strength) (b : BufferName) → (Id b.collection → ⊥) → k.handles strength b ≡ []

-- the names in a call
abbrev pub KnownCall : (NodeKey → Type 0) → (ℕ → Type 0) → Call → Type 0
KnownCall Key Id call = ((key : NodeKey) → key_of call ≡ Some key → Key key)
    × ((b : BufferName) → buffer_of call ≡ Some b → Id b.collection)

-- the names that an actor knows by what it knows, by the replies to its calls, and by what it collected
pub record KnownStage (Key : NodeKey → Type 0) (Id Num : ℕ → Type 0) (stage : Stage) : Type 0 where
  pub known : KnownActor Key Id Num stage.known
  pub made : (m : ℕ × Reply) → In m stage.made → KnownReply Key Id Num m.1
  pub vanish : (l : Leave) → stage.vanish ≡ Some l → (o : ActorObject) → In o l.collected → KnownObject Key Id o

-- both names of what is known in both are one, and what neither knows is alike under the new ones too
pub record NamesAgree (to again : NodeKey → NodeKey) (id later number next : ℕ → ℕ) (Key Other : NodeKey → Type 0)
    (Id Next Num Count : ℕ → Type 0) : Type 0 where
  pub keys : (key : NodeKey) → Key key → Other (to key) → again key ≡ to key
  pub ids : (i : ℕ) → Id i → Next (id i) → later i ≡ id i
  pub numbers : (n : ℕ) → Num n → Count (number n) → next n ≡ number n
  pub far_keys : (before after : NodeKey → Option ℕ) → ((key : NodeKey) → after (to key) ≡ before key) →
      ((key : NodeKey) → (Key key → ⊥) → before key ≡ None) → ((key : NodeKey) → (Other key → ⊥) → after key ≡ None) →
      (key : NodeKey) → after (again key) ≡ before key
  pub far_ids : (before after : BufferName → List ℕ) → ((b : BufferName) → after (buffer_renamed id b) ≡ before b) →
      ((b : BufferName) → (Id b.collection → ⊥) → before b ≡ []) → ((b : BufferName) → (Next b.collection → ⊥) → after b ≡ []) →
      (b : BufferName) → after (buffer_renamed later b) ≡ before b

-- the names of a node that is gone: its key, and that of the node at which its failure began
pub record KnownGone (Key : NodeKey → Type 0) (g : GoneNode) : Type 0 where
  pub key : Key g.key
  pub origin : (fault : Fault) → g.fault ≡ Some fault → Key fault.origin
