-- One change to a collection, and the forced steps that follow it, read over its nodes as they stand.
use Rattle.std.specs.Prelude.{ℕ, ◌<◌, Bool, true, false, ◌||◌, ◌&&◌, ◌==◌, not, nat_lt, if◌then◌else◌}
use Rattle.std.specs.Prelude.{List, [], ◌∷◌, ◌++◌, Option, Some, None, ◌≡◌, is_none, is_some, IfSome}
use Rattle.std.specs.List.{list_any, filter}
use Rattle.std.specs.Option.{option_map_or, unwrap_or}
use Rattle.sm_names.specs.declared.keys.BufferName.{BufferName}
use Rattle.sm_names.specs.declared.keys.Interval.{Interval}
use Rattle.sm_names.specs.declared.keys.NodeKey.{NodeKey}
use Rattle.sm_names.specs.declared.keys.Strength.{Strength}
use Rattle.sm_names.specs.declared.outcomes.Buffers.{Buffers}
use Rattle.sm_names.specs.Forced.{Standing, forced}
use Rattle.sm_names.specs.Handles.{names, is_home}
use Rattle.sm_names.specs.Marks.{Mark, Called, Loss, Allocated, Ended}
use Rattle.sm_names.specs.Members.{asked, some_strong_live}
use Rattle.sm_names.specs.Sameness.{same_key}
use Rattle.sm_names.specs.declared.keys.HeldBuffer.{HeldBuffer}
use Rattle.sm_names.specs.Timelines.{layout}
use Rattle.sm_names.specs.declared.rules.TheConstants.{MAX_NODE_TRACKERS}
use Rattle.forest_store.specs.declared.change.Change.{Change}
use Rattle.forest_store.specs.declared.change.Effect.{Effect}
use Rattle.forest_store.specs.declared.node.Node.{Node}
use Rattle.forest_store.specs.Forest.{Collection, Forest, collection_at, node_at, beside, pages_in, with_nodes, node_count, given}
use Rattle.forest_store.specs.Nodes.{node_of, members_of, after_loss, after_allocation, after_end, after_effect, new_root, new_child}

-- how many handles of a buffer and strength are open, in parcels or out of them
abbrev pub Handles : Type 0
Handles = BufferName → Strength → ℕ

-- the buffers that the collection was given
abbrev pub buffer_names : Collection → List BufferName
buffer_names c = option_map_or (λ (b : Buffers). names c.id b.count) c.buffers []

-- the collection as it stands beside the pages of the others
abbrev pub standing : Handles → List Interval → Collection → Standing
standing handles others c = record {
  members = members_of c.nodes;
  buffers = c.buffers;
  strong_open = list_any (λ b. nat_lt 0 (handles b Strength.Strong)) (buffer_names c);
  held = pages_in c ++ others;
}

-- ---- the forced steps

-- the node with this key is a root
abbrev pub is_root_of : Collection → NodeKey → Bool
is_root_of c key = option_map_or (λ (n : Node). is_none n.parent) (node_of c.nodes key) false

-- the collection once the mark is made, in a pool of this many pages, beside the pages of the others. An event is no forced
-- step: it changes the collection by what `changed` says of it
abbrev pub made : ℕ → List Interval → Mark → Collection → Collection
made pool others (Called client reply call) c = c
made pool others (Loss origin cause) c = with_nodes (after_loss (record { cause = cause; origin = origin })) c
made pool others (Allocated head) c =
    let want : Buffers = asked (members_of c.nodes) in
    let first : Collection = record {
      id = c.id;
      nodes = after_allocation head c.nodes;
      buffers = Some want;
      held = layout pool c.id want (pages_in c ++ others) ++ c.held;
    } in
    let later : Collection = with_nodes (after_allocation head) c in
    if is_root_of c head then first else later
made pool others (Ended top) c = with_nodes (after_end top) c

-- from the first to the second, each forced step of the first that applies is made, until none does
pub data Settles (pool : ℕ) (handles : Handles) (others : List Interval) : Collection → Collection → Type 0 where
  Rests : (c : Collection) → forced pool (standing handles others c) ≡ None → Settles pool handles others c c
  Forces : (c after : Collection) (mark : Mark) → forced pool (standing handles others c) ≡ Some mark →
      Settles pool handles others (made pool others mark c) after → Settles pool handles others c after

-- the buffer is home
abbrev pub is_home_in : Handles → Collection → BufferName → Bool
is_home_in handles c buffer =
    is_home (handles buffer Strength.Strong) (handles buffer Strength.Weak) (some_strong_live (members_of c.nodes))

-- the collection, once the buffers that are home gave their pages back
abbrev pub given_back : Handles → Collection → Collection
given_back handles c = record c { held = filter (λ (h : HeldBuffer). not (is_home_in handles c h.buffer)) c.held }

-- ---- the change

-- the collection with one more node: a root, or a child of the node with this key
abbrev pub with_birth : Option NodeKey → Bool → ℕ → ℕ → NodeKey → Collection → Collection
with_birth None attached client event key c = record c { nodes = c.nodes ++ new_root key c.id event client ∷ [] }
with_birth (Some above) attached client event key c = option_map_or
    (λ n. record c { nodes = c.nodes ++ new_child attached key event client n ∷ [] })
    (node_of c.nodes above) c

-- the collection once it is changed; a new node gets this key
abbrev pub changed : Change → NodeKey → Collection → Collection
changed (Change.Birth parent attached client event) key c = with_birth parent attached client event key c
changed (Change.Effect on effect) key c = with_nodes (after_effect on effect) c
changed (Change.Loss origin cause) key c = with_nodes (after_loss (record { cause = cause; origin = origin })) c
changed Change.Nothing key c = c

-- any key, where none is meant
abbrev pub no_key : NodeKey
no_key = record { slot = 0; generation = 0 }

-- the change is the birth of an attached root, which there is not
abbrev pub is_attached_root : Change → Bool
is_attached_root (Change.Birth parent attached client event) = attached && is_none parent
is_attached_root _ = false

-- the change is a birth
abbrev pub is_birth : Change → Bool
is_birth (Change.Birth parent attached client event) = true
is_birth _ = false

-- the node is in the collection, and not gone
abbrev pub is_there : Forest → ℕ → NodeKey → Bool
is_there f id key =
    option_map_or (λ (n : Node). n.collection == id && not n.gone) (node_at f key) false

-- the collection is there
abbrev pub has_collection : Forest → ℕ → Bool
has_collection f id = is_some (collection_at f id)

-- each node that the change names is in the collection and not gone, the collection of a root is new, and any other is
-- there
abbrev pub fits : Forest → ℕ → Change → Bool
fits f id (Change.Birth None attached client event) = not (has_collection f id)
fits f id (Change.Birth (Some above) attached client event) = is_there f id above
fits f id (Change.Effect key effect) = is_there f id key
fits f id (Change.Loss origin cause) = is_there f id origin
fits f id Change.Nothing = has_collection f id

-- the change may be made to the collection; a birth has room under the limit, and a root is not attached
pub record MayChange (f : Forest) (id : ℕ) (change : Change) : Type 0 where
  pub named : fits f id change ≡ true
  pub room : is_birth change ≡ true → node_count f < f.limit
  pub heads : is_attached_root change ≡ false
  -- a tracker is made only on a node on which fewer than `MAX_NODE_TRACKERS` were made
  pub trackers : (key : NodeKey) (n : Node) → change ≡ Change.Effect key Effect.Tracked → node_at f key ≡ Some n →
      n.trackers < MAX_NODE_TRACKERS

-- the collection with this id, or an empty one
abbrev pub collection_or_new : Forest → ℕ → Collection
collection_or_new f id =
    unwrap_or (collection_at f id) (record { id = id; nodes = []; buffers = None; held = [] })

-- the collections by id, with this one in place of the one with its id
abbrev pub put : Collection → List Collection → List Collection
put new [] = new ∷ []
put new (c ∷ cs) =
    let on : List Collection = put new cs in
    if c.id == new.id then new ∷ cs else (if nat_lt new.id c.id then new ∷ c ∷ cs else c ∷ on)

-- the forest is as the change makes it and the forced steps that follow, with the pages of buffers that are home given back;
-- none applies any more. A birth has this key, which was given to no node before
pub record Settled (pool : ℕ) (handles : Handles) (old new : Forest) (id : ℕ) (change : Change) (key : Option NodeKey) : Type 0 where
  pub after : Collection
  pub told : is_some key ≡ is_birth change
  pub fresh : IfSome key (λ k. given old k ≡ false)
  pub settles : Settles pool handles (beside old id) (changed change (unwrap_or key no_key) (collection_or_new old id)) after
  pub collections : new.collections ≡ put (given_back handles after) old.collections
  pub rests : forced pool (standing handles (beside new id) (given_back handles after)) ≡ None
  pub limit : new.limit ≡ old.limit
  pub keys : (k : NodeKey) → given new k ≡ (option_map_or (λ new. same_key new k) key false || given old k)
