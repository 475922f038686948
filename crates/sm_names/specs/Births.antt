-- Which nodes were born, and which node is whose parent.
-- `birth_at` restates `fuchsia.sysmem2.Allocator.AllocateSharedCollection`,
-- `fuchsia.sysmem2.BufferCollectionToken.Duplicate` and
-- `fuchsia.sysmem2.BufferCollection.AttachToken`.
use Rattle.std.specs.Prelude.{ℕ, ◌+◌, Bool, true, false, if◌then◌else◌, List, [], ◌∷◌, Some, None, Option, ◌≡◌, ⊤, IfSome}
use Rattle.std.specs.List.{cons_option, find, list_any}
use Rattle.std.specs.Option.{option_map_or, option_map}
use Rattle.sm_names.specs.declared.keys.NodeKey.{NodeKey}
use Rattle.sm_names.specs.declared.messages.Call.{Call}
use Rattle.sm_names.specs.declared.messages.Reply.{Reply}
use Rattle.sm_names.specs.Marks.{Mark, Timeline, events, Called}
use Rattle.sm_names.specs.Sameness.{same_key}

-- the birth of a node, by an event of a client, which holds its end first
pub record Birth : Type 0 where
  pub node : NodeKey
  pub parent : Option NodeKey
  pub attached : Bool
  pub collection : ℕ
  pub event : ℕ
  pub client : ℕ

-- the birth at the mark, which belongs to this event: only these three calls make a node, and only
-- if they are answered Token
abbrev pub birth_at : ℕ → Mark → Option Birth
birth_at event (Called client (Reply.Token key collection) Call.OpenRoot) =
    Some (record {
      node = key;
      parent = None;
      attached = false;
      collection = collection;
      event = event;
      client = client;
    })
birth_at event (Called client (Reply.Token key collection) (Call.Duplicate parent)) =
    Some (record {
      node = key;
      parent = Some parent;
      attached = false;
      collection = collection;
      event = event;
      client = client;
    })
birth_at event (Called client (Reply.Token key collection) (Call.AttachToken parent)) =
    Some (record {
      node = key;
      parent = Some parent;
      attached = true;
      collection = collection;
      event = event;
      client = client;
    })
birth_at event _ = None

-- all births, the newest first
abbrev pub births : Timeline → List Birth
births [] = []
births (mark ∷ before) = cons_option (birth_at (events before + 1) mark) (births before)

-- the birth of the node
abbrev pub birth_of : Timeline → NodeKey → Option Birth
birth_of marks node = find (λ b. same_key b.node node) (births marks)

-- the node's parent, its parent, and so on up to the root
abbrev pub ancestors : List Birth → NodeKey → List NodeKey
ancestors [] node = []
ancestors (b ∷ older) node =
    let up : List NodeKey = option_map_or (λ parent. parent ∷ ancestors older parent) b.parent [] in
    let on : List NodeKey = ancestors older node in
    if same_key b.node node then up else on

-- the node is the top one, or has it among its ancestors
abbrev pub is_at_or_below : List Birth → NodeKey → NodeKey → Bool
is_at_or_below bs top node = list_any (same_key top) (node ∷ ancestors bs node)

-- the head of the node's unit: the node itself if it is a root or attached, else its parent's head
abbrev pub head : List Birth → NodeKey → NodeKey
head [] node = node
head (b ∷ older) node =
    let up : NodeKey = if b.attached then node else option_map_or (head older) b.parent node in
    let on : NodeKey = head older node in
    if same_key b.node node then up else on

-- the node is among these births
abbrev pub was_born : List Birth → NodeKey → Bool
was_born bs node = list_any (λ b. same_key b.node node) bs

-- the collection into which the node was born
abbrev pub collection_in : List Birth → NodeKey → Option ℕ
collection_in bs node =
    option_map (λ (b : Birth). b.collection) (find (λ b. same_key b.node node) bs)

-- each child is in its parent's collection
abbrev pub AreTogether : List Birth → Type 0
AreTogether [] = ⊤
AreTogether (b ∷ older) =
    IfSome b.parent (λ parent. collection_in older parent ≡ Some b.collection) × AreTogether older

-- no node is born twice, and each is born after its parent
abbrev pub AreSound : List Birth → Type 0
AreSound [] = ⊤
AreSound (b ∷ older) =
    (was_born older b.node ≡ false) × IfSome b.parent (λ parent. was_born older parent ≡ true)
    × AreSound older
