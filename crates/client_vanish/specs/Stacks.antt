-- Stacks of objects, and lists that have room for them.
use Rattle.std.specs.Prelude.{ℕ, ◌≡◌, ◌≤◌, ◌+◌, List, [], ◌∷◌, ◌++◌, length, map, reverse, flat_map, vec_len, vec_capacity}
use Rattle.sm_names.specs.declared.messages.Call.{Call}
use Rattle.sm_names.specs.declared.messages.Reply.{Reply}
use Rattle.client_ends.specs.declared.held.ParcelContent.{ParcelContent}
use Rattle.client_ends.specs.declared.held.Held.{Held}
use Rattle.client_ends.specs.Clients.{Made, MadeAll, Seen}
use Rattle.client_vanish.specs.Vanishings.{Holds, HeldObject, collections_among, end_told, handles_among}
use Rattle.client_vanish.specs.Vanishings.{handle_told, kept_of, vanishing_call, sorted, object_of, tokens_among}
use Rattle.client_vanish.specs.declared.vanishing.Room.{Room}
use Rattle.std.specs.Prelude.{replicate, Option, None, Some, Bool, true, ◌⊎◌}

-- the objects on a stack, the top first
abbrev pub top_first : {E S W : Type 0} → List (ParcelContent E S W) → List HeldObject
top_first items = map object_of (reverse items)

-- one object in the list of its kind
abbrev pub sorted_one : HeldObject → Holds
sorted_one object = record {
  tokens = tokens_among object;
  collections = collections_among object;
  handles = handles_among object;
}

-- what both have, kind by kind
abbrev pub both : Holds → Holds → Holds
both a b = record {
  tokens = a.tokens ++ b.tokens;
  collections = a.collections ++ b.collections;
  handles = a.handles ++ b.handles;
}

-- each list has room for those of its kind
pub record HasRoomFor {E S W : Type 0} (held : Held E S W) (objects : List HeldObject) : Type 0 where
  pub tokens : vec_len held.tokens + length (flat_map tokens_among objects) ≤ vec_capacity held.tokens
  pub collections : vec_len held.collections + length (flat_map collections_among objects) ≤ vec_capacity held.collections
  pub handles : vec_len held.handles + length (flat_map handles_among objects) ≤ vec_capacity held.handles

-- one Collect was made and answered so, and what it brought was put behind the others
pub record CollectsOne (old new : Seen) (ends ends' handles handles' : List HeldObject) : Type 0 where
  pub reply : Reply
  pub made : Made old new Call.Collect reply
  pub end : ends' ≡ ends ++ end_told old.id reply
  pub handle : handles' ≡ handles ++ handle_told old.id reply

-- this many Collects were made, and this is what they brought
pub record CollectsMany (old new : Seen) (told : List Reply) (ends handles : List HeldObject) : Type 0 where
  pub made : MadeAll old new (replicate (length told) Call.Collect) told
  pub ends_are : ends ≡ flat_map (end_told old.id) told
  pub handles_are : handles ≡ flat_map (handle_told old.id) told

-- the object that was kept, if one was
abbrev pub kept_objects : {E S W : Type 0} → Option (ParcelContent E S W) → List HeldObject
kept_objects None = []
kept_objects (Some object) = object_of object ∷ []

-- the client made the call that gives up the object, and kept it unless the answer was Done
pub record GivesUp (old new : Seen) (object : HeldObject) (kept : List HeldObject) : Type 0 where
  pub answer : Reply
  pub made : Made old new (vanishing_call object) answer
  pub kept_is : kept ≡ kept_of (object ∷ []) (answer ∷ [])

-- the client gave up the first of these, the others are left, and it kept what it was refused
pub record GivesUpSome (old new : Seen) (all left : List HeldObject) (kept : Holds) : Type 0 where
  pub answers : List Reply
  pub parted : List HeldObject
  pub made : MadeAll old new (map vanishing_call parted) answers
  pub all_is : all ≡ parted ++ left
  pub kept_is : kept ≡ sorted (kept_of parted answers)

-- at most this many Collects were made, and all of them unless there was a fault
pub record CollectsFor (all : Bool) (most : ℕ) (old new : Seen) (ends handles : List HeldObject) : Type 0 where
  pub told : List Reply
  pub collects : CollectsMany old new told ends handles
  pub within : length told ≤ most
  pub whole : all ≡ true → length told ≡ most

-- empty lists with room for this many, and room for them in the lists of what is held
pub record IsRoom {E S W : Type 0} (room : Room E S W) (held : Held E S W) (waiting : ℕ) : Type 0 where
  pub ends : (room.ends.items ≡ []) × (waiting ≤ vec_capacity room.ends)
  pub handles : (room.handles.items ≡ []) × (waiting ≤ vec_capacity room.handles)
  pub none : room.stack.items ≡ []
  pub stack : vec_len held.tokens + vec_len held.collections + vec_len held.handles + waiting + waiting ≤ vec_capacity room.stack
  pub tokens : vec_len held.tokens + waiting ≤ vec_capacity held.tokens
  pub collections : vec_len held.collections + waiting ≤ vec_capacity held.collections
  pub for_handles : vec_len held.handles + waiting ≤ vec_capacity held.handles

-- the same, and it gave up none if `may` is false
pub record GivesUpIf (may : Bool) (old new : Seen) (all left : List HeldObject) (kept : Holds) : Type 0 where
  pub parts : GivesUpSome old new all left kept
  pub turn : (parts.parted ≡ []) ⊎ (may ≡ true)
