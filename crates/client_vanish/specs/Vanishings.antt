-- How a client gives up all that it holds as it vanishes.
use Rattle.std.specs.Prelude.{ℕ, ◌≡◌, ◌≤◌, ◌⊎◌, if◌then◌else◌, List, [], ◌∷◌, ◌++◌, length, map, replicate, flat_map}
use Rattle.std.specs.List.{All}
use Rattle.sm_names.specs.declared.keys.Kind.{Kind}
use Rattle.sm_names.specs.declared.messages.Call.{Call}
use Rattle.sm_names.specs.declared.messages.Reply.{Reply}
use Rattle.client_ends.specs.declared.held.ParcelContent.{ParcelContent}
use Rattle.client_ends.specs.declared.held.Held.{Held}
use Rattle.client_ends.specs.Clients.{Grip, MadeAll, Seen, Tag, is_done}

-- what a client holds: its tokens, its collections and its handles
pub record Holds : Type 0 where
  pub tokens : List Tag
  pub collections : List Tag
  pub handles : List Grip

-- what the lists of a client hold, each in its order
abbrev pub held_in : {E S W : Type 0} → Held E S W → Holds
held_in held = record {
  tokens = held.tokens.items;
  collections = held.collections.items;
  handles = held.handles.items;
}

-- the client holds all of it
pub record AllHeldBy (client : ℕ) (held : Holds) : Type 0 where
  pub tokens : All (λ (t : Tag). t.client ≡ client) held.tokens
  pub collections : All (λ (c : Tag). c.client ≡ client) held.collections
  pub handles : All (λ (h : Grip). h.client ≡ client) held.handles

-- one object that a client holds
pub data HeldObject : Type 0 where
  Token : Tag → HeldObject
  Collection : Tag → HeldObject
  Handle : Grip → HeldObject

-- what came out of a parcel
abbrev pub object_of : {E S W : Type 0} → ParcelContent E S W → HeldObject
object_of (ParcelContent.Token t) = Token t
object_of (ParcelContent.Collection c) = Collection c
object_of (ParcelContent.Handle h) = Handle h

-- the client that holds it
abbrev pub owner_of : HeldObject → ℕ
owner_of (Token t) = t.client
owner_of (Collection c) = c.client
owner_of (Handle h) = h.client

-- the call that gives it up
abbrev pub vanishing_call : HeldObject → Call
vanishing_call (Token t) = Call.Close t.key
vanishing_call (Collection c) = Call.Close c.key
vanishing_call (Handle h) = Call.DropHandle h.buffer h.strength

-- the tokens of some objects
abbrev pub tokens_among : HeldObject → List Tag
tokens_among (Token t) = t ∷ []
tokens_among _ = []

-- their collections
abbrev pub collections_among : HeldObject → List Tag
collections_among (Collection c) = c ∷ []
collections_among _ = []

-- and their handles
abbrev pub handles_among : HeldObject → List Grip
handles_among (Handle h) = h ∷ []
handles_among _ = []

-- some objects, each in the list of its kind, in their order
abbrev pub sorted : List HeldObject → Holds
sorted objects = record {
  tokens = flat_map tokens_among objects;
  collections = flat_map collections_among objects;
  handles = flat_map handles_among objects;
}

-- an end of this kind
abbrev pub held_end : Kind → Tag → HeldObject
held_end Kind.Token tag = Token tag
held_end Kind.Collection tag = Collection tag

-- the end that the reply to a Collect tells of
abbrev pub end_told : ℕ → Reply → List HeldObject
end_told client (Reply.Collected key kind collection) =
    held_end kind (record { client = client; key = key; collection = collection }) ∷ []
end_told client _ = []

-- the handle that it tells of
abbrev pub handle_told : ℕ → Reply → List HeldObject
handle_told client (Reply.CollectedHandle buffer strength) =
    Handle (record { client = client; buffer = buffer; strength = strength }) ∷ []
handle_told client _ = []

-- all objects that a vanishing client closes, in order: the collected ends, the tokens, the collections, the collected handles, the
-- handles
abbrev pub all_objects : ℕ → List Reply → Holds → List HeldObject
all_objects client told held =
    flat_map (end_told client) told ++ (map Token held.tokens ++ (map Collection held.collections
    ++ (flat_map (handle_told client) told ++ map Handle held.handles)))

-- how many parcels the reply to a Shut counts
abbrev pub parcels_told : Reply → ℕ
parcels_told (Reply.Shut waiting) = waiting
parcels_told _ = 0

-- the objects whose Close or DropHandle was not answered Done: they are still the client's
abbrev pub kept_of : List HeldObject → List Reply → List HeldObject
kept_of [] answers = []
kept_of (object ∷ objects) [] = []
kept_of (object ∷ objects) (answer ∷ answers) =
    let more = kept_of objects answers in if is_done answer then more else object ∷ more

-- a client that parts: it made a Shut, then Collects, at most as many as the Shut counted, and after the last Collect closed
-- a first part of all its objects, each by its call. `back` has the objects that it did not close: those that were refused,
-- and those that it did not reach
pub record Goes (old new : Seen) (held back : Holds) : Type 0 where
  pub shut : Reply
  pub told : List Reply
  pub answers : List Reply
  pub parted : List HeldObject
  pub left : List HeldObject
  pub made : MadeAll old new
      (Call.Shut ∷ (replicate (length told) Call.Collect ++ map vanishing_call parted)) (shut ∷ (told ++ answers))
  pub counted : length told ≤ parcels_told shut
  pub all : all_objects old.id told held ≡ parted ++ left
  pub turn : (parted ≡ []) ⊎ (length told ≡ parcels_told shut)
  pub back_is : back ≡ sorted (kept_of parted answers ++ left)

-- a client that is gone: it collected all that the Shut counted, and made the call of each object
pub record IsGone (old new : Seen) (held refused : Holds) : Type 0 where
  pub goes : Goes old new held refused
  pub collected : length goes.told ≡ parcels_told goes.shut
  pub done : goes.left ≡ []

-- a client that was stopped by a fault: before its Shut, with all that it held, or later
abbrev pub IsBroken : Seen → Seen → Holds → Holds → Type 0
IsBroken old new held back = ((new ≡ old) × (back ≡ held)) ⊎ Goes old new held back

-- the remains of a client that has vanished: the client as it was last, and the objects whose closing was refused
pub record Remains : Type 0 where
  pub client : Seen
  pub refused : Holds
