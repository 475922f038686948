-- What an actor's slots hold after its calls, and what it leaves.
use Rattle.client_actors.proofs.Common.{ActorObject, All, All-cons, All-nil, AllHeldBy, Bool, Call, Did, Err, Grip, List, MAX_BUFFERS}
use Rattle.client_actors.proofs.Common.{Made, MakesCall, NewObjects, None, Ok, Option, ParcelContent, Reply, Result, Seen, SlotHeldBy}
use Rattle.client_actors.proofs.Common.{Some, StepCall, [], ap, arith, bit_at, false, filled_by, flat_map, handle_seen, handles_from}
use Rattle.client_actors.proofs.Common.{if◌then◌else◌, last_objects_first, last_reply, length, lies, map, map-append, new_objects}
use Rattle.client_actors.proofs.Common.{objects_in_slots, pairs_of, part_of, refl, sorted, spends_object, subst, suc, sym, there, true}
use Rattle.client_actors.proofs.Common.{zero, ℕ, ◌++◌, ◌+◌, ◌<◌, ◌==◌, ◌∙◌, ◌∷◌, ◌≡◌, ◌≤◌}
use Rattle.std.proofs.Common.{◌-◌, length-append}
use Rattle.std.specs.Prelude.{reverse, set, slice_get, slice_index_or, option_map, MatchResult}
use Rattle.std.proofs.lemmas.List.{length-map, map-set, reverse-reverse}
use Rattle.std.proofs.lemmas.List.Elements.{All-append, All-head, All-tail}
use Rattle.sm_names.specs.declared.keys.Strength.{Strength}
use Rattle.sm_names.specs.declared.outcomes.StepFault.{StepFault}
use Rattle.event_laws.specs.declared.own.Own.{Own}
use Rattle.client_vanish.specs.Vanishings.{Token, Collection, Handle, owner_of}
use Rattle.client_vanish.specs.Stacks.{kept_objects}
use Rattle.client_vanish.proofs.BackLaws.{sorted_own}
use Rattle.actor_scripts.specs.ActorStates.{FitsThere, bound, emptied, on_of, object_at}
use Rattle.client_actors.specs.ObjectCalls.{NewHeldBy, slots_for, objects_in}
use Rattle.client_actors.specs.ActorSteps.{Asks}

-- ---- one slot

-- where something takes the call, there is a slot
pub within : {E S W : Type 0} (items : List (Option (ParcelContent E S W))) (slot : ℕ) (call : Call) →
    FitsThere (object_at (lies items) slot) call →
    slot < length items
within [] slot call fits = absurd fits
within (x ∷ xs) zero call fits = omega arith
within (x ∷ xs) (suc slot) call fits = let more = within xs slot call fits in omega (arith, more)

-- what lies there
pub at_slot : {E S W : Type 0} (items : List (Option (ParcelContent E S W))) (slot : ℕ) (on : Option (ParcelContent E S W)) →
    slot < length items →
    on ≡ slice_index_or items slot on →
    object_at (lies items) slot ≡ there on
at_slot [] slot on lt is = absurd (omega (arith, lt))
at_slot (x ∷ xs) zero on lt is = sym (ap there is)
at_slot (x ∷ xs) (suc slot) on lt is = at_slot xs slot on (omega (arith, lt)) is

-- the same object put back changes nothing
set_same : {E S W : Type 0} (items : List (Option (ParcelContent E S W))) (slot : ℕ) (on : Option (ParcelContent E S W)) →
    slot < length items →
    on ≡ slice_index_or items slot on →
    set (lies items) slot (there on) ≡ lies items
set_same [] slot on lt is = refl
set_same (x ∷ xs) zero on lt is = ap (λ o. there o ∷ lies xs) is
set_same (x ∷ xs) (suc slot) on lt is = ap (λ l. there x ∷ l) (set_same xs slot on (omega (arith, lt)) is)

-- an object is gone, or still there
set_if : {E S W : Type 0} (items : List (Option (ParcelContent E S W))) (slot : ℕ) (on : Option (ParcelContent E S W)) →
    slot < length items →
    on ≡ slice_index_or items slot on → (gone : Bool) →
    set (lies items) slot (if gone then None else there on) ≡ (if gone then emptied (lies items) (Some slot) else lies items)
set_if items slot on lt is true = refl
set_if items slot on lt is false = set_same items slot on lt is

-- a call on what lies in a slot
pub asks_at : {E S W : Type 0} (old new : Seen) (call : Call) (items items' : List (Option (ParcelContent E S W))) (slot : ℕ)
    (on on' : Option (ParcelContent E S W)) (brought : NewObjects E S W) →
    slot < length items → on ≡ slice_index_or items slot on → items' ≡ set items slot on' →
    Did old new call (there on) (there on') brought →
    Asks old new call (Some slot) (lies items) (lies items') brought
asks_at old new call items items' slot on on' brought lt is put did = record {
  reply = did.reply;
  made = did.made;
  left = ap lies put ∙ (map-set there items slot on' ∙ (ap (set (lies items) slot) did.left
      ∙ set_if items slot on lt is (spends_object call did.reply)));
  objects = did.objects ∙ ap (λ o. new_objects o call did.reply) (sym (at_slot items slot on lt is));
  owned = did.owned;
}

-- whatever comes of it
pub asks_there : {E S W : Type 0} (old new : Seen) (call : Call) (told : Option ℕ) (items : List (Option (ParcelContent E S W))) (slot : ℕ)
    (on on' : Option (ParcelContent E S W)) (result : Result (NewObjects E S W) StepFault) →
    told ≡ Some slot → slot < length items → on ≡ slice_index_or items slot on →
    MatchResult result (λ b. Did old new call (there on) (there on') b) (λ _. (new ≡ old) × (on' ≡ on)) →
    MatchResult result (λ b. Asks old new call told (lies items) (lies (set items slot on')) b) (λ _. (new ≡ old) ×
    (lies (set items slot on') ≡ lies items))
asks_there old new call told items slot on on' (Ok b) so lt is did =
    subst (λ s. Asks old new call s (lies items) (lies (set items slot on')) b) (sym so) (asks_at old new call items (set items slot on')
    slot on on' b lt is refl did)
asks_there old new call told items slot on on' (Err fault) so lt is did =
    (did.0, map-set there items slot on' ∙ (ap (λ o. set (lies items) slot (there o)) did.1 ∙ set_same items slot on lt is))

-- the slots of what was brought
handles_seen : (E S W : Type 0) (hs : List Grip) → lies {E = E} {S = S} {W = W} (map filled_by hs) ≡ map Some (map handle_seen hs)
handles_seen E S W [] = refl
handles_seen E S W (h ∷ hs) = ap (λ l. Some (handle_seen h) ∷ l) (handles_seen E S W hs)

-- the new slots contain exactly the objects that the call brought, in their order
brought_seen : {E S W : Type 0} (brought : NewObjects E S W) → lies (slots_for brought) ≡ map Some (objects_in brought)
brought_seen NewObjects.Nothing = refl
brought_seen (NewObjects.One end) = refl
brought_seen (NewObjects.Handles handles) = handles_seen _ _ _ handles.items
brought_seen (NewObjects.Tracker tracker) = refl

-- as many as there are objects
as_many : {E S W : Type 0} (brought : NewObjects E S W) → length (slots_for brought) ≡ length (objects_in brought)
as_many NewObjects.Nothing = refl
as_many (NewObjects.One end) = refl
as_many (NewObjects.Handles handles) = length-map handles.items filled_by ∙ sym (length-map handles.items handle_seen)
as_many (NewObjects.Tracker tracker) = refl

-- they are the client's
full_owned : {E S W : Type 0} (client : ℕ) (hs : List Grip) → All (λ (h : Grip). h.client ≡ client) hs →
    All (SlotHeldBy {E = E} {S = S} {W = W} client) (map filled_by hs)
full_owned client [] all = All-nil (SlotHeldBy client)
full_owned client (h ∷ hs) all =
    All-cons (SlotHeldBy client) (filled_by h) (map filled_by hs) (All-head (λ (x : Grip). x.client ≡ client) h hs all)
    (full_owned client hs (All-tail (λ (x : Grip). x.client ≡ client) h hs all))

-- all slots stay the client's once they contain what the call brought, which the client holds
pub stored_owned : {E S W : Type 0} (client : ℕ) (slots : List (Option (ParcelContent E S W))) (brought : NewObjects E S W) →
    All (SlotHeldBy client) slots →
    NewHeldBy client brought → All (SlotHeldBy client) (slots ++ slots_for brought)
stored_owned client slots NewObjects.Nothing all of = All-append (SlotHeldBy client) slots [] all (All-nil (SlotHeldBy client))
stored_owned client slots (NewObjects.One end) all of =
    All-append (SlotHeldBy client) slots (Some end ∷ []) all (All-cons (SlotHeldBy client) (Some end) [] of (All-nil (SlotHeldBy client)))
stored_owned client slots (NewObjects.Handles handles) all of =
    All-append (SlotHeldBy client) slots (map filled_by handles.items) all (full_owned client handles.items of)
stored_owned client slots (NewObjects.Tracker tracker) all of = All-append (SlotHeldBy client) slots [] all (All-nil (SlotHeldBy client))

-- with what it brought
pub answers : {E S W : Type 0} (old new : Seen) (asked : StepCall) (before : List (Option ActorObject))
    (mid after : List (Option (ParcelContent E S W)))
    (brought : NewObjects E S W) →
    Asks old new asked.call asked.slot before (lies mid) brought → after ≡ mid ++ slots_for brought →
    MakesCall old new asked before (lies after)
answers old new asked before mid after brought asks stored = record {
  reply = asks.reply;
  made = asks.made;
  objects = ap lies stored ∙ (map-append there mid (slots_for brought) ∙ (ap (λ l. lies mid ++ l) (brought_seen brought)
      ∙ (ap (λ l. l ++ map Some (objects_in brought)) asks.left
      ∙ ap (λ l. (if spends_object asked.call asks.reply then emptied before asked.slot else before) ++ map Some l) asks.objects)));
}

-- ---- how many objects a call gives

-- a set gives at most one handle for each index that is counted
handles_few : (collection : ℕ) (strength : Strength) (held index count : ℕ) →
    length (handles_from collection strength held index count) ≤ count
unfolding handles_from
handles_few collection strength held index zero = omega arith
handles_few collection strength held index (suc count) =
    either (handles_few collection strength held (index + 1) count) (bit_at held index == 1) refl
  where
    -- by cases: a bit that is set gives one handle
    either : length (handles_from collection strength held (index + 1) count) ≤ count → (b : Bool) → (bit_at held index == 1) ≡ b →
        length (handles_from collection strength held index (suc count)) ≤ suc count
    either more true is = rw is (omega (arith, more))
    either more false is = rw is (omega (arith, more))

-- a Bind of a token gives one collection, and a Bind of anything else would give nothing
bound_few : (on : Option ActorObject) → length (bound on) ≤ MAX_BUFFERS
bound_few (Some (ActorObject.Token key collection)) = omega arith
bound_few (Some (ActorObject.Collection key collection)) = omega arith
bound_few (Some (ActorObject.Handle buffer strength)) = omega arith
bound_few None = omega arith

-- a call gives MAX_BUFFERS objects at most, since only a Take gives more than one
few : (on : Option ActorObject) (call : Call) (reply : Reply) → length (new_objects on call reply) ≤ MAX_BUFFERS
few on (Call.Take key) (Reply.Taken collection strength held) = handles_few collection strength held 0 MAX_BUFFERS
few on (Call.Take key) _ = omega arith
few on (Call.Bind key) Reply.Done = bound_few on
few on (Call.Bind key) _ = omega arith
few on Call.OpenRoot (Reply.Token key collection) = omega arith
few on Call.OpenRoot _ = omega arith
few on (Call.Duplicate parent) (Reply.Token key collection) = omega arith
few on (Call.Duplicate parent) _ = omega arith
few on (Call.AttachToken parent) (Reply.Token key collection) = omega arith
few on (Call.AttachToken parent) _ = omega arith
few on Call.Collect (Reply.Collected key kind collection) = omega arith
few on Call.Collect (Reply.CollectedHandle buffer strength) = omega arith
few on Call.Collect _ = omega arith
few on (Call.DupHandle buffer strength) Reply.Done = omega arith
few on (Call.DupHandle buffer strength) _ = omega arith
few on _ reply = omega arith

-- so there is room for it
pub room_for : {E S W : Type 0} (old new : Seen) (call : Call) (slot : Option ℕ) (before after : List (Option ActorObject))
    (brought : NewObjects E S W) → Asks old new call slot before after brought → length (slots_for brought) ≤ MAX_BUFFERS
room_for old new call slot before after brought asks =
    subst (λ n. n ≤ MAX_BUFFERS) (sym (as_many brought ∙ ap length asks.objects)) (few (on_of before slot) call asks.reply)

-- ---- lists of events

-- the last entry
at_end : (own : List Own) (o : Own) → slice_get (own ++ o ∷ []) (length own) ≡ Some o
at_end [] o = refl
at_end (x ∷ xs) o = at_end xs o

-- the reply to the event that was made is the last one, since that event is last in the list
pub last_is : (old new : Seen) (call : Call) (reply : Reply) → Made old new call reply → last_reply new.own ≡ Some reply
last_is old new call reply made =
    let o : Own = record { event = made.told.event; call = call; reply = reply } in
    let place : length (old.own ++ o ∷ []) - 1 ≡ length old.own = omega (arith, length-append old.own (o ∷ [])) in
    ap last_reply made.told.next
    ∙ (ap (λ n. option_map (λ (e : Own). e.reply) (slice_get (old.own ++ o ∷ []) n)) place
    ∙ ap (option_map (λ (e : Own). e.reply)) (at_end old.own o))

-- an event adds its call and its reply behind those of the earlier events
pub pairs_more : (old new : Seen) (call : Call) (reply : Reply) → Made old new call reply →
    pairs_of new.own ≡ pairs_of old.own ++ (call, reply) ∷ []
pairs_more old new call reply made = ap pairs_of made.told.next
    ∙ map-append (λ (o : Own). (o.call, o.reply)) old.own (record { event = made.told.event; call = call; reply = reply } ∷ [])

-- ---- what an actor leaves

-- turned twice, the objects are in their order
pub left_turned : {E S W : Type 0} (slots : List (Option (ParcelContent E S W))) →
    last_objects_first (reverse slots) ≡ objects_in_slots slots
left_turned slots = ap (flat_map kept_objects) (reverse-reverse slots)

module _ (client : ℕ) where
  -- an object in a slot, by what is known of it
  one_part : {E S W : Type 0} (slot : Option (ParcelContent E S W)) → SlotHeldBy client slot →
      part_of client (there slot) ≡ kept_objects slot
  one_part None of = refl
  one_part (Some (ParcelContent.Token t)) of = ap (λ c. Token (record { client = c; key = t.key; collection = t.collection }) ∷ []) (sym of)
  one_part (Some (ParcelContent.Collection t)) of = ap (λ c. Collection
      (record { client = c; key = t.key; collection = t.collection }) ∷ []) (sym of)
  one_part (Some (ParcelContent.Handle h)) of = ap (λ c. Handle (record { client = c; buffer = h.buffer; strength = h.strength }) ∷ [])
      (sym of)

  -- all of them
  pub parts_left : {E S W : Type 0} (slots : List (Option (ParcelContent E S W))) → All (SlotHeldBy client) slots →
      flat_map (part_of client) (lies slots) ≡ objects_in_slots slots
  parts_left [] of = refl
  parts_left (x ∷ xs) of =
      ap (λ l. l ++ flat_map (part_of client) (lies xs)) (one_part x (All-head (SlotHeldBy client) x xs of))
      ∙ ap (λ l. kept_objects x ++ l) (parts_left xs (All-tail (SlotHeldBy client) x xs of))

  -- their holder
  one_owner : {E S W : Type 0} (slot : Option (ParcelContent E S W)) → SlotHeldBy client slot →
      All (λ p. owner_of p ≡ client) (kept_objects slot)
  one_owner None of = All-nil (λ p. owner_of p ≡ client)
  one_owner (Some (ParcelContent.Token t)) of = All-cons (λ p. owner_of p ≡ client) (Token t) [] of (All-nil (λ p. owner_of p ≡ client))
  one_owner (Some (ParcelContent.Collection t)) of = All-cons (λ p. owner_of p ≡ client) (Collection t) [] of
      (All-nil (λ p. owner_of p ≡ client))
  one_owner (Some (ParcelContent.Handle h)) of = All-cons (λ p. owner_of p ≡ client) (Handle h) [] of (All-nil (λ p. owner_of p ≡ client))

  -- each object in slots that the client holds belongs to the client
  all_owner : {E S W : Type 0} (slots : List (Option (ParcelContent E S W))) → All (SlotHeldBy client) slots →
      All (λ p. owner_of p ≡ client) (objects_in_slots slots)
  all_owner [] of = All-nil (λ p. owner_of p ≡ client)
  all_owner (x ∷ xs) of = All-append (λ p. owner_of p ≡ client) (kept_objects x) (objects_in_slots xs)
      (one_owner x (All-head (SlotHeldBy client) x xs of)) (all_owner xs (All-tail (SlotHeldBy client) x xs of))

  -- so each list of a kind is
  pub left_owned : {E S W : Type 0} (slots : List (Option (ParcelContent E S W))) → All (SlotHeldBy client) slots →
      AllHeldBy client (sorted (objects_in_slots slots))
  left_owned slots of = sorted_own client (objects_in_slots slots) (all_owner slots of)
