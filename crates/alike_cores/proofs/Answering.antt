-- The answers to renamed calls.
use Rattle.alike_cores.proofs.Common.{AreAlike, Bool, Bound, BufferName, Buffers, Call, Fault, List, MAX_NODE_TRACKERS, Misuse, NodeKey}
use Rattle.alike_cores.proofs.Common.{None, OpenEnd, Option, Parcel, Readings, Refusal, Reply, Some, Strength, [], acquires, answer}
use Rattle.alike_cores.proofs.Common.{answers_first, ap, buffer_renamed, call_renamed, closing, collected, effect, end_named, end_renamed}
use Rattle.alike_cores.proofs.Common.{false, fault_renamed, first_some, is_anothers, key_of, kind_for, length, limits_met, list_any}
use Rattle.alike_cores.proofs.Common.{makes_collection, makes_node, makes_tracker, map, misuse, misuse_of, misused_if, nat_le, no_handle}
use Rattle.alike_cores.proofs.Common.{not, option_and_then, option_map, option_map_or, parcel_renamed, peer_closed, receiver_of, refl}
use Rattle.alike_cores.proofs.Common.{refused_if, reply_renamed, same_kind, set_of, strength_of, sym, too_many_handles, true}
use Rattle.alike_cores.proofs.Common.{unknown_client, unwrap_or, ℕ, ◌&&◌, ◌+◌, ◌==◌, ◌||◌, ◌∙◌, ◌∷◌, ◌≡◌}
use Rattle.std.proofs.Common.{suc, ◌^◌}
use Rattle.std.specs.List.{fold}
use Rattle.sm_names.specs.declared.keys.Kind.{Kind}
use Rattle.sm_names.specs.Answers.{end_in_transit, has_none, is_at_limit, no_end, of_end, shut_client, wrong_kind}
use Rattle.alike_cores.proofs.Forcings.{any_alike}
use Rattle.forest_store.proofs.quiescence.Forcing.{first_made}

-- ---- calls

-- By the call.
pub key-renamed : (to : NodeKey → NodeKey) (id : ℕ → ℕ) (call : Call) →
    key_of (call_renamed to id call) ≡ option_map to (key_of call)
key-renamed to id Call.Join = refl
key-renamed to id call = refl

-- By the call.
receiver-renamed : (to : NodeKey → NodeKey) (id : ℕ → ℕ) (call : Call) →
    receiver_of (call_renamed to id call) ≡ receiver_of call
receiver-renamed to id Call.Join = refl
receiver-renamed to id call = refl

-- By the call.
acquires-renamed : (to : NodeKey → NodeKey) (id : ℕ → ℕ) (call : Call) → acquires (call_renamed to id call) ≡ acquires call
acquires-renamed to id Call.Join = refl
acquires-renamed to id call = refl

-- By the call.
kind_for-renamed : (to : NodeKey → NodeKey) (id : ℕ → ℕ) (call : Call) → kind_for (call_renamed to id call) ≡ kind_for call
kind_for-renamed to id Call.Join = refl
kind_for-renamed to id call = refl

-- By the call.
makes-renamed : (to : NodeKey → NodeKey) (id : ℕ → ℕ) (call : Call) → makes_node (call_renamed to id call) ≡ makes_node call
makes-renamed to id Call.Join = refl
makes-renamed to id call = refl

-- By the call.
makes_collection-renamed : (to : NodeKey → NodeKey) (id : ℕ → ℕ) (call : Call) →
    makes_collection (call_renamed to id call) ≡ makes_collection call
makes_collection-renamed to id Call.Join = refl
makes_collection-renamed to id call = refl

-- By the call.
makes_tracker-renamed : (to : NodeKey → NodeKey) (id : ℕ → ℕ) (call : Call) →
    makes_tracker (call_renamed to id call) ≡ makes_tracker call
makes_tracker-renamed to id Call.Join = refl
makes_tracker-renamed to id call = refl

-- ---- refusals name nothing

-- A refusal names nothing.
refused-kept : (to : NodeKey → NodeKey) (id number : ℕ → ℕ) (b : Bool) (why : Refusal) →
    refused_if b why ≡ option_map (reply_renamed to id number) (refused_if b why)
refused-kept to id number true why = refl
refused-kept to id number false why = refl

-- A misuse names nothing.
misused-kept : (to : NodeKey → NodeKey) (id number : ℕ → ℕ) (b : Bool) (why : Misuse) →
    misused_if b why ≡ option_map (reply_renamed to id number) (misused_if b why)
misused-kept to id number true why = refl
misused-kept to id number false why = refl

-- ---- the rows of the order of answers

-- The same clients have joined.
unknown-alike : (to : NodeKey → NodeKey) (id number : ℕ → ℕ) (r s : Readings) → AreAlike to id r s →
    (client : ℕ) (call : Call) →
    unknown_client s client (call_renamed to id call) ≡ option_map (reply_renamed to id number) (unknown_client r client call)
unknown-alike to id number r s alike client Call.Join = refused-kept to id number (not (client == 0)) Refusal.NoSuchClient
unknown-alike to id number r s alike client call =
    (λ i. refused_if (not (alike.joined client i) || option_map_or (λ other. not (alike.joined other i))
    (receiver_of call) false) Refusal.NoSuchClient)
    ∙ refused-kept to id number
    (not (r.has_joined client) || option_map_or (λ other. not (r.has_joined other)) (receiver_of call) false) Refusal.NoSuchClient

-- The same clients are shut.
shut-alike : (to : NodeKey → NodeKey) (id number : ℕ → ℕ) (r s : Readings) → AreAlike to id r s → (client : ℕ) (call : Call) →
    shut_client s client (call_renamed to id call) ≡ option_map (reply_renamed to id number) (shut_client r client call)
shut-alike to id number r s alike client call =
    (λ i. refused_if ((acquires-renamed to id call i && alike.shut client i)
    || option_map_or (λ other. alike.shut other i) (receiver-renamed to id call i) false) Refusal.ClientShut)
    ∙ refused-kept to id number ((acquires call && r.is_shut client) || option_map_or r.is_shut (receiver_of call) false) Refusal.ClientShut

-- The end of the new key is the renamed end, with the same holder.
no_end-alike : (to : NodeKey → NodeKey) (id number : ℕ → ℕ) (r s : Readings) → AreAlike to id r s → (client : ℕ) (call : Call) →
    no_end s client (call_renamed to id call) ≡ option_map (reply_renamed to id number) (no_end r client call)
no_end-alike to id number r s alike client call =
    ap (option_and_then (λ (key : NodeKey). refused_if (option_map_or (is_anothers client) (s.end_of key) true) Refusal.NoSuchEnd))
    (key-renamed to id call)
    ∙ from (key_of call)
  where
    -- by cases on the end: its holder stays
    others : (o : Option OpenEnd) →
        option_map_or (is_anothers client) (option_map (end_renamed to id) o) true ≡ option_map_or (is_anothers client) o true
    others None = refl
    others (Some e) = refl

    -- by cases on the key: the end of the new one is the renamed end
    from : (o : Option NodeKey) →
        option_and_then (λ (key : NodeKey). refused_if (option_map_or (is_anothers client) (s.end_of key) true) Refusal.NoSuchEnd)
        (option_map to o)
        ≡ option_map (reply_renamed to id number)
        (option_and_then (λ (key : NodeKey). refused_if (option_map_or (is_anothers client) (r.end_of key) true) Refusal.NoSuchEnd) o)
    from None = refl
    from (Some key) =
        ap (λ (b : Bool). refused_if b Refusal.NoSuchEnd)
        (ap (λ (o : Option OpenEnd). option_map_or (is_anothers client) o true) (alike.ends key) ∙ others (r.end_of key))
        ∙ refused-kept to id number (option_map_or (is_anothers client) (r.end_of key) true) Refusal.NoSuchEnd

-- The call names the new key.
named-alike : (to : NodeKey → NodeKey) (id : ℕ → ℕ) (r s : Readings) → AreAlike to id r s → (call : Call) →
    end_named s (call_renamed to id call) ≡ option_map (end_renamed to id) (end_named r call)
named-alike to id r s alike call = ap (option_and_then s.end_of) (key-renamed to id call) ∙ from (key_of call)
  where
    -- by cases on the key: the end of the new one is the renamed end
    from : (o : Option NodeKey) → option_and_then s.end_of (option_map to o) ≡ option_map (end_renamed to id) (option_and_then r.end_of o)
    from None = refl
    from (Some key) = alike.ends key

-- what is said of the end that a call names
said : (to : NodeKey → NodeKey) (id number : ℕ → ℕ) (r s : Readings) → AreAlike to id r s →
    (call : Call) (after before : OpenEnd → Option Reply) →
    ((e : OpenEnd) → after (end_renamed to id e) ≡ option_map (reply_renamed to id number) (before e)) →
    option_and_then after (end_named s (call_renamed to id call))
    ≡ option_map (reply_renamed to id number) (option_and_then before (end_named r call))
said to id number r s alike call after before same = ap (option_and_then after) (named-alike to id r s alike call) ∙ from (end_named r call)
  where
    -- by cases on the end
    from : (o : Option OpenEnd) → option_and_then after (option_map (end_renamed to id) o)
        ≡ option_map (reply_renamed to id number) (option_and_then before o)
    from None = refl
    from (Some e) = same e

-- The end is in a parcel alike.
transit-alike : (to : NodeKey → NodeKey) (id number : ℕ → ℕ) (r s : Readings) → AreAlike to id r s → (call : Call) →
    end_in_transit s (call_renamed to id call) ≡ option_map (reply_renamed to id number) (end_in_transit r call)
transit-alike to id number r s alike call =
    said to id number r s alike call (λ e. refused_if e.in_transit Refusal.InTransit) (λ e. refused_if e.in_transit Refusal.InTransit)
    (λ e. refused-kept to id number e.in_transit Refusal.InTransit)

-- By the call.
closing-alike : (to : NodeKey → NodeKey) (id number : ℕ → ℕ) (call : Call) →
    closing (call_renamed to id call) ≡ option_map (reply_renamed to id number) (closing call)
closing-alike to id number Call.Join = refl
closing-alike to id number call = refl

-- The fault is the renamed one.
closed-alike : (to : NodeKey → NodeKey) (id number : ℕ → ℕ) (r s : Readings) → AreAlike to id r s → (call : Call) →
    peer_closed s (call_renamed to id call) ≡ option_map (reply_renamed to id number) (peer_closed r call)
closed-alike to id number r s alike call = said to id number r s alike call
    (λ e. option_map (λ (f : Fault). Reply.PeerClosed f.cause f.origin) e.fault)
    (λ e. option_map (λ (f : Fault). Reply.PeerClosed f.cause f.origin) e.fault)
    (λ e. from e.fault)
  where
    -- by cases on the fault
    from : (o : Option Fault) → option_map (λ (f : Fault). Reply.PeerClosed f.cause f.origin) (option_map (fault_renamed to) o)
        ≡ option_map (reply_renamed to id number) (option_map (λ (f : Fault). Reply.PeerClosed f.cause f.origin) o)
    from None = refl
    from (Some f) = refl

-- The end has the same kind.
kind-alike : (to : NodeKey → NodeKey) (id number : ℕ → ℕ) (r s : Readings) → AreAlike to id r s → (call : Call) →
    wrong_kind s (call_renamed to id call) ≡ option_map (reply_renamed to id number) (wrong_kind r call)
kind-alike to id number r s alike call = said to id number r s alike call
    (λ e. refused_if (option_map_or (λ k. not (same_kind e.kind k)) (kind_for (call_renamed to id call)) false) Refusal.WrongKind)
    (λ e. refused_if (option_map_or (λ k. not (same_kind e.kind k)) (kind_for call) false) Refusal.WrongKind)
    (λ e. ap (λ (o : Option Kind). refused_if (option_map_or (λ k. not (same_kind e.kind k)) o false) Refusal.WrongKind)
    (kind_for-renamed to id call)
    ∙ refused-kept to id number (option_map_or (λ k. not (same_kind e.kind k)) (kind_for call) false) Refusal.WrongKind)

-- Misuses depend on flags and numbers of the end.
misuse_of-alike : (to : NodeKey → NodeKey) (id number : ℕ → ℕ) (e : OpenEnd) (call : Call) →
    misuse_of (end_renamed to id e) (call_renamed to id call) ≡ option_map (reply_renamed to id number) (misuse_of e call)
misuse_of-alike to id number e (Call.SetConstraints key demand) = misused-kept to id number e.constrained Misuse.SecondConstraints
misuse_of-alike to id number e (Call.SetWeak key) = misused-kept to id number e.constrained Misuse.LateWeak
misuse_of-alike to id number e (Call.SetWeakOk key children) = misused-kept to id number e.took Misuse.LateWeakOk
misuse_of-alike to id number e (Call.Take key) = misused-kept to id number (e.weak && not e.weak_ok) Misuse.WeakNotOk
misuse_of-alike to id number e (Call.TrackNode key) =
    misused-kept to id number (nat_le MAX_NODE_TRACKERS e.node_trackers) Misuse.TooManyNodeTrackers
misuse_of-alike to id number e call = refl

-- The end has the same misuse.
misuse-alike : (to : NodeKey → NodeKey) (id number : ℕ → ℕ) (r s : Readings) → AreAlike to id r s → (call : Call) →
    misuse s (call_renamed to id call) ≡ option_map (reply_renamed to id number) (misuse r call)
misuse-alike to id number r s alike call =
    said to id number r s alike call (λ e. misuse_of e (call_renamed to id call)) (λ e. misuse_of e call)
    (λ e. misuse_of-alike to id number e call)

-- The client has as many handles of the renamed buffer.
handle-alike : (to : NodeKey → NodeKey) (id number : ℕ → ℕ) (r s : Readings) → AreAlike to id r s → (client : ℕ) (call : Call) →
    no_handle s client (call_renamed to id call) ≡ option_map (reply_renamed to id number) (no_handle r client call)
handle-alike to id number r s alike client (Call.DupHandle b strength) =
    ap has_none (alike.open_of client b strength) ∙ refused-kept to id number (r.open_of client b strength == 0) Refusal.NoSuchHandle
handle-alike to id number r s alike client (Call.DropHandle b strength) =
    ap has_none (alike.open_of client b strength) ∙ refused-kept to id number (r.open_of client b strength == 0) Refusal.NoSuchHandle
handle-alike to id number r s alike client (Call.GiveHandle b strength other) =
    ap has_none (alike.open_of client b strength) ∙ refused-kept to id number (r.open_of client b strength == 0) Refusal.NoSuchHandle
handle-alike to id number r s alike client (Call.TrackWeak b) =
    ap has_none (alike.open_of client b Strength.Weak)
    ∙ refused-kept to id number (r.open_of client b Strength.Weak == 0) Refusal.NoSuchHandle
handle-alike to id number r s alike client call = refl

-- ---- limits

-- As many handles are open on each buffer under its new name.
handles-alike : (to : NodeKey → NodeKey) (id : ℕ → ℕ) (limits : Bound) (r s : Readings) → AreAlike to id r s → (call : Call) →
    too_many_handles limits s (call_renamed to id call) ≡ too_many_handles limits r call
handles-alike to id limits r s alike (Call.DupHandle b strength) = ap (nat_le limits.handles) (alike.total b strength)
handles-alike to id limits r s alike (Call.Take key) =
    ap (λ (o : Option OpenEnd). option_map_or (λ (e : OpenEnd). list_any (is_at_limit limits s (strength_of e.weak)) e.to_open) o false)
    (alike.ends key)
    ∙ from (r.end_of key)
  where
    -- by cases on the end: each buffer has as many handles under its new name
    from : (o : Option OpenEnd) →
        option_map_or (λ (e : OpenEnd). list_any (is_at_limit limits s (strength_of e.weak)) e.to_open)
        (option_map (end_renamed to id) o) false
        ≡ option_map_or (λ (e : OpenEnd). list_any (is_at_limit limits r (strength_of e.weak)) e.to_open) o false
    from None = refl
    from (Some e) = any_alike (is_at_limit limits s (strength_of e.weak)) (is_at_limit limits r (strength_of e.weak)) (buffer_renamed id)
        (λ b. ap (nat_le limits.handles) (alike.total b (strength_of e.weak))) e.to_open
handles-alike to id limits r s alike call = refl

-- Row by row: the counts are equal.
limits-alike : (to : NodeKey → NodeKey) (id number : ℕ → ℕ) (limits : Bound) (r s : Readings) → AreAlike to id r s →
    (call : Call) →
    limits_met limits s (call_renamed to id call) ≡ map (option_map (reply_renamed to id number)) (limits_met limits r call)
limits-alike to id number limits r s alike call =
    (λ i. refused_if (makes-renamed to id call i && nat_le limits.nodes (alike.nodes i)) Refusal.TooManyNodes
    ∷ refused_if (makes_collection-renamed to id call i && nat_le limits.collections (alike.collections i)) Refusal.TooManyCollections
    ∷ refused_if (makes_tracker-renamed to id call i && nat_le limits.trackers (alike.unfired i)) Refusal.TrackersFull
    ∷ refused_if (handles-alike to id limits r s alike call i) Refusal.TooManyHandles
    ∷ [])
    ∙ (λ i. refused-kept to id number (makes_node call && nat_le limits.nodes r.kept_nodes) Refusal.TooManyNodes i
    ∷ refused-kept to id number (makes_collection call && nat_le limits.collections r.kept_collections) Refusal.TooManyCollections i
    ∷ refused-kept to id number (makes_tracker call && nat_le limits.trackers r.unfired) Refusal.TrackersFull i
    ∷ refused-kept to id number (too_many_handles limits r call) Refusal.TooManyHandles i
    ∷ [])

-- ---- effects

-- By whether the end is there.
of_end-alike : (to : NodeKey → NodeKey) (id number : ℕ → ℕ) (r s : Readings) → AreAlike to id r s →
    (key : NodeKey) (after before : OpenEnd → Reply) →
    ((e : OpenEnd) → after (end_renamed to id e) ≡ reply_renamed to id number (before e)) →
    of_end s (to key) after ≡ reply_renamed to id number (of_end r key before)
of_end-alike to id number r s alike key after before same =
    ap (λ (o : Option OpenEnd). option_map_or after o (Reply.Refused Refusal.NoSuchEnd)) (alike.ends key) ∙ from (r.end_of key)
  where
    -- by cases on the end
    from : (o : Option OpenEnd) → option_map_or after (option_map (end_renamed to id) o) (Reply.Refused Refusal.NoSuchEnd)
        ≡ reply_renamed to id number (option_map_or before o (Reply.Refused Refusal.NoSuchEnd))
    from None = refl
    from (Some e) = same e

-- By the list: the indices stay.
summed-renamed : (id : ℕ → ℕ) (bs : List BufferName) (n : ℕ) →
    fold (λ (a : ℕ) (b : BufferName). a + 2 ^ b.index) n (map (buffer_renamed id) bs)
    ≡ fold (λ (a : ℕ) (b : BufferName). a + 2 ^ b.index) n bs
summed-renamed id [] n = refl
summed-renamed id (b ∷ bs) n = summed-renamed id bs (n + 2 ^ b.index)

-- A set is a sum over indices.
set-renamed : (id : ℕ → ℕ) (bs : List BufferName) → set_of (map (buffer_renamed id) bs) ≡ set_of bs
set-renamed id bs = summed-renamed id bs 0

-- By the list.
pub length-renamed : {A B : Type 0} (f : A → B) (xs : List A) → length (map f xs) ≡ length xs
length-renamed f [] = refl
length-renamed f (x ∷ xs) = ap suc (length-renamed f xs)

-- By the first parcel.
collected-alike : (to : NodeKey → NodeKey) (id number : ℕ → ℕ) (r s : Readings) → AreAlike to id r s → (ps : List Parcel) →
    collected s (map (parcel_renamed to id) ps) ≡ reply_renamed to id number (collected r ps)
collected-alike to id number r s alike [] = refl
collected-alike to id number r s alike (Parcel.Handle b strength ∷ more) = refl
collected-alike to id number r s alike (Parcel.End key ∷ more) =
    ap (λ (o : Option OpenEnd). option_map_or (λ (e : OpenEnd). Reply.Collected (to key) e.kind e.collection) o Reply.Empty)
    (alike.ends key) ∙ from (r.end_of key)
  where
    -- by cases on the end: it is collected, or the reply is Empty
    from : (o : Option OpenEnd) →
        option_map_or (λ (e : OpenEnd). Reply.Collected (to key) e.kind e.collection) (option_map (end_renamed to id) o) Reply.Empty
        ≡ reply_renamed to id number (option_map_or (λ (e : OpenEnd). Reply.Collected key e.kind e.collection) o Reply.Empty)
    from None = refl
    from (Some e) = refl

-- By the call: what a reply names is new by the number of the event, or read off the end.
effect-alike : (to : NodeKey → NodeKey) (id number : ℕ → ℕ) (r s : Readings) → AreAlike to id r s →
    id (r.events + 1) ≡ s.events + 1 → number (r.events + 1) ≡ s.events + 1 → (client : ℕ) (new : NodeKey) (call : Call) →
    effect s client (to new) (call_renamed to id call) ≡ reply_renamed to id number (effect r client new call)
effect-alike to id number r s alike ids numbers client new Call.Join = ap Reply.Joined (sym numbers)
effect-alike to id number r s alike ids numbers client new Call.Shut =
    ap Reply.Shut (ap length (alike.waiting client) ∙ length-renamed (parcel_renamed to id) (r.waiting client))
effect-alike to id number r s alike ids numbers client new Call.OpenRoot = ap (Reply.Token (to new)) (sym ids)
effect-alike to id number r s alike ids numbers client new (Call.Duplicate key) =
    of_end-alike to id number r s alike key (λ e. Reply.Token (to new) e.collection) (λ e. Reply.Token new e.collection) (λ e. refl)
effect-alike to id number r s alike ids numbers client new (Call.AttachToken key) =
    of_end-alike to id number r s alike key (λ e. Reply.Token (to new) e.collection) (λ e. Reply.Token new e.collection) (λ e. refl)
effect-alike to id number r s alike ids numbers client new Call.Collect =
    ap (collected s) (alike.waiting client) ∙ collected-alike to id number r s alike (r.waiting client)
effect-alike to id number r s alike ids numbers client new (Call.Check key) =
    of_end-alike to id number r s alike key (λ e. option_map_or (λ (b : Buffers). Reply.Allocated b.count b.size) e.buffers Reply.Pending)
    (λ e. option_map_or (λ (b : Buffers). Reply.Allocated b.count b.size) e.buffers Reply.Pending) (λ e. from e.buffers)
  where
    -- by cases on the buffers: their number and size stay
    from : (o : Option Buffers) → option_map_or (λ (b : Buffers). Reply.Allocated b.count b.size) o Reply.Pending
        ≡ reply_renamed to id number (option_map_or (λ (b : Buffers). Reply.Allocated b.count b.size) o Reply.Pending)
    from None = refl
    from (Some b) = refl
effect-alike to id number r s alike ids numbers client new (Call.Take key) =
    of_end-alike to id number r s alike key
    (λ e. option_map_or (λ (b : Buffers). Reply.Taken e.collection (strength_of e.weak) (set_of e.to_open)) e.buffers Reply.Pending)
    (λ e. option_map_or (λ (b : Buffers). Reply.Taken e.collection (strength_of e.weak) (set_of e.to_open)) e.buffers Reply.Pending)
    (λ e. from e e.buffers)
  where
    -- by cases on the buffers: the set has indexes, which stay
    from : (e : OpenEnd) (o : Option Buffers) →
        option_map_or (λ (b : Buffers). Reply.Taken (id e.collection) (strength_of e.weak)
        (set_of (map (buffer_renamed id) e.to_open))) o Reply.Pending
        ≡ reply_renamed to id number
        (option_map_or (λ (b : Buffers). Reply.Taken e.collection (strength_of e.weak) (set_of e.to_open)) o Reply.Pending)
    from e None = refl
    from e (Some b) = ap (Reply.Taken (id e.collection) (strength_of e.weak)) (set-renamed id e.to_open)
effect-alike to id number r s alike ids numbers client new (Call.TrackNode key) = ap Reply.Tracker (sym numbers)
effect-alike to id number r s alike ids numbers client new (Call.TrackLifetime key most) = ap Reply.Tracker (sym numbers)
effect-alike to id number r s alike ids numbers client new (Call.TrackWeak b) = ap Reply.Tracker (sym numbers)
effect-alike to id number r s alike ids numbers client new call = refl

-- ---- the answer

-- Row by row of the order of answers.
first-alike : (to : NodeKey → NodeKey) (id number : ℕ → ℕ) (limits : Bound) (r s : Readings) → AreAlike to id r s →
    (client : ℕ) (call : Call) →
    answers_first limits s client (call_renamed to id call)
    ≡ map (option_map (reply_renamed to id number)) (answers_first limits r client call)
first-alike to id number limits r s alike client call = λ i.
    unknown-alike to id number r s alike client call i
    ∷ shut-alike to id number r s alike client call i
    ∷ no_end-alike to id number r s alike client call i
    ∷ transit-alike to id number r s alike call i
    ∷ closing-alike to id number call i
    ∷ closed-alike to id number r s alike call i
    ∷ kind-alike to id number r s alike call i
    ∷ misuse-alike to id number r s alike call i
    ∷ handle-alike to id number r s alike client call i
    ∷ limits-alike to id number limits r s alike call i

-- The first row that applies is the same.
pub answer-alike : (to : NodeKey → NodeKey) (id number : ℕ → ℕ) (limits : Bound) (r s : Readings) → AreAlike to id r s →
    id (r.events + 1) ≡ s.events + 1 → number (r.events + 1) ≡ s.events + 1 → (client : ℕ) (new : NodeKey) (call : Call) →
    answer limits s client (to new) (call_renamed to id call) ≡ reply_renamed to id number (answer limits r client new call)
answer-alike to id number limits r s alike ids numbers client new call =
    (λ i. unwrap_or (first i) (effect-alike to id number r s alike ids numbers client new call i))
    ∙ from (first_some (answers_first limits r client call))
  where
    -- row by row, by the lemma on all rows
    first : first_some (answers_first limits s client (call_renamed to id call))
        ≡ option_map (reply_renamed to id number) (first_some (answers_first limits r client call))
    first = ap first_some (first-alike to id number limits r s alike client call)
        ∙ first_made (reply_renamed to id number) (answers_first limits r client call)

    -- by cases: a row applies, or the call takes effect
    from : (o : Option Reply) →
        unwrap_or (option_map (reply_renamed to id number) o) (reply_renamed to id number (effect r client new call))
        ≡ reply_renamed to id number (unwrap_or o (effect r client new call))
    from None = refl
    from (Some reply) = refl
