-- An answer depends on the key of a new node only where it tells it.
use Rattle.alike_cores.proofs.Common.{Bool, Bound, Buffers, Call, Fault, List, MAX_NODE_TRACKERS, Misuse, NodeKey, None, OpenEnd, Option}
use Rattle.alike_cores.proofs.Common.{Parcel, Readings, Refusal, Reply, Some, Strength, [], acquires, answer, answers_first, ap, closing}
use Rattle.alike_cores.proofs.Common.{collected, effect, end_named, false, first_some, is_anothers, key_of, kind_for, limits_met}
use Rattle.alike_cores.proofs.Common.{makes_collection, makes_node, makes_tracker, map, misuse_of, misused_if, nat_le, no_handle, not}
use Rattle.alike_cores.proofs.Common.{option_and_then, option_map, option_map_or, receiver_of, refl, refused_if, same_kind, set_of}
use Rattle.alike_cores.proofs.Common.{strength_of, sym, too_many_handles, true, unknown_client, unwrap_or, with_key, ℕ, ◌&&◌, ◌==◌, ◌||◌}
use Rattle.alike_cores.proofs.Common.{◌∙◌, ◌∷◌, ◌≡◌}
use Rattle.forest_store.proofs.quiescence.Forcing.{first_made}

-- a new node has this key
abbrev keyed : NodeKey → Reply → Reply
keyed key reply = with_key reply (Some key)

-- ---- the answers that come first

-- By the test.
refused-keyed : (key : NodeKey) (test : Bool) (refusal : Refusal) →
    option_map (keyed key) (refused_if test refusal) ≡ refused_if test refusal
refused-keyed key true refusal = refl
refused-keyed key false refusal = refl

-- By the test.
misused-keyed : (key : NodeKey) (test : Bool) (misuse : Misuse) →
    option_map (keyed key) (misused_if test misuse) ≡ misused_if test misuse
misused-keyed key true misuse = refl
misused-keyed key false misuse = refl

-- By what is there.
then-keyed : {A : Type 0} (key : NodeKey) (read : A → Option Reply) → ((x : A) → option_map (keyed key) (read x) ≡ read x) →
    (o : Option A) → option_map (keyed key) (option_and_then read o) ≡ option_and_then read o
then-keyed key read each None = refl
then-keyed key read each (Some x) = each x

-- By the call.
unknown-keyed : (key : NodeKey) (r : Readings) (client : ℕ) (call : Call) →
    option_map (keyed key) (unknown_client r client call) ≡ unknown_client r client call
unknown-keyed key r client Call.Join = refused-keyed key (not (client == 0)) Refusal.NoSuchClient
unknown-keyed key r client call = refused-keyed key
    (not (r.has_joined client) || option_map_or (λ receiver. not (r.has_joined receiver)) (receiver_of call) false) Refusal.NoSuchClient

-- By the call.
closing-keyed : (key : NodeKey) (call : Call) → option_map (keyed key) (closing call) ≡ closing call
closing-keyed key (Call.Close on) = refl
closing-keyed key _ = refl

-- By the fault.
closed-keyed : (key : NodeKey) (o : Option Fault) →
    option_map (keyed key) (option_map (λ (f : Fault). Reply.PeerClosed f.cause f.origin) o)
    ≡ option_map (λ (f : Fault). Reply.PeerClosed f.cause f.origin) o
closed-keyed key None = refl
closed-keyed key (Some f) = refl

-- By the call.
misuse-keyed : (key : NodeKey) (call : Call) (e : OpenEnd) → option_map (keyed key) (misuse_of e call) ≡ misuse_of e call
misuse-keyed key (Call.SetConstraints on demand) e = misused-keyed key e.constrained Misuse.SecondConstraints
misuse-keyed key (Call.SetWeak on) e = misused-keyed key e.constrained Misuse.LateWeak
misuse-keyed key (Call.SetWeakOk on children) e = misused-keyed key e.took Misuse.LateWeakOk
misuse-keyed key (Call.Take on) e = misused-keyed key (e.weak && not e.weak_ok) Misuse.WeakNotOk
misuse-keyed key (Call.TrackNode on) e = misused-keyed key (nat_le MAX_NODE_TRACKERS e.node_trackers) Misuse.TooManyNodeTrackers
misuse-keyed key _ e = refl

-- By the call.
handle-keyed : (key : NodeKey) (r : Readings) (client : ℕ) (call : Call) →
    option_map (keyed key) (no_handle r client call) ≡ no_handle r client call
handle-keyed key r client (Call.DupHandle b s) = refused-keyed key (r.open_of client b s == 0) Refusal.NoSuchHandle
handle-keyed key r client (Call.DropHandle b s) = refused-keyed key (r.open_of client b s == 0) Refusal.NoSuchHandle
handle-keyed key r client (Call.GiveHandle b s receiver) = refused-keyed key (r.open_of client b s == 0) Refusal.NoSuchHandle
handle-keyed key r client (Call.TrackWeak b) = refused-keyed key (r.open_of client b Strength.Weak == 0) Refusal.NoSuchHandle
handle-keyed key r client _ = refl

-- Limit by limit.
limits-keyed : (key : NodeKey) (limits : Bound) (r : Readings) (call : Call) →
    map (option_map (keyed key)) (limits_met limits r call) ≡ limits_met limits r call
limits-keyed key limits r call = λ i.
    refused-keyed key (makes_node call && nat_le limits.nodes r.kept_nodes) Refusal.TooManyNodes i
    ∷ refused-keyed key (makes_collection call && nat_le limits.collections r.kept_collections) Refusal.TooManyCollections i
    ∷ refused-keyed key (makes_tracker call && nat_le limits.trackers r.unfired) Refusal.TrackersFull i
    ∷ refused-keyed key (too_many_handles limits r call) Refusal.TooManyHandles i
    ∷ []

-- None of them tells a key.
first-keyed : (key : NodeKey) (limits : Bound) (r : Readings) (client : ℕ) (call : Call) →
    map (option_map (keyed key)) (answers_first limits r client call) ≡ answers_first limits r client call
first-keyed key limits r client call = λ i.
    unknown-keyed key r client call i
    ∷ refused-keyed key ((acquires call && r.is_shut client) || option_map_or r.is_shut (receiver_of call) false) Refusal.ClientShut i
    ∷ then-keyed key (λ k. refused_if (option_map_or (is_anothers client) (r.end_of k) true) Refusal.NoSuchEnd)
    (λ k. refused-keyed key (option_map_or (is_anothers client) (r.end_of k) true) Refusal.NoSuchEnd) (key_of call) i
    ∷ then-keyed key (λ (e : OpenEnd). refused_if e.in_transit Refusal.InTransit)
    (λ e. refused-keyed key e.in_transit Refusal.InTransit) (end_named r call) i
    ∷ closing-keyed key call i
    ∷ then-keyed key (λ (e : OpenEnd). option_map (λ (f : Fault). Reply.PeerClosed f.cause f.origin) e.fault)
    (λ e. closed-keyed key e.fault) (end_named r call) i
    ∷ then-keyed key
    (λ (e : OpenEnd). refused_if (option_map_or (λ k. not (same_kind e.kind k)) (kind_for call) false) Refusal.WrongKind)
    (λ e. refused-keyed key (option_map_or (λ k. not (same_kind e.kind k)) (kind_for call) false) Refusal.WrongKind)
    (end_named r call) i
    ∷ then-keyed key (λ (e : OpenEnd). misuse_of e call) (misuse-keyed key call) (end_named r call) i
    ∷ handle-keyed key r client call i
    ∷ limits-keyed key limits r call i

-- ---- what takes effect

-- By the call: only those that make a node tell its key.
effect-keyed : (r : Readings) (client : ℕ) (one other : NodeKey) (call : Call) →
    effect r client other call ≡ keyed other (effect r client one call)
effect-keyed r client one other (Call.Duplicate on) = by (r.end_of on)
  where
    -- by cases on the end
    by : (o : Option OpenEnd) → option_map_or (λ (e : OpenEnd). Reply.Token other e.collection) o (Reply.Refused Refusal.NoSuchEnd)
        ≡ keyed other (option_map_or (λ (e : OpenEnd). Reply.Token one e.collection) o (Reply.Refused Refusal.NoSuchEnd))
    by None = refl
    by (Some e) = refl
effect-keyed r client one other (Call.AttachToken on) = by (r.end_of on)
  where
    -- by cases on the end
    by : (o : Option OpenEnd) → option_map_or (λ (e : OpenEnd). Reply.Token other e.collection) o (Reply.Refused Refusal.NoSuchEnd)
        ≡ keyed other (option_map_or (λ (e : OpenEnd). Reply.Token one e.collection) o (Reply.Refused Refusal.NoSuchEnd))
    by None = refl
    by (Some e) = refl
effect-keyed r client one other Call.Collect = by (r.waiting client)
  where
    -- by cases on the end
    end : (on : NodeKey) (o : Option OpenEnd) → option_map_or (λ (e : OpenEnd). Reply.Collected on e.kind e.collection) o Reply.Empty
        ≡ keyed other (option_map_or (λ (e : OpenEnd). Reply.Collected on e.kind e.collection) o Reply.Empty)
    end on None = refl
    end on (Some e) = refl

    -- by the first parcel
    by : (ps : List Parcel) → collected r ps ≡ keyed other (collected r ps)
    by [] = refl
    by (Parcel.Handle b s ∷ more) = refl
    by (Parcel.End on ∷ more) = end on (r.end_of on)
effect-keyed r client one other (Call.Check on) = by (r.end_of on)
  where
    -- by cases on the buffers
    own : (o : Option Buffers) → option_map_or (λ (b : Buffers). Reply.Allocated b.count b.size) o Reply.Pending
        ≡ keyed other (option_map_or (λ (b : Buffers). Reply.Allocated b.count b.size) o Reply.Pending)
    own None = refl
    own (Some b) = refl

    -- by cases on the end
    by : (o : Option OpenEnd) →
        option_map_or (λ (e : OpenEnd). option_map_or (λ (b : Buffers). Reply.Allocated b.count b.size) e.buffers Reply.Pending) o
        (Reply.Refused Refusal.NoSuchEnd)
        ≡ keyed other (option_map_or
        (λ (e : OpenEnd). option_map_or (λ (b : Buffers). Reply.Allocated b.count b.size) e.buffers Reply.Pending) o
        (Reply.Refused Refusal.NoSuchEnd))
    by None = refl
    by (Some e) = own e.buffers
effect-keyed r client one other (Call.Take on) = by (r.end_of on)
  where
    -- by cases on the buffers
    own : (e : OpenEnd) (o : Option Buffers) →
        option_map_or (λ (b : Buffers). Reply.Taken e.collection (strength_of e.weak) (set_of e.to_open)) o Reply.Pending
        ≡ keyed other (option_map_or (λ (b : Buffers). Reply.Taken e.collection (strength_of e.weak) (set_of e.to_open)) o Reply.Pending)
    own e None = refl
    own e (Some b) = refl

    -- by cases on the end
    by : (o : Option OpenEnd) →
        option_map_or (λ (e : OpenEnd). option_map_or
        (λ (b : Buffers). Reply.Taken e.collection (strength_of e.weak) (set_of e.to_open)) e.buffers Reply.Pending) o
        (Reply.Refused Refusal.NoSuchEnd)
        ≡ keyed other (option_map_or (λ (e : OpenEnd). option_map_or
        (λ (b : Buffers). Reply.Taken e.collection (strength_of e.weak) (set_of e.to_open)) e.buffers Reply.Pending) o
        (Reply.Refused Refusal.NoSuchEnd))
    by None = refl
    by (Some e) = own e e.buffers
effect-keyed r client one other _ = refl

-- The answer with one key is that with another, but for the key that it tells.
pub answer-keyed : (limits : Bound) (r : Readings) (client : ℕ) (one other : NodeKey) (call : Call) →
    answer limits r client other call ≡ keyed other (answer limits r client one call)
answer-keyed limits r client one other call =
    (λ i. unwrap_or (first i) (effect-keyed r client one other call i)) ∙ from (first_some (answers_first limits r client call))
  where
    -- what comes first tells none
    first : first_some (answers_first limits r client call)
        ≡ option_map (keyed other) (first_some (answers_first limits r client call))
    first = ap first_some (sym (first-keyed other limits r client call))
        ∙ first_made (keyed other) (answers_first limits r client call)

    -- by cases: the first answer, or that of the effect
    from : (o : Option Reply) → unwrap_or (option_map (keyed other) o) (keyed other (effect r client one call))
        ≡ keyed other (unwrap_or o (effect r client one call))
    from None = refl
    from (Some reply) = refl
