-- Which names an answer tells: those that are read, and the new ones.
use Rattle.alike_cores.proofs.Common.{Bool, Bound, Buffers, Call, Fault, In, List, MAX_NODE_TRACKERS, Misuse, NodeKey, None, OpenEnd}
use Rattle.alike_cores.proofs.Common.{Option, Parcel, Readings, Refusal, Reply, Some, Strength, [], acquires, answer, answers_first}
use Rattle.alike_cores.proofs.Common.{closing, collected, effect, end_named, false, first_some, inl, is_anothers, key_of, kind_for}
use Rattle.alike_cores.proofs.Common.{makes_collection, makes_node, makes_tracker, misuse, misuse_of, misused_if, nat_le, no_handle, not}
use Rattle.alike_cores.proofs.Common.{option_and_then, option_map, option_map_or, peer_closed, receiver_of, refl, refused_if, same_kind}
use Rattle.alike_cores.proofs.Common.{set_of, strength_of, too_many_handles, true, unknown_client, unwrap_or, ℕ, ◌&&◌, ◌+◌, ◌==◌, ◌||◌}
use Rattle.alike_cores.proofs.Common.{◌∷◌, ◌≡◌}
use Rattle.alike_cores.proofs.Known.{KnownParcel}

-- the names in a reply: the key of a new node is of one kind, that of an old one of another
abbrev pub Tells : (NodeKey → Type 0) → (NodeKey → Type 0) → (ℕ → Type 0) → (ℕ → Type 0) → Reply → Type 0
Tells New Key Id Num (Reply.Token key collection) = New key × Id collection
Tells New Key Id Num (Reply.Collected key kind collection) = Key key × Id collection
Tells New Key Id Num (Reply.CollectedHandle buffer strength) = Id buffer.collection
Tells New Key Id Num (Reply.Taken collection strength set) = Id collection
Tells New Key Id Num (Reply.Tracker tracker) = Num tracker
Tells New Key Id Num (Reply.PeerClosed cause origin) = Key origin
Tells New Key Id Num (Reply.Joined client) = Num client
Tells New Key Id Num _ = Unit {0}

module _ (New Key : NodeKey → Type 0) (Id Num : ℕ → Type 0) where
  -- the names in a reply, if there is one
  abbrev Told : Option Reply → Type 0
  Told None = Unit {0}
  Told (Some reply) = Tells New Key Id Num reply

  -- in each of these
  abbrev AreTold : List (Option Reply) → Type 0
  AreTold [] = Unit {0}
  AreTold (o ∷ os) = Told o × AreTold os

  -- By the list.
  first_told : (os : List (Option Reply)) → AreTold os → Told (first_some os)
  first_told [] told = tt
  first_told (None ∷ os) told = first_told os told.1
  first_told (Some reply ∷ os) told = told.0

  -- By the test.
  refused_told : (b : Bool) (refusal : Refusal) → Told (refused_if b refusal)
  refused_told true refusal = tt
  refused_told false refusal = tt

  -- By the test.
  misused_told : (b : Bool) (misuse : Misuse) → Told (misused_if b misuse)
  misused_told true misuse = tt
  misused_told false misuse = tt

  -- By what is there.
  then_told : {A : Type 0} (read : A → Option Reply) → ((x : A) → Told (read x)) → (o : Option A) → Told (option_and_then read o)
  then_told read each None = tt
  then_told read each (Some x) = each x

  -- By the call.
  unknown_told : (r : Readings) (client : ℕ) (call : Call) → Told (unknown_client r client call)
  unknown_told r client Call.Join = refused_told (not (client == 0)) Refusal.NoSuchClient
  unknown_told r client call =
      refused_told (not (r.has_joined client) || option_map_or (λ other. not (r.has_joined other)) (receiver_of call) false)
      Refusal.NoSuchClient

  -- By the call.
  closing_told : (call : Call) → Told (closing call)
  closing_told (Call.Close key) = tt
  closing_told _ = tt

  -- By the call.
  misuse_told : (call : Call) (e : OpenEnd) → Told (misuse_of e call)
  misuse_told (Call.SetConstraints on demand) e = misused_told e.constrained Misuse.SecondConstraints
  misuse_told (Call.SetWeak on) e = misused_told e.constrained Misuse.LateWeak
  misuse_told (Call.SetWeakOk on children) e = misused_told e.took Misuse.LateWeakOk
  misuse_told (Call.Take on) e = misused_told (e.weak && not e.weak_ok) Misuse.WeakNotOk
  misuse_told (Call.TrackNode on) e = misused_told (nat_le MAX_NODE_TRACKERS e.node_trackers) Misuse.TooManyNodeTrackers
  misuse_told _ e = tt

  -- By the call.
  handle_told : (r : Readings) (client : ℕ) (call : Call) → Told (no_handle r client call)
  handle_told r client (Call.DupHandle b s) = refused_told (r.open_of client b s == 0) Refusal.NoSuchHandle
  handle_told r client (Call.DropHandle b s) = refused_told (r.open_of client b s == 0) Refusal.NoSuchHandle
  handle_told r client (Call.GiveHandle b s receiver) = refused_told (r.open_of client b s == 0) Refusal.NoSuchHandle
  handle_told r client (Call.TrackWeak b) = refused_told (r.open_of client b Strength.Weak == 0) Refusal.NoSuchHandle
  handle_told r client _ = tt

  module _ (r : Readings) (ends : (key : NodeKey) (e : OpenEnd) → r.end_of key ≡ Some e →
      Id e.collection × ((f : Fault) → e.fault ≡ Some f → Key f.origin))
      (parcels : (client : ℕ) (p : Parcel) → In p (r.waiting client) → KnownParcel Key Id p) (next : Id (r.events + 1))
      (number : Num (r.events + 1)) (new : NodeKey) (fresh : New new) where
    -- By the end that the call names, and its fault.
    closed_told : (call : Call) → Told (peer_closed r call)
    closed_told call = by (key_of call)
      where
        -- by cases on the fault
        fault : (o : Option Fault) → ((f : Fault) → o ≡ Some f → Key f.origin) →
            Told (option_map (λ (f : Fault). Reply.PeerClosed f.cause f.origin) o)
        fault None known = tt
        fault (Some f) known = known f refl

        -- by cases on the end
        end : (key : NodeKey) (o : Option OpenEnd) → r.end_of key ≡ o →
            Told (option_and_then (λ (e : OpenEnd). option_map (λ (f : Fault). Reply.PeerClosed f.cause f.origin) e.fault) o)
        end key None is = tt
        end key (Some e) is = fault e.fault (ends key e is).1

        -- by cases on the name
        by : (o : Option NodeKey) → Told (option_and_then
            (λ (e : OpenEnd). option_map (λ (f : Fault). Reply.PeerClosed f.cause f.origin) e.fault) (option_and_then r.end_of o))
        by None = tt
        by (Some key) = end key (r.end_of key) refl

    -- None of the answers that come first tells another name.
    first_answers_told : (limits : Bound) (client : ℕ) (call : Call) → AreTold (answers_first limits r client call)
    first_answers_told limits client call = (
      unknown_told r client call,
      (
        refused_told ((acquires call && r.is_shut client) || option_map_or r.is_shut (receiver_of call) false) Refusal.ClientShut,
        (
          then_told (λ k. refused_if (option_map_or (is_anothers client) (r.end_of k) true) Refusal.NoSuchEnd)
              (λ k. refused_told (option_map_or (is_anothers client) (r.end_of k) true) Refusal.NoSuchEnd) (key_of call),
          (
            then_told (λ (e : OpenEnd). refused_if e.in_transit Refusal.InTransit) (λ e. refused_told e.in_transit Refusal.InTransit)
                (end_named r call),
            (
              closing_told call,
              (
                closed_told call,
                (
                  then_told (λ (e : OpenEnd). refused_if (is_wrong e) Refusal.WrongKind)
                      (λ e. refused_told (is_wrong e) Refusal.WrongKind) (end_named r call),
                  (
                    then_told (λ (e : OpenEnd). misuse_of e call) (misuse_told call) (end_named r call),
                    (
                      handle_told r client call,
                      (
                        refused_told (makes_node call && nat_le limits.nodes r.kept_nodes) Refusal.TooManyNodes,
                        (
                          refused_told (makes_collection call && nat_le limits.collections r.kept_collections) Refusal.TooManyCollections,
                          (
                            refused_told (makes_tracker call && nat_le limits.trackers r.unfired) Refusal.TrackersFull,
                            (
                              refused_told (too_many_handles limits r call) Refusal.TooManyHandles,
                              tt,
                            ),
                          ),
                        ),
                      ),
                    ),
                  ),
                ),
              ),
            ),
          ),
        ),
      ),
    )
      where
        -- the end is of another kind than the call asks for
        is_wrong : OpenEnd → Bool
        is_wrong e = option_map_or (λ k. not (same_kind e.kind k)) (kind_for call) false

    -- By the call: what it makes is new, and what it tells was read.
    effect_told : (client : ℕ) (call : Call) → Tells New Key Id Num (effect r client new call)
    effect_told client Call.Join = number
    effect_told client Call.OpenRoot = (fresh, next)
    effect_told client (Call.Duplicate on) = by (r.end_of on) refl
      where
        -- by cases on the end
        by : (o : Option OpenEnd) → r.end_of on ≡ o → Tells New Key Id Num
            (option_map_or (λ (e : OpenEnd). Reply.Token new e.collection) o (Reply.Refused Refusal.NoSuchEnd))
        by None is = tt
        by (Some e) is = (fresh, (ends on e is).0)
    effect_told client (Call.AttachToken on) = by (r.end_of on) refl
      where
        -- by cases on the end
        by : (o : Option OpenEnd) → r.end_of on ≡ o → Tells New Key Id Num
            (option_map_or (λ (e : OpenEnd). Reply.Token new e.collection) o (Reply.Refused Refusal.NoSuchEnd))
        by None is = tt
        by (Some e) is = (fresh, (ends on e is).0)
    effect_told client Call.Collect = by (r.waiting client) (parcels client)
      where
        -- by cases on the end
        end : (key : NodeKey) → Key key → (o : Option OpenEnd) → r.end_of key ≡ o → Tells New Key Id Num
            (option_map_or (λ (e : OpenEnd). Reply.Collected key e.kind e.collection) o Reply.Empty)
        end key known None is = tt
        end key known (Some e) is = (known, (ends key e is).0)

        -- by the first parcel
        by : (ps : List Parcel) → ((p : Parcel) → In p ps → KnownParcel Key Id p) → Tells New Key Id Num (collected r ps)
        by [] known = tt
        by (Parcel.Handle b s ∷ more) known = known (Parcel.Handle b s) (inl refl)
        by (Parcel.End key ∷ more) known = end key (known (Parcel.End key) (inl refl)) (r.end_of key) refl
    effect_told client (Call.Check on) = by (r.end_of on)
      where
        -- by cases on the buffers
        own : (o : Option Buffers) →
            Tells New Key Id Num (option_map_or (λ (b : Buffers). Reply.Allocated b.count b.size) o Reply.Pending)
        own None = tt
        own (Some b) = tt

        -- by cases on the end
        by : (o : Option OpenEnd) → Tells New Key Id Num (option_map_or
            (λ (e : OpenEnd). option_map_or (λ (b : Buffers). Reply.Allocated b.count b.size) e.buffers Reply.Pending) o
            (Reply.Refused Refusal.NoSuchEnd))
        by None = tt
        by (Some e) = own e.buffers
    effect_told client (Call.Take on) = by (r.end_of on) refl
      where
        -- by cases on the buffers
        own : (e : OpenEnd) → Id e.collection → (o : Option Buffers) → Tells New Key Id Num
            (option_map_or (λ (b : Buffers). Reply.Taken e.collection (strength_of e.weak) (set_of e.to_open)) o Reply.Pending)
        own e known None = tt
        own e known (Some b) = known

        -- by cases on the end
        by : (o : Option OpenEnd) → r.end_of on ≡ o → Tells New Key Id Num (option_map_or
            (λ (e : OpenEnd). option_map_or (λ (b : Buffers). Reply.Taken e.collection (strength_of e.weak) (set_of e.to_open)) e.buffers
            Reply.Pending) o (Reply.Refused Refusal.NoSuchEnd))
        by None is = tt
        by (Some e) is = own e (ends on e is).0 e.buffers
    effect_told client (Call.TrackNode on) = number
    effect_told client (Call.TrackLifetime on most) = number
    effect_told client (Call.TrackWeak buffer) = number
    effect_told client _ = tt

    -- An answer tells names that are read, or new.
    pub answer_told : (limits : Bound) (client : ℕ) (call : Call) → Tells New Key Id Num (answer limits r client new call)
    answer_told limits client call =
        by (first_some (answers_first limits r client call))
        (first_told (answers_first limits r client call) (first_answers_told limits client call))
      where
        -- by cases: the first answer, or that of the effect
        by : (o : Option Reply) → Told o → Tells New Key Id Num (unwrap_or o (effect r client new call))
        by None told = effect_told client call
        by (Some reply) told = told
