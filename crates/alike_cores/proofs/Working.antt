-- What an event changes in cores that are alike.
use Rattle.alike_cores.proofs.Common.{AreAlikeCores, Bool, BufferName, Call, Cause, Change, Collection, Condition, Effect, KeepsIds}
use Rattle.alike_cores.proofs.Common.{KeepsKeys, Node, NodeKey, None, Option, Reply, Some, State, Strength, Tracked, Work, [], ap}
use Rattle.alike_cores.proofs.Common.{birth_by, buffer_renamed, call_renamed, change_renamed, collection_at, collection_or_new}
use Rattle.alike_cores.proofs.Common.{collection_renamed, cond, false, key_of, nat_le, node_at, node_renamed, node_undated}
use Rattle.alike_cores.proofs.Common.{option_and_then, option_map, refl, reply_renamed, sym, total, tracked_as, tracker_by}
use Rattle.alike_cores.proofs.Common.{tracker_renamed, true, undated, unwrap_or, work_of, ℕ, ◌∙◌, ◌≡◌}
use Rattle.forest_store.specs.Effects.{effect_of}
use Rattle.core_state.specs.Steps.{at_collection, at_node, done_to, drop_at, effect_at, loss_at}
use Rattle.alike_cores.proofs.Answering.{key-renamed}
use Rattle.alike_cores.proofs.Finding.{AreApart, found_collection, found_node}
use Rattle.alike_cores.proofs.FoundAlike.{read-alike, read_then-alike}

-- the change under new names, to the collection of the new id
abbrev pub work_renamed : (NodeKey → NodeKey) → (ℕ → ℕ) → Work → Work
work_renamed to id w = record { collection = id w.collection; change = change_renamed to w.change }

-- the change under its own names, without the number of its event
abbrev pub work_undated : Work → Work
work_undated w = work_renamed (λ key. key) (λ id. id) w

module _ (to : NodeKey → NodeKey) (id number : ℕ → ℕ) (keeps : KeepsKeys to) (ids : KeepsIds id) (s t : State)
    (alike : AreAlikeCores to id number s t) (apart : AreApart s.forest.collections) where
  -- the node of the new key is the renamed one
  node_there : (key : NodeKey) → option_map node_undated (node_at t.forest (to key))
      ≡ option_map (node_renamed to id) (node_at s.forest key)
  node_there key = found_node to id keeps ids s.forest.collections t.forest.collections alike.collections apart key

  -- the collection of the new id is the renamed one
  collection_there : (i : ℕ) → option_map undated (collection_at t.forest (id i))
      ≡ option_map (collection_renamed to id) (collection_at s.forest i)
  collection_there i = found_collection to id keeps ids s.forest.collections t.forest.collections alike.collections apart i

  -- A change to the collection of the node that is found.
  at_node-alike : (key : NodeKey) (one other : Change) → change_renamed to one ≡ change_renamed (λ k. k) other →
      option_map work_undated (at_node t.forest (to key) (λ n. other))
      ≡ option_map (work_renamed to id) (at_node s.forest key (λ n. one))
  at_node-alike key one other same =
      left (node_at t.forest (to key))
      ∙ (read-alike node_undated (node_renamed to id) read (node_at t.forest (to key)) (node_at s.forest key) (node_there key)
      ∙ right (node_at s.forest key))
    where
      read : Node → Work
      read n = record { collection = n.collection; change = change_renamed to one }

      -- by cases on the node
      left : (o : Option Node) → option_map work_undated (option_map (λ (n : Node). record { collection = n.collection; change = other }) o)
          ≡ option_map (λ n. read (node_undated n)) o
      left None = refl
      left (Some n) = λ i. Some (record { collection = n.collection; change = sym same i })

      -- by cases on the node
      right : (o : Option Node) → option_map (λ n. read (node_renamed to id n)) o
          ≡ option_map (work_renamed to id) (option_map (λ (n : Node). record { collection = n.collection; change = one }) o)
      right None = refl
      right (Some n) = refl

  -- A loss of the node that is found, unless it is gone.
  loss-alike : (key : NodeKey) (cause : Cause) →
      option_map work_undated (loss_at t.forest (to key) cause) ≡ option_map (work_renamed to id) (loss_at s.forest key cause)
  loss-alike key cause =
      left (node_at t.forest (to key))
      ∙ (read_then-alike node_undated (node_renamed to id) read (node_at t.forest (to key)) (node_at s.forest key) (node_there key)
      ∙ right (node_at s.forest key))
    where
      read : Node → Option Work
      read n = cond n.gone None (Some (record { collection = n.collection; change = Change.Loss (to key) cause }))

      -- by cases on whether it is gone
      own : (n : Node) (b : Bool) →
          option_map work_undated (cond b None (Some (record { collection = n.collection; change = Change.Loss (to key) cause })))
          ≡ cond b None (Some (record { collection = n.collection; change = Change.Loss (to key) cause }))
      own n true = refl
      own n false = refl

      -- by cases on whether it is gone
      new : (n : Node) (b : Bool) →
          cond b None (Some (record { collection = id n.collection; change = Change.Loss (to key) cause }))
          ≡ option_map (work_renamed to id) (cond b None (Some (record { collection = n.collection; change = Change.Loss key cause })))
      new n true = refl
      new n false = refl

      -- by cases on the node
      left : (o : Option Node) → option_map work_undated (option_and_then
          (λ (n : Node). cond n.gone None (Some (record { collection = n.collection; change = Change.Loss (to key) cause }))) o)
          ≡ option_and_then (λ n. read (node_undated n)) o
      left None = refl
      left (Some n) = own n n.gone

      -- by cases on the node
      right : (o : Option Node) → option_and_then (λ n. read (node_renamed to id n)) o
          ≡ option_map (work_renamed to id) (option_and_then
          (λ (n : Node). cond n.gone None (Some (record { collection = n.collection; change = Change.Loss key cause }))) o)
      right None = refl
      right (Some n) = new n n.gone

  -- A drop of the last handle touches the collection that is found.
  drop-alike : (b : BufferName) (strength : Strength) →
      option_map work_undated (drop_at t (buffer_renamed id b) strength) ≡ option_map (work_renamed to id) (drop_at s b strength)
  drop-alike b strength =
      ap (λ (n : ℕ). option_map work_undated (cond (nat_le 2 n) None (at_collection t.forest (id b.collection) Change.Nothing)))
      (alike.total b strength)
      ∙ from (nat_le 2 (total s.holds b strength))
    where
      read : Collection → Work
      read c = record { collection = id b.collection; change = Change.Nothing }

      -- by cases on the collection
      left : (o : Option Collection) →
          option_map work_undated (option_map (λ (c : Collection). record { collection = id b.collection; change = Change.Nothing }) o)
          ≡ option_map (λ c. read (undated c)) o
      left None = refl
      left (Some c) = refl

      -- by cases on the collection
      right : (o : Option Collection) → option_map (λ c. read (collection_renamed to id c)) o
          ≡ option_map (work_renamed to id)
          (option_map (λ (c : Collection). record { collection = b.collection; change = Change.Nothing }) o)
      right None = refl
      right (Some c) = refl

      -- by cases on whether another handle stays open
      from : (more : Bool) →
          option_map work_undated (cond more None (at_collection t.forest (id b.collection) Change.Nothing))
          ≡ option_map (work_renamed to id) (cond more None (at_collection s.forest b.collection Change.Nothing))
      from true = refl
      from false =
          left (collection_at t.forest (id b.collection))
          ∙ (read-alike undated (collection_renamed to id) read (collection_at t.forest (id b.collection))
          (collection_at s.forest b.collection) (collection_there b.collection)
          ∙ right (collection_at s.forest b.collection))

  -- An effect is made on the node that is found.
  effect-alike : (call : Call) (reply again : Reply) →
      effect_of (call_renamed to id call) again ≡ option_map (λ (e : NodeKey × Effect). (to e.0, e.1)) (effect_of call reply) →
      option_map work_undated (effect_at t.forest (call_renamed to id call) again)
      ≡ option_map (work_renamed to id) (effect_at s.forest call reply)
  effect-alike call reply again same =
      ap (λ (o : Option (NodeKey × Effect)). option_map work_undated
      (option_and_then (λ (e : NodeKey × Effect). at_node t.forest e.0 (λ n. Change.Effect e.0 e.1)) o)) same
      ∙ from (effect_of call reply)
    where
      -- by cases on the effect
      from : (o : Option (NodeKey × Effect)) → option_map work_undated
          (option_and_then (λ (e : NodeKey × Effect). at_node t.forest e.0 (λ n. Change.Effect e.0 e.1))
          (option_map (λ (e : NodeKey × Effect). (to e.0, e.1)) o))
          ≡ option_map (work_renamed to id)
          (option_and_then (λ (e : NodeKey × Effect). at_node s.forest e.0 (λ n. Change.Effect e.0 e.1)) o)
      from None = refl
      from (Some e) = at_node-alike e.0 (Change.Effect e.0 e.1) (Change.Effect (to e.0) e.1) refl

  -- By the call.
  done_effect : (call : Call) →
      effect_of (call_renamed to id call) Reply.Done ≡ option_map (λ (e : NodeKey × Effect). (to e.0, e.1)) (effect_of call Reply.Done)
  done_effect Call.Join = refl
  done_effect _ = refl

  -- By the call.
  taken_effect : (call : Call) (collection : ℕ) (strength : Strength) (set : ℕ) →
      effect_of (call_renamed to id call) (Reply.Taken (id collection) strength set)
      ≡ option_map (λ (e : NodeKey × Effect). (to e.0, e.1)) (effect_of call (Reply.Taken collection strength set))
  taken_effect Call.Join collection strength set = refl
  taken_effect _ collection strength set = refl

  -- By the call.
  tracked_effect : (call : Call) (tracker : ℕ) →
      effect_of (call_renamed to id call) (Reply.Tracker (number tracker))
      ≡ option_map (λ (e : NodeKey × Effect). (to e.0, e.1)) (effect_of call (Reply.Tracker tracker))
  tracked_effect Call.Join tracker = refl
  tracked_effect _ tracker = refl

  -- By the call: no other makes a node.
  birth-alike : (client : ℕ) (call : Call) (collection : ℕ) →
      option_map work_undated (birth_by t client (call_renamed to id call) (id collection))
      ≡ option_map (work_renamed to id) (birth_by s client call collection)
  birth-alike client Call.OpenRoot collection = refl
  birth-alike client _ collection = refl

  -- By the call: it loses its node, drops a handle, or has an effect.
  done-alike : (call : Call) →
      option_map work_undated (done_to t (call_renamed to id call)) ≡ option_map (work_renamed to id) (done_to s call)
  done-alike (Call.Close key) = loss-alike key Cause.Lost
  done-alike (Call.DropHandle buffer strength) = drop-alike buffer strength
  done-alike call = effect-alike call Reply.Done Reply.Done (done_effect call)

  -- By the reply: the same is changed, under new names.
  pub work-alike : (client : ℕ) (call : Call) (reply : Reply) →
      option_map work_undated (work_of t client (call_renamed to id call) (reply_renamed to id number reply))
      ≡ option_map (work_renamed to id) (work_of s client call reply)
  work-alike client call (Reply.Token key collection) = birth-alike client call collection
  work-alike client call Reply.Done = done-alike call
  work-alike client call (Reply.Taken collection strength set) =
      effect-alike call (Reply.Taken collection strength set) (Reply.Taken (id collection) strength set)
      (taken_effect call collection strength set)
  work-alike client call (Reply.Tracker tracker) =
      effect-alike call (Reply.Tracker tracker) (Reply.Tracker (number tracker)) (tracked_effect call tracker)
  work-alike client call (Reply.Misused misuse) =
      ap (λ (o : Option NodeKey). option_map work_undated
      (option_and_then (λ key. at_node t.forest key (λ n. Change.Loss key (Cause.Misused misuse))) o)) (key-renamed to id call)
      ∙ from (key_of call)
    where
      -- by cases on the node that the call names
      from : (o : Option NodeKey) → option_map work_undated
          (option_and_then (λ key. at_node t.forest key (λ n. Change.Loss key (Cause.Misused misuse))) (option_map to o))
          ≡ option_map (work_renamed to id)
          (option_and_then (λ key. at_node s.forest key (λ n. Change.Loss key (Cause.Misused misuse))) o)
      from None = refl
      from (Some key) = at_node-alike key (Change.Loss key (Cause.Misused misuse)) (Change.Loss (to key) (Cause.Misused misuse)) refl
  work-alike client call _ = refl

  -- The change is made to the collection that is found, or to a new one.
  pub start-alike : (i : ℕ) → collection_renamed to id (collection_or_new s.forest i) ≡ undated (collection_or_new t.forest (id i))
  start-alike i = new (collection_at s.forest i)
      ∙ (ap (λ (o : Option Collection). unwrap_or o (record { id = id i; nodes = []; buffers = None; held = [] }))
      (sym (collection_there i))
      ∙ own (collection_at t.forest (id i)))
    where
      -- by cases on the collection
      new : (o : Option Collection) →
          collection_renamed to id (unwrap_or o (record { id = i; nodes = []; buffers = None; held = [] }))
          ≡ unwrap_or (option_map (collection_renamed to id) o) (record { id = id i; nodes = []; buffers = None; held = [] })
      new None = refl
      new (Some c) = refl

      -- by cases on the collection
      own : (o : Option Collection) →
          unwrap_or (option_map undated o) (record { id = id i; nodes = []; buffers = None; held = [] })
          ≡ undated (unwrap_or o (record { id = id i; nodes = []; buffers = None; held = [] }))
      own None = refl
      own (Some c) = refl

  -- By the call and the reply: what the tracker waits for is on the node that is found.
  pub tracker-alike : (call : Call) (reply : Reply) →
      option_map tracked_as (tracker_by t.forest (call_renamed to id call) (reply_renamed to id number reply))
      ≡ option_map (λ w. tracker_renamed to id number (tracked_as w)) (tracker_by s.forest call reply)
  tracker-alike (Call.TrackNode key) (Reply.Tracker tracker) =
      left (node_at t.forest (to key))
      ∙ (read-alike node_undated (node_renamed to id) read (node_at t.forest (to key)) (node_at s.forest key) (node_there key)
      ∙ right (node_at s.forest key))
    where
      read : Node → Tracked
      read n = record { id = number tracker; condition = Condition.Node (to key) }

      -- by cases on the node
      left : (o : Option Node) → option_map tracked_as
          (option_map (λ (n : Node). record { id = number tracker; collection = n.collection; condition = Condition.Node (to key) }) o)
          ≡ option_map (λ n. read (node_undated n)) o
      left None = refl
      left (Some n) = refl

      -- by cases on the node
      right : (o : Option Node) → option_map (λ n. read (node_renamed to id n)) o
          ≡ option_map (λ w. tracker_renamed to id number (tracked_as w))
          (option_map (λ (n : Node). record { id = tracker; collection = n.collection; condition = Condition.Node key }) o)
      right None = refl
      right (Some n) = refl
  tracker-alike (Call.TrackLifetime key most) (Reply.Tracker tracker) =
      left (node_at t.forest (to key))
      ∙ (read-alike node_undated (node_renamed to id) read (node_at t.forest (to key)) (node_at s.forest key) (node_there key)
      ∙ right (node_at s.forest key))
    where
      read : Node → Tracked
      read n = record { id = number tracker; condition = Condition.Lifetime (to key) n.collection most }

      -- by cases on the node
      left : (o : Option Node) → option_map tracked_as (option_map
          (λ (n : Node). record {
            id = number tracker;
            collection = n.collection;
            condition = Condition.Lifetime (to key) n.collection most;
          }) o)
          ≡ option_map (λ n. read (node_undated n)) o
      left None = refl
      left (Some n) = refl

      -- by cases on the node
      right : (o : Option Node) → option_map (λ n. read (node_renamed to id n)) o
          ≡ option_map (λ w. tracker_renamed to id number (tracked_as w)) (option_map
          (λ (n : Node). record { id = tracker; collection = n.collection; condition = Condition.Lifetime key n.collection most }) o)
      right None = refl
      right (Some n) = refl
  tracker-alike (Call.TrackWeak buffer) (Reply.Tracker tracker) = refl
  tracker-alike _ _ = refl
