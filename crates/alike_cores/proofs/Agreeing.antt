-- Only the names that cores mention make a difference.
use Rattle.alike_cores.proofs.Common.{AreAlikeCores, BufferName, Collection, Condition, Entry, Fault, Fired, HeldBuffer, In, In-map}
use Rattle.alike_cores.proofs.Common.{In-map-back, KeepsIds, List, Mixed, Node, NodeKey, None, Option, Parcel, Shows, Some, State}
use Rattle.alike_cores.proofs.Common.{Tracked, Waiting, ap, arith, buffer_renamed, client_renamed, collection_renamed, condition_renamed}
use Rattle.alike_cores.proofs.Common.{either_way, eqb-true, false, false_if, fault_renamed, given, held_renamed, inl, inr, map, map-Some}
use Rattle.alike_cores.proofs.Common.{node_renamed, node_undated, of, option_map, parcel_renamed, refl, subst, sym, total, tracked_as}
use Rattle.alike_cores.proofs.Common.{tracker_renamed, true, undated, ℕ, ◌+◌, ◌<◌, ◌==◌, ◌∙◌, ◌≡◌, ◌≤◌, ◌⊎◌}
use Rattle.sm_names.proofs.ListLaws.{map-In}
use Rattle.alike_cores.proofs.Finding.{}
use Rattle.alike_cores.proofs.Known.{KnownCollection, KnownCondition, KnownNode, KnownParcel, collection_known, condition_known}
use Rattle.alike_cores.proofs.Known.{fired_early, none_in_all, none_of, parcel_known, tracker_early}
use Rattle.alike_cores.proofs.Mixing.{In-mixed}
use Rattle.alike_cores.proofs.Moving.{number_back, number_moved, number_same, number_there}

-- A node without its date mentions what it does.
node_own : (Key : NodeKey → Type 0) (Id : ℕ → Type 0) (n : Node) → KnownNode Key Id n → KnownNode Key Id (node_undated n)
node_own Key Id n known = record {
  key = known.key;
  parent = λ p is.
      let q = map-Some (λ (k : NodeKey). k) n.parent p is in
      subst Key q.2 (known.parent q.0 q.1);
  collection = known.collection;
  head = known.head;
  fault = λ f is.
      let g = map-Some (fault_renamed (λ k. k)) n.fault f is in
      subst (λ (x : Fault). Key x.origin) g.2 (known.fault g.0 g.1);
}

-- And so does a collection.
collection_own : (Key : NodeKey → Type 0) (Id : ℕ → Type 0) (c : Collection) → KnownCollection Key Id c →
    KnownCollection Key Id (undated c)
collection_own Key Id c known = record {
  id = known.id;
  nodes = λ n there.
      let m = In-map node_undated c.nodes n there in
      subst (KnownNode Key Id) (sym m.2) (node_own Key Id m.0 (known.nodes m.0 m.1));
  held = λ h there.
      let g = In-map (held_renamed (λ i. i)) c.held h there in
      subst (λ (x : HeldBuffer). Id x.buffer.collection) (sym g.2) (known.held g.0 g.1);
}

module _ (to again : NodeKey → NodeKey) (id later : ℕ → ℕ) (Key Other : NodeKey → Type 0) (Id Next : ℕ → Type 0)
    (keys : (key : NodeKey) → Key key → Other (to key) → again key ≡ to key) (ids : (i : ℕ) → Id i → Next (id i) → later i ≡ id i) where
  -- Part by part.
  node-agrees : (n : Node) → KnownNode Key Id n → KnownNode Other Next (node_renamed to id n) →
      node_renamed again later n ≡ node_renamed to id n
  node-agrees n known new = λ i. record n {
    key = keys n.key known.key new.key i;
    parent = parent n.parent known.parent new.parent i;
    collection = ids n.collection known.collection new.collection i;
    event = 0;
    head = keys n.head known.head new.head i;
    fault = fault n.fault known.fault new.fault i;
  }
    where
      -- by cases on the parent
      parent : (o : Option NodeKey) → ((p : NodeKey) → o ≡ Some p → Key p) → ((p : NodeKey) → option_map to o ≡ Some p → Other p) →
          option_map again o ≡ option_map to o
      parent None k l = refl
      parent (Some p) k l = ap Some (keys p (k p refl) (l (to p) refl))

      -- by cases on the fault
      fault : (o : Option Fault) → ((f : Fault) → o ≡ Some f → Key f.origin) →
          ((f : Fault) → option_map (fault_renamed to) o ≡ Some f → Other f.origin) →
          option_map (fault_renamed again) o ≡ option_map (fault_renamed to) o
      fault None k l = refl
      fault (Some f) k l = λ i. Some (record f { origin = keys f.origin (k f refl) (l (fault_renamed to f) refl) i })

  -- Node by node, and buffer by buffer.
  collection-agrees : (c : Collection) → KnownCollection Key Id c → KnownCollection Other Next (collection_renamed to id c) →
      collection_renamed again later c ≡ collection_renamed to id c
  collection-agrees c known new = λ i. record {
    id = ids c.id known.id new.id i;
    nodes = map-In (node_renamed again later) (node_renamed to id) c.nodes (λ n there.
        node-agrees n (known.nodes n there) (new.nodes (node_renamed to id n) (In-map-back (node_renamed to id) c.nodes n there))) i;
    buffers = c.buffers;
    held = map-In (held_renamed later) (held_renamed id) c.held (λ h there j. record h {
      buffer = record h.buffer {
        collection = ids h.buffer.collection (known.held h there)
            (new.held (held_renamed id h) (In-map-back (held_renamed id) c.held h there)) j;
      };
    }) i;
  }

  -- By the parcel.
  parcel-agrees : (p : Parcel) → KnownParcel Key Id p → KnownParcel Other Next (parcel_renamed to id p) →
      parcel_renamed again later p ≡ parcel_renamed to id p
  parcel-agrees (Parcel.End key) known new = ap Parcel.End (keys key known new)
  parcel-agrees (Parcel.Handle buffer strength) known new =
      λ i. Parcel.Handle (record buffer { collection = ids buffer.collection known new i }) strength

  -- By the condition.
  condition-agrees : (c : Condition) → KnownCondition Key Id c → KnownCondition Other Next (condition_renamed to id c) →
      condition_renamed again later c ≡ condition_renamed to id c
  condition-agrees (Condition.Node key) known new = ap Condition.Node (keys key known new)
  condition-agrees (Condition.Lifetime key collection most) known new =
      λ i. Condition.Lifetime (keys key known.0 new.0 i) (ids collection known.1 new.1 i) most
  condition-agrees (Condition.Weak buffer) known new =
      λ i. Condition.Weak (record buffer { collection = ids buffer.collection known new i })

-- ---- cores

module _ (to again : NodeKey → NodeKey) (id number : ℕ → ℕ) (kept : KeepsIds id) (counted : KeepsIds number) (s t : State)
    (one other : List Entry) (shows : Shows s one) (shows_too : Shows t other) (alike : AreAlikeCores to id number s t)
    (keys : (key : NodeKey) → given s.forest key ≡ true → given t.forest (to key) ≡ true → again key ≡ to key) where
  -- the number of the next event becomes that of the other core
  abbrev later : ℕ → ℕ
  later = number_moved id (s.events + 1) (t.events + 1)

  -- and so for trackers
  abbrev next : ℕ → ℕ
  next = number_moved number (s.events + 1) (t.events + 1)

  -- A number up to one is not the next.
  not_next : (n most : ℕ) → n ≤ most → (n == most + 1) ≡ false
  not_next n most less = false_if (n == most + 1) (λ e. let same : n ≡ most + 1 = eqb-true n (most + 1) e in absurd (omega arith))

  -- The numbers of events keep their names.
  pub ids_agree : (i : ℕ) → i ≤ s.events → id i ≤ t.events → later i ≡ id i
  ids_agree i old new = number_same id kept (s.events + 1) (t.events + 1) i (not_next i s.events old) (not_next (id i) t.events new)

  -- And so do those of trackers.
  pub numbers_agree : (i : ℕ) → i ≤ s.events → number i ≤ t.events → next i ≡ number i
  numbers_agree i old new =
      number_same number counted (s.events + 1) (t.events + 1) i (not_next i s.events old) (not_next (number i) t.events new)

  -- What a collection mentions is mentioned by the other core.
  collection_there : (c : Collection) → In c s.forest.collections →
      KnownCollection (λ k. given t.forest k ≡ true) (λ i. i ≤ t.events) (collection_renamed to id c)
  collection_there c c_in =
      let d = In-map undated t.forest.collections (collection_renamed to id c)
      (In-mixed (map (collection_renamed to id) s.forest.collections) (map undated t.forest.collections) (collection_renamed to id c)
      alike.collections (In-map-back (collection_renamed to id) s.forest.collections c c_in)) in
      subst (KnownCollection (λ k. given t.forest k ≡ true) (λ i. i ≤ t.events)) (sym d.2)
      (collection_own (λ k. given t.forest k ≡ true) (λ i. i ≤ t.events) d.0 (collection_known t other shows_too d.0 d.1))

  -- Collection by collection.
  collections_agree : map (collection_renamed again later) s.forest.collections ≡ map (collection_renamed to id) s.forest.collections
  collections_agree = map-In (collection_renamed again later) (collection_renamed to id) s.forest.collections (λ c c_in.
      collection-agrees to again id later (λ k. given s.forest k ≡ true) (λ k. given t.forest k ≡ true) (λ i. i ≤ s.events)
      (λ i. i ≤ t.events) keys ids_agree c (collection_known s one shows c c_in) (collection_there c c_in))

  -- Client by client, and parcel by parcel.
  clients_agree : map (client_renamed again later) s.clients ≡ map (client_renamed to id) s.clients
  clients_agree = map-In (client_renamed again later) (client_renamed to id) s.clients (λ c c_in i. record c {
    waiting = map-In (parcel_renamed again later) (parcel_renamed to id) c.waiting (λ p p_in.
        parcel-agrees to again id later (λ k. given s.forest k ≡ true) (λ k. given t.forest k ≡ true) (λ j. j ≤ s.events)
        (λ j. j ≤ t.events) keys ids_agree p (parcel_known s one shows c c_in p p_in)
        (parcel_known t other shows_too (client_renamed to id c)
        (subst (In (client_renamed to id c)) (sym alike.clients) (In-map-back (client_renamed to id) s.clients c c_in))
        (parcel_renamed to id p) (In-map-back (parcel_renamed to id) c.waiting p p_in))) i;
  })

  -- Tracker by tracker.
  trackers_agree : map (λ w. tracker_renamed again later next (tracked_as w)) s.trackers.unfired
      ≡ map (λ w. tracker_renamed to id number (tracked_as w)) s.trackers.unfired
  trackers_agree = map-In (λ w. tracker_renamed again later next (tracked_as w)) (λ w. tracker_renamed to id number (tracked_as w))
      s.trackers.unfired each
    where
      -- the tracker of the other core
      there : (w : Waiting) → In w s.trackers.unfired →
          (v : Waiting) × In v t.trackers.unfired × (tracker_renamed to id number (tracked_as w) ≡ tracked_as v)
      there w w_in = In-map tracked_as t.trackers.unfired (tracker_renamed to id number (tracked_as w))
          (In-mixed (map (λ x. tracker_renamed to id number (tracked_as x)) s.trackers.unfired) (map tracked_as t.trackers.unfired)
          (tracker_renamed to id number (tracked_as w)) alike.unfired
          (In-map-back (λ x. tracker_renamed to id number (tracked_as x)) s.trackers.unfired w w_in))

      -- its number and its condition are known there
      each : (w : Waiting) → In w s.trackers.unfired →
          tracker_renamed again later next (tracked_as w) ≡ tracker_renamed to id number (tracked_as w)
      each w w_in =
          let v = there w w_in in
          λ i. record {
            id = numbers_agree w.id (tracker_early s one shows w w_in)
                (subst (λ (n : ℕ). n ≤ t.events) (sym (ap (λ (x : Tracked). x.id) v.2)) (tracker_early t other shows_too v.0 v.1)) i;
            condition = condition-agrees to again id later (λ k. given s.forest k ≡ true) (λ k. given t.forest k ≡ true)
                (λ j. j ≤ s.events) (λ j. j ≤ t.events) keys ids_agree w.condition (condition_known s one shows w w_in)
                (subst (KnownCondition (λ k. given t.forest k ≡ true) (λ j. j ≤ t.events)) (sym (ap (λ (x : Tracked). x.condition) v.2))
                (condition_known t other shows_too v.0 v.1)) i;
          }

  -- Firing by firing.
  fired_agree : map (λ (f : Fired). next f.tracker) s.trackers.fired ≡ map (λ (f : Fired). number f.tracker) s.trackers.fired
  fired_agree = map-In (λ (f : Fired). next f.tracker) (λ (f : Fired). number f.tracker) s.trackers.fired each
    where
      -- its number is known there
      each : (f : Fired) → In f s.trackers.fired → next f.tracker ≡ number f.tracker
      each f f_in =
          let g = In-map (λ (x : Fired). x.tracker) t.trackers.fired (number f.tracker)
          (In-mixed (map (λ (x : Fired). number x.tracker) s.trackers.fired) (map (λ (x : Fired). x.tracker) t.trackers.fired)
          (number f.tracker) alike.fired (In-map-back (λ (x : Fired). number x.tracker) s.trackers.fired f f_in)) in
          numbers_agree f.tracker (fired_early s one shows f f_in)
          (subst (λ (n : ℕ). n ≤ t.events) (sym g.2) (fired_early t other shows_too g.0 g.1))

  -- No handle is open on a buffer of a collection that is still to come, nor on those of the other that changes its name.
  count_agrees : (before after : BufferName → ℕ) → ((b : BufferName) → after (buffer_renamed id b) ≡ before b) →
      ((b : BufferName) → s.events < b.collection → before b ≡ 0) → ((b : BufferName) → t.events < b.collection → after b ≡ 0) →
      (b : BufferName) → after (buffer_renamed later b) ≡ before b
  count_agrees before after same none none_there b =
      by (either_way (b.collection == s.events + 1)) (either_way (id b.collection == t.events + 1))
    where
      -- the buffer, of another collection
      of_collection : ℕ → BufferName
      of_collection i = record b { collection = i }

      -- the next number is none that was
      above : (n : ℕ) → n < n + 1
      above n = omega arith

      -- by which number it is: the next of the first core, what becomes the next of the second, or any other
      by : (b.collection == s.events + 1 ≡ true) ⊎ (b.collection == s.events + 1 ≡ false) →
          (id b.collection == t.events + 1 ≡ true) ⊎ (id b.collection == t.events + 1 ≡ false) → after (buffer_renamed later b) ≡ before b
      by (inl e) more =
          let is : b.collection ≡ s.events + 1 = eqb-true b.collection (s.events + 1) e in
          ap (λ (i : ℕ). after (of_collection i)) (ap later is ∙ number_there id kept (s.events + 1) (t.events + 1))
          ∙ (none_there (of_collection (t.events + 1)) (above t.events)
          ∙ sym (none b (subst (λ (i : ℕ). s.events < i) (sym is) (above s.events))))
      by (inr e) (inl f) =
          let is : id b.collection ≡ t.events + 1 = eqb-true (id b.collection) (t.events + 1) f in
          ap (λ (i : ℕ). after (of_collection i)) (number_back id kept (s.events + 1) (t.events + 1) b.collection e is)
          ∙ (same (of_collection (s.events + 1)) ∙ (none (of_collection (s.events + 1)) (above s.events)
          ∙ (sym (none_there (buffer_renamed id b) (subst (λ (i : ℕ). t.events < i) (sym is) (above t.events))) ∙ same b)))
      by (inr e) (inr f) =
          ap (λ (i : ℕ). after (of_collection i)) (number_same id kept (s.events + 1) (t.events + 1) b.collection e f) ∙ same b

  -- the cores are alike under the other names
  pub agree : AreAlikeCores again later next s t
  agree = record {
    pool = alike.pool;
    limits = alike.limits;
    clients = alike.clients ∙ sym clients_agree;
    collections = subst (λ (l : List Collection). Mixed l (map undated t.forest.collections)) (sym collections_agree) alike.collections;
    open_of = λ client b strength. count_agrees (λ x. of s.holds client x strength) (λ x. of t.holds client x strength)
        (λ x. alike.open_of client x strength) (λ x. none_of s one shows client x strength)
        (λ x. none_of t other shows_too client x strength) b;
    total = λ b strength. count_agrees (λ x. total s.holds x strength) (λ x. total t.holds x strength)
        (λ x. alike.total x strength) (λ x. none_in_all s one shows x strength) (λ x. none_in_all t other shows_too x strength) b;
    unfired = subst (λ (l : List Tracked). Mixed l (map tracked_as t.trackers.unfired)) (sym trackers_agree) alike.unfired;
    fired = subst (λ (l : List ℕ). Mixed l (map (λ (f : Fired). f.tracker) t.trackers.fired)) (sym fired_agree) alike.fired;
  }
