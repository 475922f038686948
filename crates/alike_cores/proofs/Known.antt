-- Which names a core mentions that shows a history: those that its history made.
use Rattle.alike_cores.proofs.Common.{Bool, Bound, BufferName, Buffers, Call, Called, Client, Collection, Condition, Entry, Fault, Fired}
use Rattle.alike_cores.proofs.Common.{HandleCounts, HeldBuffer, IfSome, In, In-any, In-append, In-map, In-map-back, IsSound, List, Node}
use Rattle.alike_cores.proofs.Common.{NodeKey, None, Option, Parcel, Reply, Shows, Some, State, Strength, Tracked, Waiting, [], ap, arith}
use Rattle.alike_cores.proofs.Common.{cond, either_way, false, false≢true, filter, flat_map, given, inl, inr, is_unkept, key_told}
use Rattle.alike_cores.proofs.Common.{legal_grows, list_any, map-Some, names, not, of, option_map_or, or_right, refl, reverse}
use Rattle.alike_cores.proofs.Common.{same_buffer, same_key, same_key-refl, same_strength, some-injective, sound_of, subst, sym, timeline}
use Rattle.alike_cores.proofs.Common.{total, tracked_as, true, when, ℕ, ◌&&◌, ◌+◌, ◌<◌, ◌==◌, ◌||◌, ◌∙◌, ◌∷◌, ◌≡◌, ◌≤◌, ◌⊎◌}
use Rattle.std.proofs.Common.{is_some}
use Rattle.sm_names.specs.Answers.{IsAnswer}
use Rattle.sm_names.specs.Births.{AreSound, Birth, birth_of, births, collection_in, head, was_born}
use Rattle.sm_names.specs.Ends.{clients, is_end_of, is_handle_of, parcels}
use Rattle.sm_names.specs.Handles.{buffer_names, buffers_of, moving, open_of, open_total}
use Rattle.sm_names.specs.Losses.{fault, gone, reaches}
use Rattle.sm_names.specs.Marks.{Timeline, events}
use Rattle.sm_names.specs.Isolation.{IsOf}
use Rattle.sm_names.specs.Reading.{readings}
use Rattle.sm_names.specs.Members.{births_in}
use Rattle.sm_names.specs.Trackers.{collection_of_node, fired_at, fired_in, moments, tracked, tracked_at}
use Rattle.sm_names.specs.Words.{times}
use Rattle.sm_names.proofs.ListLaws.{In-filter, In-reverse}
use Rattle.sm_names.proofs.SamenessLaws.{and_both, same_strength-refl}
use Rattle.history_laws.proofs.AnswerLaws.{took_effect_all}
use Rattle.history_laws.proofs.BirthLaws.{birth_is, birth_was_born}
use Rattle.history_laws.proofs.CountLaws.{counted, moving_is}
use Rattle.history_laws.proofs.DoomLaws.{buffers_early}
use Rattle.history_laws.proofs.GrowthLaws.{Grows, Stays, Answers, Loses, Allocates, Ends}
use Rattle.history_laws.proofs.HandleLaws.{some_open}
use Rattle.history_laws.proofs.LifeLaws.{In_new, born_old, ordered}
use Rattle.history_laws.proofs.SettledLaws.{In-was_born}
use Rattle.event_laws.proofs.ConcernLaws.{concerned}
use Rattle.event_laws.proofs.EndEventLaws.{in_transit_born, waits_in_transit}
use Rattle.event_laws.proofs.HandleCaseLaws.{same_buffer-refl}
use Rattle.event_laws.proofs.HandleBufferLaws.{has_named, moving_named, open_named}
use Rattle.event_laws.proofs.NumberLaws.{numbered}
use Rattle.event_laws.proofs.WaitingLaws.{In-waiting}
use Rattle.core_state.specs.Shown.{client_after, collection_after, kept_ids, node_after, nodes_after}
use Rattle.core_state.proofs.nodes.Members.{of_collection}
use Rattle.core_state.proofs.theorem.OfHistory.{opened_of, out_of}
use Rattle.history_laws.proofs.SumLaws.{In-le-sum_by}

-- ---- names of nodes and collections

-- each key that the node mentions is of one kind, and the collection of the other
pub record KnownNode (Key : NodeKey → Type 0) (Id : ℕ → Type 0) (n : Node) : Type 0 where
  pub key : Key n.key
  pub parent : (p : NodeKey) → n.parent ≡ Some p → Key p
  pub collection : Id n.collection
  pub head : Key n.head
  pub fault : (f : Fault) → n.fault ≡ Some f → Key f.origin

-- and so are all names of the collection
pub record KnownCollection (Key : NodeKey → Type 0) (Id : ℕ → Type 0) (c : Collection) : Type 0 where
  pub id : Id c.id
  pub nodes : (n : Node) → In n c.nodes → KnownNode Key Id n
  pub held : (h : HeldBuffer) → In h c.held → Id h.buffer.collection

-- the names in a parcel
abbrev pub KnownParcel : (NodeKey → Type 0) → (ℕ → Type 0) → Parcel → Type 0
KnownParcel Key Id (Parcel.End key) = Key key
KnownParcel Key Id (Parcel.Handle buffer strength) = Id buffer.collection

-- ---- what a history made

-- A head is the node itself or, by induction on births, a head of an older one.
head_born : (bs : List Birth) → AreSound bs → (node : NodeKey) → was_born bs node ≡ true → was_born bs (head bs node) ≡ true
head_born [] sound node born = absurd (false≢true born)
head_born (b ∷ older) sound node born = by (either_way (same_key b.node node)) (head_born older sound.2)
  where
    -- it heads its unit itself, or its parent's head does
    up : (attached : Bool) (o : Option NodeKey) → IfSome o (λ p. was_born older p ≡ true) →
        ((k : NodeKey) → was_born older k ≡ true → was_born older (head older k) ≡ true) →
        (same_key b.node (cond attached node (option_map_or (head older) o node))
        || was_born older (cond attached node (option_map_or (head older) o node))) ≡ true
    up true o there on = born
    up false None there on = born
    up false (Some p) there on = or_right (same_key b.node (head older p)) _ (on p there)

    -- by cases: it is this birth's, or an older one's
    by : (same_key b.node node ≡ true) ⊎ (same_key b.node node ≡ false) →
        ((k : NodeKey) → was_born older k ≡ true → was_born older (head older k) ≡ true) →
        was_born (b ∷ older) (head (b ∷ older) node) ≡ true
    by (inl same) on =
        let is : head (b ∷ older) node ≡ cond b.attached node (option_map_or (head older) b.parent node) = rw same refl in
        subst (λ (k : NodeKey). was_born (b ∷ older) k ≡ true) (sym is) (up b.attached b.parent sound.1 on)
    by (inr other) on =
        let old : was_born older node ≡ true = rw other at born in
        let is : head (b ∷ older) node ≡ head older node = rw other refl in
        subst (λ (k : NodeKey). was_born (b ∷ older) k ≡ true) (sym is) (or_right (same_key b.node (head older node)) _ (on node old))

-- The origin of a fault is the node of a loss, which was born.
fault_born : (pool : ℕ) (limits : Bound) (marks : Timeline) → Grows pool limits [] marks → (node : NodeKey) (f : Fault) →
    fault marks node ≡ Some f → was_born (births marks) f.origin ≡ true
fault_born pool limits _ Stays node f is = cc
fault_born pool limits _ (Answers before client reply call g answer) node f is =
    born_old _ (births before) f.origin (fault_born pool limits before g node f is)
fault_born pool limits _ (Allocates before collection top g e) node f is = fault_born pool limits before g node f is
fault_born pool limits _ (Ends before collection top g e) node f is = fault_born pool limits before g node f is
fault_born pool limits _ (Loses before origin cause g born) node f is =
    by (reaches before origin node) (gone before node) is (fault_born pool limits before g node f)
  where
    -- by cases: it fails by this loss, or failed before
    by : (a b : Bool) →
        option_map_or Some (when (a && not b) (record { cause = cause; origin = origin })) (fault before node) ≡ Some f →
        (fault before node ≡ Some f → was_born (births before) f.origin ≡ true) → was_born (births before) f.origin ≡ true
    by true false now earlier = subst (λ (x : Fault). was_born (births before) x.origin ≡ true)
        (some-injective (record { cause = cause; origin = origin }) f now) born
    by true true now earlier = earlier now
    by false b now earlier = earlier now

-- And one that passes to a count.
times_at : {A : Type 0} (p : A → Bool) (xs : List A) (x : A) → In x xs → p x ≡ true → 0 < times p xs
times_at p [] x there pass = absurd there
times_at p (y ∷ ys) x (inl is) pass = let here : p y ≡ true = ap p (sym is) ∙ pass in rw here (omega arith)
times_at p (y ∷ ys) x (inr on) pass =
    let rest : 0 < times p ys = times_at p ys x on pass in
    elim (p y) as (λ (b : Bool). 0 < cond b (times p ys + 1) (times p ys)) [ true ↦ omega arith | false ↦ rest ]

-- An element stands in one of the parts.
pub In-flat : {A B : Type 0} (f : A → List B) (xs : List A) (y : B) → In y (flat_map f xs) → (x : A) × In x xs × In y (f x)
In-flat f [] y there = absurd there
In-flat f (x ∷ xs) y there = elim (In-append (f x) (flat_map f xs) y there) [
  | inl here ↦ (x, inl refl, here)
  | inr on ↦ let more = In-flat f xs y on in (more.0, inr more.1, more.2)
]

-- A buffer that has a name is of a collection that an event made.
has_name_early : (pool : ℕ) (limits : Bound) (marks : Timeline) → Grows pool limits [] marks → (buffer : BufferName) →
    list_any (λ name. same_buffer name buffer) (buffer_names marks buffer.collection) ≡ true → buffer.collection ≤ events marks
has_name_early pool limits marks g buffer named =
    buffers_early pool limits marks g buffer.collection (by (buffers_of marks buffer.collection) named)
  where
    -- by cases: without buffers none has a name
    by : (o : Option Buffers) →
        list_any (λ name. same_buffer name buffer) (option_map_or (λ (b : Buffers). names buffer.collection b.count) o []) ≡ true →
        is_some o ≡ true
    by None named = absurd (false≢true named)
    by (Some b) named = refl

-- A tracker on a buffer was made by a client that had a handle of it.
weak_early : (pool : ℕ) (limits : Bound) (marks : Timeline) → Grows pool limits [] marks → (t : Tracked) → In t (tracked marks) →
    (buffer : BufferName) → t.condition ≡ Condition.Weak buffer → buffer.collection ≤ events marks
weak_early pool limits _ Stays t there buffer is = absurd there
weak_early pool limits _ (Loses before origin cause g born) t there buffer is = weak_early pool limits before g t there buffer is
weak_early pool limits _ (Allocates before collection top g e) t there buffer is = weak_early pool limits before g t there buffer is
weak_early pool limits _ (Ends before collection top g e) t there buffer is = weak_early pool limits before g t there buffer is
weak_early pool limits _ (Answers before client reply call g answer) t there buffer is =
    by (In_new (tracked_at before (Called client reply call)) (tracked before) t there) (weak_early pool limits before g t)
  where
    -- a tracker is made by one of three calls
    made : (r : Reply) (c : Call) → IsAnswer limits (readings before) client c r → tracked_at before (Called client r c) ≡ Some t →
        buffer.collection ≤ events before
    made (Reply.Tracker id) (Call.TrackNode key) a e =
        let other : Condition.Node key ≡ Condition.Weak buffer = ap (λ (x : Tracked). x.condition) (some-injective _ t e) ∙ is in cc
    made (Reply.Tracker id) (Call.TrackLifetime key most) a e =
        let other : Condition.Lifetime key (collection_of_node before key) most ≡ Condition.Weak buffer =
        ap (λ (x : Tracked). x.condition) (some-injective _ t e) ∙ is in
        cc
    made (Reply.Tracker id) (Call.TrackWeak name) a e =
        let same : Condition.Weak name ≡ Condition.Weak buffer = ap (λ (x : Tracked). x.condition) (some-injective _ t e) ∙ is in
        let one : name ≡ buffer = cc in
        let all = took_effect_all limits (readings before) client (key_told (Reply.Tracker id)) (Call.TrackWeak name) (Reply.Tracker id)
        refl refl a.told in
        subst (λ (b : BufferName). b.collection ≤ events before) one
        (has_name_early pool limits before g name (has_named pool limits before g client name Strength.Weak
        (some_open (open_of before client name Strength.Weak) all.has_handle)))
    made _ _ a e = cc

    -- by cases: it is made now, or was made before
    by : (tracked_at before (Called client reply call) ≡ Some t) ⊎ In t (tracked before) →
        (In t (tracked before) → (b : BufferName) → t.condition ≡ Condition.Weak b → b.collection ≤ events before) →
        buffer.collection ≤ events before + 1
    by (inl now) earlier = let less : buffer.collection ≤ events before = made reply call answer now in omega arith
    by (inr old) earlier = let less : buffer.collection ≤ events before = earlier old buffer is in omega arith

-- the names in a condition
abbrev pub KnownCondition : (NodeKey → Type 0) → (ℕ → Type 0) → Condition → Type 0
KnownCondition Key Id (Condition.Node key) = Key key
KnownCondition Key Id (Condition.Lifetime key collection most) = Key key × Id collection
KnownCondition Key Id (Condition.Weak buffer) = Id buffer.collection

module _ (s : State) (history : List Entry) (shows : Shows s history) where
  abbrev marks : Timeline
  marks = timeline s.pool history

  -- the marks grew from nothing
  grown : Grows s.pool s.limits [] marks
  grown = legal_grows s.pool s.limits history shows.legal

  -- a node that was born has a key that was given
  abbrev IsKey : NodeKey → Type 0
  IsKey key = given s.forest key ≡ true

  -- a collection has the number of an event
  abbrev IsId : ℕ → Type 0
  IsId id = id ≤ s.events

  -- the forest is sound
  pub sound : IsSound s.forest
  sound = sound_of s marks shows.shown s.limits grown

  -- A number of an event is one of those that the core counts.
  early : (n : ℕ) → n ≤ events marks → n ≤ s.events
  early n less = subst (λ (k : ℕ). n ≤ k) (sym shows.shown.events) less

  -- ---- nodes

  -- A node is that of a birth.
  born_of : (c : Collection) → In c s.forest.collections → (n : Node) → In n c.nodes → (b : Birth) × In b (births marks) ×
      (n ≡ node_after marks b)
  born_of c c_in n n_in =
      let k = In-map (collection_after s.pool marks) (kept_ids marks) c (subst (In c) shows.shown.collections c_in) in
      let f = In-filter (λ x. not (is_unkept x)) (nodes_after marks k.0) n (subst (λ (x : Collection). In n x.nodes) k.2 n_in) in
      let b = In-map (node_after marks) (births_in marks k.0) n f.0 in
      (b.0, (of_collection marks k.0 b.0 b.1).0, b.2)

  -- All keys that it mentions were born.
  node_known : (c : Collection) → In c s.forest.collections → (n : Node) → In n c.nodes → KnownNode IsKey IsId n
  node_known c c_in n n_in = subst (KnownNode IsKey IsId) (sym b.2) (record {
    key = shows.shown.given b.0.node (In-was_born (births marks) b.0 b.1);
    parent = λ p is.
        let q = (ordered s.pool s.limits marks grown).parents b.0 b.1 p is in
        shows.shown.given p (subst (λ (k : NodeKey). was_born (births marks) k ≡ true) q.2 (In-was_born (births marks) q.0 q.1));
    collection = early b.0.collection ((ordered s.pool s.limits marks grown).early b.0 b.1);
    head = shows.shown.given (head (births marks) b.0.node)
        (head_born (births marks) (ordered s.pool s.limits marks grown).sound b.0.node (In-was_born (births marks) b.0 b.1));
    fault = λ f is. shows.shown.given f.origin (fault_born s.pool s.limits marks grown b.0.node f is);
  })
    where
      b : (b : Birth) × In b (births marks) × (n ≡ node_after marks b)
      b = born_of c c_in n n_in

  -- A collection has a number of an event, and so has that of each of its buffers.
  pub collection_known : (c : Collection) → In c s.forest.collections → KnownCollection IsKey IsId c
  collection_known c c_in = record {
    id = opened_of s marks shows.shown s.limits grown c c_in;
    nodes = node_known c c_in;
    held = λ h h_in. subst IsId (sym (out_of s marks shows.shown s.limits grown c c_in h h_in).0)
        (opened_of s marks shows.shown s.limits grown c c_in);
  }

  -- ---- handles

  -- A buffer that has a name is of a collection that an event made.
  named_early : (buffer : BufferName) → list_any (λ name. same_buffer name buffer) (buffer_names marks buffer.collection) ≡ true →
      IsId buffer.collection
  named_early buffer named = early buffer.collection (has_name_early s.pool s.limits marks grown buffer named)

  -- A client has no handle of a later collection.
  pub none_of : (client : ℕ) (buffer : BufferName) (strength : Strength) → s.events < buffer.collection →
      of s.holds client buffer strength ≡ 0
  none_of client buffer strength later = ap (λ (h : HandleCounts). h.of client buffer strength) shows.shown.handles
      ∙ by (open_of marks client buffer strength) (λ some.
      let old : buffer.collection ≤ s.events = named_early buffer (has_named s.pool s.limits marks grown client buffer strength some) in
      absurd (omega (arith, old, later)))
    where
      -- a number that is not positive is 0
      by : (n : ℕ) → (0 < n → ⊥) → n ≡ 0
      by n not_some = omega (arith, not_some)

  -- Nor has anyone.
  pub none_in_all : (buffer : BufferName) (strength : Strength) → s.events < buffer.collection → total s.holds buffer strength ≡ 0
  none_in_all buffer strength later = ap (λ (h : HandleCounts). h.total buffer strength) shows.shown.handles
      ∙ by (open_total marks buffer strength) (λ some.
      let old : buffer.collection ≤ s.events = named_early buffer (open_named s.pool s.limits marks grown buffer strength some) in
      absurd (omega (arith, old, later)))
    where
      -- a number that is not positive is 0
      by : (n : ℕ) → (0 < n → ⊥) → n ≡ 0
      by n not_some = omega (arith, not_some)

  -- ---- parcels

  -- A parcel has the end of a node that was born, or a handle of a buffer.
  pub parcel_known : (c : Client) → In c s.clients → (p : Parcel) → In p c.waiting → KnownParcel IsKey IsId p
  parcel_known c c_in p p_in = by p (subst (λ (x : Client). In p x.waiting) client.2 p_in)
    where
      -- it is the client of a Join
      client : (k : ℕ) × In k (reverse (clients marks)) × (c ≡ client_after marks k)
      client = In-map (client_after marks) (reverse (clients marks)) c (subst (In c) shows.shown.clients c_in)

      -- by the parcel
      by : (q : Parcel) → In q (parcels marks client.0) → KnownParcel IsKey IsId q
      by (Parcel.End key) there = shows.shown.given key (in_transit_born s.pool s.limits marks grown key
          (waits_in_transit s.pool s.limits marks grown key client.0
          (In-any (is_end_of key) (parcels marks client.0) (Parcel.End key) there (same_key-refl key))))
      by (Parcel.Handle buffer strength) there =
          let one : 0 < times (is_handle_of buffer strength) (parcels marks client.0) =
          times_at (is_handle_of buffer strength) (parcels marks client.0) (Parcel.Handle buffer strength) there
          (same_handle buffer strength) in
          let all = In-le-sum_by (λ k. times (is_handle_of buffer strength) (parcels marks k)) (clients marks) client.0
          (In-reverse (clients marks) client.0 client.1) in
          let some : 0 < moving marks buffer strength =
          omega (arith, one, all, moving_is marks (counted s.pool s.limits marks grown) buffer strength) in
          named_early buffer (moving_named s.pool s.limits marks grown buffer strength some)
        where
          -- a handle is itself
          same_handle : (b : BufferName) (st : Strength) → is_handle_of b st (Parcel.Handle b st) ≡ true
          same_handle b st = and_both (same_buffer b b) (same_strength st st) (same_buffer-refl b) (same_strength-refl st)

  -- ---- trackers

  -- A tracker that waits has the number of an event.
  pub tracker_early : (w : Waiting) → In w s.trackers.unfired → w.id ≤ s.events
  tracker_early w there =
      let on = subst (In (tracked_as w)) shows.shown.trackers.waiting (In-map-back tracked_as s.trackers.unfired w there) in
      early w.id ((numbered s.pool s.limits marks grown).early (tracked_as w) (In-waiting marks (tracked_as w) on).0)

  -- And so has one that fired.
  pub fired_early : (f : Fired) → In f s.trackers.fired → f.tracker ≤ s.events
  fired_early f there =
      let part = In-flat (λ moment. fired_in marks (events moment)) (reverse (moments marks)) f
      (subst (In f) shows.shown.trackers.fired there) in
      let t = In-map (λ (t : Tracked). record { tracker = t.id; event = events part.0 })
      (filter (λ t. option_map_or (λ e. e == events part.0) (fired_at marks t) false) (reverse (tracked marks))) f part.2 in
      let kept = In-filter (λ t. option_map_or (λ e. e == events part.0) (fired_at marks t) false) (reverse (tracked marks)) t.0 t.1 in
      subst (λ (n : ℕ). n ≤ s.events) (sym (ap (λ (g : Fired). g.tracker) t.2))
      (early t.0.id ((numbered s.pool s.limits marks grown).early t.0 (In-reverse (tracked marks) t.0 kept.0)))

  -- A node that stands in a collection was born, and the collection was made.
  in_known : (key : NodeKey) (collection : ℕ) → collection_in (births marks) key ≡ Some collection → IsKey key × IsId collection
  in_known key collection is =
      let b = map-Some (λ (b : Birth). b.collection) (birth_of marks key) collection is in
      let found = birth_is marks key b.0 b.1 in (
        shows.shown.given key (birth_was_born marks key b.0 b.1),
        subst IsId b.2 (early b.0.collection ((ordered s.pool s.limits marks grown).early b.0 found.0)),
      )

  -- What a tracker waits for is on a node, a collection or a buffer that was made.
  pub condition_known : (w : Waiting) → In w s.trackers.unfired → KnownCondition IsKey IsId w.condition
  condition_known w there = by w.condition refl of_one.1
    where
      -- it was made
      on : In (tracked_as w) (tracked marks)
      on = (In-waiting marks (tracked_as w)
          (subst (In (tracked_as w)) shows.shown.trackers.waiting (In-map-back tracked_as s.trackers.unfired w there))).0

      -- and is on one collection
      of_one : (collection : ℕ) × IsOf marks collection w.condition
      of_one = concerned s.pool s.limits marks grown (tracked_as w) on

      -- by the condition
      by : (c : Condition) → w.condition ≡ c → IsOf marks of_one.0 c → KnownCondition IsKey IsId c
      by (Condition.Node key) is h = (in_known key of_one.0 h).0
      by (Condition.Lifetime key collection most) is h =
          let k = in_known key of_one.0 h.1 in
          (k.0, subst IsId (sym h.0) k.1)
      by (Condition.Weak buffer) is h =
          early buffer.collection (weak_early s.pool s.limits marks grown (tracked_as w) on buffer is)
