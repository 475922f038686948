-- What a birth makes of the nodes of a collection.
use Rattle.core_state.proofs.Common.{Birth, Bool, Bound, Call, Called, End, Grows, In, In-filter, In-reverse, In-was_born, List, Mark}
use Rattle.core_state.proofs.Common.{Node, NodeKey, None, Option, Reply, Some, Timeline, [], allocated, ap, birth_at, births, births_in}
use Rattle.core_state.proofs.Common.{collector, covered, covers_children, end_after, end_at, eq-eqb, events, false, filter, holder}
use Rattle.core_state.proofs.Common.{in_transit, is_allocation, list_any, map, map-In, map-append, new_child, new_root, node_after}
use Rattle.core_state.proofs.Common.{nodes_after, option_map, option_map_or, or_false, other_key, refl, reverse-append, same_key}
use Rattle.core_state.proofs.Common.{same_key-refl, sets_weak, sets_weak_ok, spent, subst, true, was_born, weak, ℕ, ◌++◌, ◌+◌, ◌==◌, ◌||◌}
use Rattle.core_state.proofs.Common.{◌∙◌, ◌∷◌, ◌≡◌}
use Rattle.sm_names.specs.Births.{head}
use Rattle.sm_names.specs.Ends.{binds}
use Rattle.core_state.proofs.nodes.Unborn.{IsUnsaid, unsaid}

-- ---- the nodes that were there

-- of which event a birth is makes no difference to the rest of it
birth_at_any : (event : ℕ) (mark : Mark) → birth_at 0 mark ≡ option_map (λ (b : Birth). record b { event = 0 }) (birth_at event mark)
birth_at_any event (Called client (Reply.Token key collection) Call.OpenRoot) = refl
birth_at_any event (Called client (Reply.Token key collection) (Call.Duplicate parent)) = refl
birth_at_any event (Called client (Reply.Token key collection) (Call.AttachToken parent)) = refl
birth_at_any event _ = refl

-- a birth changes no other node
pub old_node : (marks : Timeline) (client : ℕ) (reply : Reply) (call : Call) (b x : Birth) →
    birth_at (events marks + 1) (Called client reply call) ≡ Some b → same_key b.node x.node ≡ false →
    node_after (Called client reply call ∷ marks) x ≡ node_after marks x
old_node marks client (Reply.Token key collection) call b x h other =
    let mark : Mark = Called client (Reply.Token key collection) call in
    let first : birth_at 0 mark ≡ Some (record b { event = 0 }) =
    birth_at_any (events marks + 1) mark ∙ ap (option_map (λ (c : Birth). record c { event = 0 })) h in
    let heads : head (births (mark ∷ marks)) x.node ≡ head (births marks) x.node = rw (h, other) refl in
    let allocates : allocated (mark ∷ marks) x.node ≡ allocated marks x.node = ap (λ (k : NodeKey). list_any (is_allocation k) marks)
    heads in
    rw (h, first, other) (λ i. record (node_after marks x) { allocated = allocates i })
old_node marks client reply call b x h other = cc

-- ---- the new one

module _ (pool : ℕ) (limits : Bound) (marks : Timeline) (grown : Grows pool limits [] marks) (client : ℕ) (key : NodeKey) (collection : ℕ)
    (fresh : was_born (births marks) key ≡ false) where
  -- nothing was said of it
  blank : IsUnsaid marks key
  blank = unsaid pool limits marks grown key fresh

  -- and nobody had its end
  idle : (spent marks key ≡ false) × (collector marks key ≡ None) × (in_transit marks key ≡ false) × (list_any (binds key) marks ≡ false)
  idle = (end_at pool limits marks grown key).unborn fresh

  -- its birth
  abbrev pub newborn : Option NodeKey → Bool → Birth
  newborn parent attached =
      record { node = key; parent = parent; attached = attached; collection = collection; event = events marks + 1; client = client }

  -- it stands blank, but for what comes from its parent: its head and whether that is allocated, whether it is weak, and whether
  -- it is covered
  stands : (call : Call) (parent : Option NodeKey) (attached : Bool) →
      birth_at (events marks + 1) (Called client (Reply.Token key collection) call) ≡ Some (newborn parent attached) →
      (id : ℕ) → collection ≡ id → (top : NodeKey) → head (births (Called client (Reply.Token key collection) call ∷ marks)) key ≡ top →
      (given : Bool) → list_any (is_allocation top) marks ≡ given →
      (light : Bool) → weak (Called client (Reply.Token key collection) call ∷ marks) key ≡ light →
      (covering : Bool) → covered (Called client (Reply.Token key collection) call ∷ marks) key ≡ covering →
      node_after (Called client (Reply.Token key collection) call ∷ marks) (newborn parent attached) ≡ record {
        key = key;
        parent = parent;
        attached = attached;
        collection = id;
        event = events marks + 1;
        head = top;
        allocated = given;
        gone = false;
        fault = None;
        released = false;
        dispensable = false;
        weak = light;
        weak_ok = covering;
        covers = covering;
        constraints = None;
        took = false;
        trackers = 0;
        bound = false;
        end = End.Held client;
      }
  stands call parent attached born id ours top heads given allocated light weakens covering covers =
      let called : Timeline = Called client (Reply.Token key collection) call ∷ marks in
      let allows : (list_any (sets_weak key) marks || (list_any (sets_weak_ok key) marks || covered called key)) ≡ covering =
      rw (blank.not_set_weak, blank.not_weak_ok) covers in
      let for_children : (list_any (covers_children key) marks || covered called key) ≡ covering = rw blank.not_covering covers in
      let held_by : holder called key ≡ client = rw (idle.1, born, same_key-refl key) refl in
      let end_is : end_after called key ≡ End.Held client = rw (idle.0, idle.2, held_by) refl in
      λ i. record {
        key = key;
        parent = parent;
        attached = attached;
        collection = ours i;
        event = events marks + 1;
        head = heads i;
        allocated = (ap (λ (k : NodeKey). list_any (is_allocation k) marks) heads ∙ allocated) i;
        gone = blank.not_gone i;
        fault = blank.no_fault i;
        released = blank.not_released i;
        dispensable = blank.not_dispensable i;
        weak = weakens i;
        weak_ok = allows i;
        covers = for_children i;
        constraints = blank.not_constrained i;
        took = blank.not_taken i;
        trackers = blank.not_tracked i;
        bound = idle.3 i;
        end = end_is i;
      }

  -- a root that is new
  abbrev pub root : Birth
  root = newborn None false

  -- it stands as a new root does
  pub new_root_is : node_after (Called client (Reply.Token key collection) Call.OpenRoot ∷ marks) root ≡ new_root key collection
      (events marks + 1) client
  new_root_is = stands Call.OpenRoot None false refl collection refl key (rw (same_key-refl key) refl) false blank.heads_none false
      (rw (same_key-refl key) blank.not_weak) false (rw (same_key-refl key) blank.not_covered)

  -- a child that is new
  abbrev pub child : NodeKey → Birth
  child parent = newborn (Some parent) false

  -- it stands as a new child of its parent does
  new_child_is : (p : Birth) → collection ≡ p.collection →
      node_after (Called client (Reply.Token key collection) (Call.Duplicate p.node) ∷ marks) (child p.node) ≡ new_child false key
      (events marks + 1) client (node_after marks p)
  new_child_is p ours =
      let covering : Bool = list_any (covers_children p.node) marks || covered marks p.node in
      stands (Call.Duplicate p.node) (Some p.node) false refl p.collection ours (head (births marks) p.node) (rw (same_key-refl key) refl)
      (allocated marks p.node) refl (weak marks p.node) (rw (same_key-refl key, blank.not_weak) (or_false (weak marks p.node))) covering
      (rw (same_key-refl key, blank.not_covered) (or_false covering))

  -- an attached child that is new
  abbrev pub attached : NodeKey → Birth
  attached parent = newborn (Some parent) true

  -- it stands as a new attached child of its parent does
  new_attached_is : (p : Birth) → collection ≡ p.collection →
      node_after (Called client (Reply.Token key collection) (Call.AttachToken p.node) ∷ marks) (attached p.node) ≡ new_child true key
      (events marks + 1) client (node_after marks p)
  new_attached_is p ours =
      let covering : Bool = list_any (covers_children p.node) marks || covered marks p.node in
      stands (Call.AttachToken p.node) (Some p.node) true refl p.collection ours key (rw (same_key-refl key) refl) false blank.heads_none
      (weak marks p.node) (rw (same_key-refl key, blank.not_weak) (or_false (weak marks p.node))) covering
      (rw (same_key-refl key, blank.not_covered) (or_false covering))

  -- so it does under a node by that name
  pub child_stands : (p : Birth) (parent : NodeKey) → p.node ≡ parent → collection ≡ p.collection →
      node_after (Called client (Reply.Token key collection) (Call.Duplicate parent) ∷ marks) (child parent) ≡ new_child false key
      (events marks + 1) client (node_after marks p)
  child_stands p parent is ours =
      subst (λ (k : NodeKey). node_after (Called client (Reply.Token key collection) (Call.Duplicate k) ∷ marks) (child k) ≡ new_child false
      key (events marks + 1) client (node_after marks p)) is (new_child_is p ours)

  -- and so does one that is attached
  pub attached_stands : (p : Birth) (parent : NodeKey) → p.node ≡ parent → collection ≡ p.collection →
      node_after (Called client (Reply.Token key collection) (Call.AttachToken parent) ∷ marks) (attached parent) ≡ new_child true key
      (events marks + 1) client (node_after marks p)
  attached_stands p parent is ours =
      subst (λ (k : NodeKey). node_after (Called client (Reply.Token key collection) (Call.AttachToken k) ∷ marks) (attached k) ≡ new_child
      true key (events marks + 1) client (node_after marks p)) is (new_attached_is p ours)

-- ---- the nodes of collections

-- one more birth comes last in its collection
pub births-born : (marks : Timeline) (mark : Mark) (b : Birth) → birth_at (events marks + 1) mark ≡ Some b →
    births_in (mark ∷ marks) b.collection ≡ births_in marks b.collection ++ b ∷ []
births-born marks mark b h =
    let ours : (b.collection == b.collection) ≡ true = eq-eqb b.collection b.collection refl in
    rw (h, ours) (reverse-append (b ∷ []) (filter (λ (x : Birth). x.collection == b.collection) (births marks)))

-- and in no other
pub births-elsewhere : (marks : Timeline) (mark : Mark) (b : Birth) (collection : ℕ) → birth_at (events marks + 1) mark ≡ Some b →
    (b.collection == collection) ≡ false → births_in (mark ∷ marks) collection ≡ births_in marks collection
births-elsewhere marks mark b collection h other = rw (h, other) refl

-- a mark that bears none
pub births-none : (marks : Timeline) (mark : Mark) (collection : ℕ) → birth_at (events marks + 1) mark ≡ None →
    births_in (mark ∷ marks) collection ≡ births_in marks collection
births-none marks mark collection h = rw h refl

module _ (marks : Timeline) (client : ℕ) (reply : Reply) (call : Call) (b : Birth) (born : birth_at (events marks + 1)
    (Called client reply call) ≡ Some b) (fresh : was_born (births marks) b.node ≡ false) where
  -- the nodes that were there stay
  nodes_stay : (collection : ℕ) → map (node_after (Called client reply call ∷ marks)) (births_in marks collection) ≡ nodes_after marks
      collection
  nodes_stay collection = map-In (node_after (Called client reply call ∷ marks)) (node_after marks) (births_in marks collection) (λ x on.
      let there : In x (births marks) =
      (In-filter (λ (y : Birth). y.collection == collection) (births marks) x (In-reverse (filter (λ (y : Birth).
      y.collection == collection) (births marks)) x on)).0 in
      old_node marks client reply call b x born (other_key (births marks) x.node b.node (In-was_born (births marks) x there) fresh))

  -- the new one comes last
  pub nodes-born : nodes_after (Called client reply call ∷ marks) b.collection ≡ nodes_after marks b.collection ++ node_after
      (Called client reply call ∷ marks) b ∷ []
  nodes-born =
      let called : Timeline = Called client reply call ∷ marks in
      ap (map (node_after called)) (births-born marks (Called client reply call) b born)
      ∙ (map-append (node_after called) (births_in marks b.collection) (b ∷ [])
      ∙ ap (λ (ns : List Node). ns ++ node_after called b ∷ []) (nodes_stay b.collection))

  -- in other collections all is as it was
  pub nodes-elsewhere : (collection : ℕ) → (b.collection == collection) ≡ false →
      nodes_after (Called client reply call ∷ marks) collection ≡ nodes_after marks collection
  nodes-elsewhere collection other =
      ap (map (node_after (Called client reply call ∷ marks))) (births-elsewhere marks (Called client reply call) b collection born other)
      ∙ nodes_stay collection
