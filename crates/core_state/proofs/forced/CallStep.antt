-- A collection of a state follows the mark of an event, once the event took effect on it.
use Rattle.core_state.proofs.Common.{Answers, Birth, Bool, Bound, BufferName, Call, Called, Collection, End, Grows, HeldBuffer, In-filter}
use Rattle.core_state.proofs.Common.{IsAfter, IsAnswer, List, Member, Node, NodeKey, None, Option, Reply, Some, State, Stays, Strength}
use Rattle.core_state.proofs.Common.{Timeline, [], ancestors, ap, beside, birth_at, births, births_in, both_ways, buffers_of}
use Rattle.core_state.proofs.Common.{collection_after, collection_of, cons_option, either_way, end_by, eq-eqb, events, false, filter}
use Rattle.core_state.proofs.Common.{filter-In, filter-append, filter-swap, gone, held, held_after, home, inl, inr, is_kept, is_some}
use Rattle.core_state.proofs.Common.{list_any, map, map-In, member, members, node_after, nodes_after, not, open_total, or_left, own_loss}
use Rattle.core_state.proofs.Common.{place_of, placed, readings, refl, some_strong_live, sym, true, was_born, ℕ, ◌&&◌, ◌++◌, ◌+◌, ◌==◌}
use Rattle.core_state.proofs.Common.{◌∙◌, ◌∷◌, ◌≡◌}
use Rattle.core_state.proofs.nodes.Answered.{no_birth, nodes-answered, answered_key}
use Rattle.core_state.proofs.collections.MarksApart.{is_beside, pages_beside}
use Rattle.core_state.proofs.nodes.Called.{answered, said, node_called}
use Rattle.core_state.proofs.collections.Elsewhere.{home_called, came}
use Rattle.core_state.proofs.ends.NotRead.{placed_node, placed_in}
use Rattle.core_state.proofs.nodes.Ancestors.{nodes_kept}
use Rattle.core_state.proofs.theorem.Follows.{Matches}
use Rattle.core_state.proofs.nodes.Newborn.{nodes-born, births-none}
use Rattle.core_state.proofs.forced.Starting.{follows}
use Rattle.core_state.proofs.forced.ForcedStep.{held_match}
use Rattle.core_state.proofs.nodes.Unborn.{unsaid}

-- a map that keeps keys passes through a filter by keys
filter-keyed : (keep : NodeKey → Bool) (f : Node → Node) → ((n : Node) → (f n).key ≡ n.key) → (ns : List Node) →
    filter (λ (n : Node). keep n.key) (map f ns) ≡ map f (filter (λ (n : Node). keep n.key) ns)
filter-keyed keep f same [] = refl
filter-keyed keep f same (n ∷ ns) =
    let here : keep (f n).key ≡ keep n.key = ap keep (same n) in
    elim (either_way (keep n.key)) [
      | inl e ↦ let now : keep (f n).key ≡ true = here ∙ e in rw (now, e) (ap (λ (l : List Node). f n ∷ l) (filter-keyed keep f same ns))
      | inr e ↦ let now : keep (f n).key ≡ false = here ∙ e in rw (now, e) (filter-keyed keep f same ns)
    ]

-- the event changes no node, but for an end, and forces nothing: it bears no node, says nothing of any and loses none, and handles
-- of a buffer and strength are open after it exactly if some were before
pub record IsIdle (marks : Timeline) (client : ℕ) (reply : Reply) (call : Call) : Type 0 where
  pub bears_none : birth_at 0 (Called client reply call) ≡ None
  pub says_nothing : (n : Node) → said call reply n ≡ n
  pub loses_none : own_loss marks call reply ≡ None
  pub opens_alike : (buffer : BufferName) (strength : Strength) →
      (open_total (Called client reply call ∷ marks) buffer strength == 0) ≡ (open_total marks buffer strength == 0)

module _ (s : State) (marks : Timeline) (shown : IsAfter s marks) (limits : Bound) (grown : Grows s.pool limits [] marks) (client : ℕ)
    (reply : Reply) (call : Call)
    (answer : IsAnswer limits (readings marks) client call reply) where
  -- the marks with that of the call
  abbrev called : Timeline
  called = Called client reply call ∷ marks

  -- the pages of the others, where their buffers are home as before
  beside_called : (id : ℕ) → ((h : HeldBuffer) → is_beside id h ≡ true →
      home (Called client reply call ∷ marks) h.buffer ≡ home marks h.buffer) →
      pages_beside s.pool (Called client reply call ∷ marks) id ≡ pages_beside s.pool marks id
  beside_called id homes =
      let now : HeldBuffer → Bool = λ h. not (home called h.buffer) in
      let before : HeldBuffer → Bool = λ h. not (home marks h.buffer) in
      ap (map (λ (h : HeldBuffer). h.pages))
      (filter-swap (is_beside id) now (placed s.pool marks)
      ∙ (filter-In now before (filter (is_beside id) (placed s.pool marks)) (λ h on.
      ap not (homes h (In-filter (is_beside id) (placed s.pool marks) h on).1))
      ∙ filter-swap before (is_beside id) (placed s.pool marks)))

  -- a collection with the nodes that the mark makes follows it
  pub matches_called : (id : ℕ) → ((h : HeldBuffer) → is_beside id h ≡ true →
      home (Called client reply call ∷ marks) h.buffer ≡ home marks h.buffer) →
      (ns : List Node) → ns ≡ nodes_kept (is_kept marks) (Called client reply call ∷ marks) id →
      Matches s.pool (is_kept marks) (Called client reply call ∷ marks) (beside s.forest id)
      (record (collection_after s.pool marks id) { nodes = ns })
  matches_called id homes ns same =
      let f : Matches s.pool (is_kept marks) marks (beside s.forest id) (collection_after s.pool marks id) =
      follows s marks shown limits grown id in
      record {
        keeps = f.keeps;
        nodes = same;
        buffers = refl;
        own = f.own;
        none = f.none;
        held = held_match s.pool limits marks (Called client reply call) grown (Answers marks client reply call Stays answer) id refl
            (held_after s.pool marks id) f.held;
        beside = λ test. f.beside test ∙ ap (list_any test) (sym (beside_called id homes));
      }

  -- ---- the nodes that the mark makes

  -- those that were there
  pub kept_answered : birth_at 0 (Called client reply call) ≡ None → (id : ℕ) →
      map (answered client call reply) (collection_after s.pool marks id).nodes ≡ nodes_kept (is_kept marks)
      (Called client reply call ∷ marks) id
  kept_answered none id =
      ap (map (answered client call reply)) (follows s marks shown limits grown id).nodes
      ∙ (sym (filter-keyed (is_kept marks) (answered client call reply) (answered_key client call reply) (nodes_after marks id))
      ∙ ap (filter (λ (n : Node). is_kept marks n.key)) (sym (nodes-answered s.pool limits marks grown client reply call answer none id)))

  -- and one that is born
  pub kept_born : (b : Birth) → birth_at (events marks + 1) (Called client reply call) ≡ Some b →
      (collection_after s.pool marks b.collection).nodes ++ node_after (Called client reply call ∷ marks) b ∷ [] ≡ nodes_kept
      (is_kept marks) (Called client reply call ∷ marks) b.collection
  kept_born b born =
      let fresh : was_born (births marks) b.node ≡ false = (came s.pool limits marks grown client reply call answer b born).fresh in
      let kept : is_kept marks b.node ≡ true =
      or_left (not (gone marks b.node)) _ (ap not (unsaid s.pool limits marks grown b.node fresh).not_gone) in
      let last : filter (λ (n : Node). is_kept marks n.key) (node_after called b ∷ []) ≡ node_after called b ∷ [] = rw kept refl in
      ap (λ (ns : List Node). ns ++ node_after called b ∷ []) (follows s marks shown limits grown b.collection).nodes
      ∙ (ap (λ (ns : List Node). nodes_kept (is_kept marks) marks b.collection ++ ns) (sym last)
      ∙ (sym (filter-append (λ (n : Node). is_kept marks n.key) (nodes_after marks b.collection) (node_after called b ∷ []))
      ∙ ap (filter (λ (n : Node). is_kept marks n.key)) (sym (nodes-born marks client reply call b born fresh))))

  -- ---- which buffers are home

  -- in other collections those that were
  pub homes_elsewhere : (id : ℕ) → collection_of (Called client reply call ∷ marks) call reply ≡ Some id →
      (h : HeldBuffer) → is_beside id h ≡ true → home (Called client reply call ∷ marks) h.buffer ≡ home marks h.buffer
  homes_elsewhere id of h at = home_called s.pool limits marks grown client reply call answer h.buffer.collection away h.buffer refl
    where
      away : collection_of (Called client reply call ∷ marks) call reply ≡ Some h.buffer.collection → ⊥
      away e =
          let both : Some h.buffer.collection ≡ Some id = sym e ∙ of in
          let same : h.buffer.collection ≡ id = cc in
          both_ways (is_beside id h) at (ap not (eq-eqb h.buffer.collection id same))

  module _ (none : birth_at 0 (Called client reply call) ≡ None) (nothing : (n : Node) → said call reply n ≡ n) where
    -- where the event says nothing of any node, only an end is put elsewhere: a collection follows the mark with that end there
    pub follows_placed : (id : ℕ) → ((h : HeldBuffer) → is_beside id h ≡ true →
        home (Called client reply call ∷ marks) h.buffer ≡ home marks h.buffer) →
        Matches s.pool (is_kept marks) (Called client reply call ∷ marks) (beside s.forest id)
        (placed_in (place_of (end_by client call reply)) (collection_after s.pool marks id))
    follows_placed id homes =
        let place : NodeKey → End → End = place_of (end_by client call reply) in
        let c : Collection = collection_after s.pool marks id in
        let same : map (answered client call reply) c.nodes ≡ map (placed_node place) c.nodes =
        map-In (answered client call reply) (placed_node place) c.nodes (λ n on. ap (placed_node place) (nothing n)) in
        matches_called id homes (map (placed_node place) c.nodes) (sym same ∙ kept_answered none id)

  module _ (idle : IsIdle marks client reply call) where
    -- what the forced steps read of a node on such a line: nothing of its end
    abbrev of_node : List NodeKey → Node → Member
    of_node above n = record {
      key = n.key;
      parent = n.parent;
      above = above;
      attached = n.attached;
      head = n.head;
      allocated = n.allocated;
      gone = n.gone;
      released = n.released;
      dispensable = n.dispensable;
      weak = n.weak;
      constraints = n.constraints;
    }

    -- an idle event bears no node
    pub births_idle : birth_at (events marks + 1) (Called client reply call) ≡ None
    births_idle = no_birth 0 (events marks + 1) (Called client reply call) idle.bears_none

    -- each stands as it stood
    member_idle : (b : Birth) → member (Called client reply call ∷ marks) b ≡ member marks b
    member_idle b =
        let lines : ancestors (births called) b.node ≡ ancestors (births marks) b.node =
        ap (λ (o : Option Birth). ancestors (cons_option o (births marks)) b.node) births_idle in
        let same : node_after called b ≡ placed_node (place_of (end_by client call reply)) (node_after marks b) =
        node_called s.pool limits marks grown client reply call answer idle.bears_none b
        ∙ ap (placed_node (place_of (end_by client call reply))) (idle.says_nothing (node_after marks b)) in
        λ i. of_node (lines i) (same i)

    -- and so do all of a collection
    members_idle : (id : ℕ) → members (Called client reply call ∷ marks) id ≡ members marks id
    members_idle id =
        ap (map (member called)) (births-none marks (Called client reply call) id births_idle)
        ∙ map-In (member called) (member marks) (births_in marks id) (λ b on. member_idle b)

    -- and the same buffers are home
    pub home_idle : (buffer : BufferName) → home (Called client reply call ∷ marks) buffer ≡ home marks buffer
    home_idle buffer = λ i.
        (is_some (buffers_of marks buffer.collection) && (idle.opens_alike buffer Strength.Strong i && not
        (some_strong_live (members_idle buffer.collection i))))
        && idle.opens_alike buffer Strength.Weak i

    -- so no page is given back
    pub held_idle : held s.pool (Called client reply call ∷ marks) ≡ held s.pool marks
    held_idle = filter-In (λ (h : HeldBuffer). not (home called h.buffer)) (λ (h : HeldBuffer).
        not (home marks h.buffer)) (placed s.pool marks) (λ h on. ap not (home_idle h.buffer))

    -- each collection with the end that the event puts elsewhere follows its mark
    pub follows_idle : (id : ℕ) → Matches s.pool (is_kept marks) (Called client reply call ∷ marks) (beside s.forest id)
        (placed_in (place_of (end_by client call reply)) (collection_after s.pool marks id))
    follows_idle id = follows_placed idle.bears_none idle.says_nothing id (λ h at. home_idle h.buffer)
