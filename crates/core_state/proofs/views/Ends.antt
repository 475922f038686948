-- The ends that a core keeps read as those of the marks.
use Rattle.core_state.proofs.Common.{Birth, Bool, Bound, BufferName, Buffers, End, Grows, HandleCounts, In, In-map, IsAfter, List, Member}
use Rattle.core_state.proofs.Common.{Node, NodeKey, None, OpenEnd, Option, Some, State, Strength, Timeline, [], allocated, any-left, ap}
use Rattle.core_state.proofs.Common.{birth_is, birth_of, births, births_in, buffer_names, buffers_in, buffers_of, collection_after, cond}
use Rattle.core_state.proofs.Common.{constraints, doomed, end_after, end_in, false, fault, filter, filter-In, gone, holder, in_transit}
use Rattle.core_state.proofs.Common.{is_doomed, is_kept, is_kept_collection, is_some, is_spent, is_taking, is_tracking, is_unkept}
use Rattle.core_state.proofs.Common.{list_any, member, member_of, members, members_of, names, node_after, node_at, nodes_after, not}
use Rattle.core_state.proofs.Common.{open_end, open_end_of, open_total, option_and_then, option_map, option_map_or, range_with_len}
use Rattle.core_state.proofs.Common.{readings, refl, some_strong_live, spent, sym, times, to_open_in, total, true, weak, ℕ, ◌&&◌, ◌∙◌}
use Rattle.core_state.proofs.Common.{◌≡◌}
use Rattle.std.proofs.Math.Bool.{or-true}
use Rattle.sm_names.specs.Ends.{kind}
use Rattle.sm_names.specs.Members.{is_live}
use Rattle.sm_names.specs.Weakness.{weak_ok}
use Rattle.core_state.specs.Reads.{holder_of, is_moving}
use Rattle.core_state.proofs.lists.Maps.{list_any-map}
use Rattle.core_state.proofs.views.Nodes.{spent_end, node_kept, node_forgotten, node_unknown, collection_kept}
use Rattle.core_state.proofs.collections.Roots.{collection_of_kept}

-- ---- the nodes that are live and strong

-- the node is live and strong
abbrev pub is_strong_live : Node → Bool
is_strong_live n = (not n.gone && not n.released) && not n.weak

-- some node is live and strong exactly if some of those that are not gone is
strong_members : (nodes : List Node) → some_strong_live (members_of nodes) ≡ list_any is_strong_live nodes
strong_members nodes =
    list_any-map (λ (m : Member). is_live m && not m.weak) (member_of nodes) (filter (λ n. not n.gone) nodes)
    ∙ any-left is_strong_live (λ n. not n.gone) nodes (λ n on lost. rw lost refl)

-- so the nodes that are over tell nothing of it
strong_kept : (nodes : List Node) → list_any is_strong_live (filter (λ n. not (is_unkept n)) nodes) ≡ list_any is_strong_live nodes
strong_kept nodes = any-left is_strong_live (λ n. not (is_unkept n)) nodes
    (λ n on over. not_kept n.gone n.released n.weak (is_spent n.end) over)
  where
    -- by cases: a strong node that is over is gone
    not_kept : (g r w s : Bool) → not (g && s) ≡ false → ((not g && not r) && not w) ≡ false
    not_kept true r w s over = refl
    not_kept false r w s over = cc

-- the kept nodes of a collection tell whether some node of it is live and strong
pub strong_live_is : (pool : ℕ) (marks : Timeline) (collection : ℕ) →
    some_strong_live (members_of (collection_after pool marks collection).nodes) ≡ some_strong_live (members marks collection)
strong_live_is pool marks collection =
    strong_members (collection_after pool marks collection).nodes
    ∙ (strong_kept (nodes_after marks collection)
    ∙ (list_any-map is_strong_live (node_after marks) (births_in marks collection)
    ∙ sym (list_any-map (λ (m : Member). is_live m && not m.weak) (member marks) (births_in marks collection))))

-- ---- where the end is

-- its holder
holder_is : (marks : Timeline) (node : NodeKey) → spent marks node ≡ false → holder_of (end_after marks node) ≡ holder marks node
holder_is marks node e =
    rw e (elim (in_transit marks node) as (λ (b : Bool).
    holder_of (cond b (End.InTransit (holder marks node)) (End.Held (holder marks node))) ≡ holder marks node)
    [ true ↦ refl | false ↦ refl ])

-- whether it is in a parcel
moving_is : (marks : Timeline) (node : NodeKey) → spent marks node ≡ false → is_moving (end_after marks node) ≡ in_transit marks node
moving_is marks node e =
    rw e (elim (in_transit marks node) as (λ (b : Bool).
    is_moving (cond b (End.InTransit (holder marks node)) (End.Held (holder marks node))) ≡ b) [ true ↦ refl | false ↦ refl ])

-- ---- what can be opened

-- of a collection that was given buffers, those are doomed that neither a strong handle nor a strong live node keeps
doomed_is : (marks : Timeline) (collection : ℕ) (given : Buffers) → buffers_of marks collection ≡ Some given →
    (name : BufferName) → In name (names collection given.count) →
    doomed marks name ≡ is_doomed (open_total marks name Strength.Strong) (some_strong_live (members marks collection))
doomed_is marks collection given e name on =
    let r = In-map (λ i. record { collection = collection; index = i }) (range_with_len 0 given.count) name on in
    let is : name.collection ≡ collection = ap (λ (x : BufferName). x.collection) r.2 in
    λ i. is_some ((ap (buffers_of marks) is ∙ e) i) && is_doomed (open_total marks name Strength.Strong)
    (some_strong_live (members marks (is i)))

module _ (s : State) (marks : Timeline) (shown : IsAfter s marks) (limits : Bound) (grown : Grows s.pool limits [] marks) where
  -- the buffers of a kept collection
  buffers_are : (collection : ℕ) → is_kept_collection marks collection ≡ true → buffers_in s collection ≡ buffers_of marks collection
  buffers_are collection kept = rw (collection_kept s marks shown limits grown collection kept) refl

  -- the handles that are open
  pub totals_are : total s.holds ≡ open_total marks
  totals_are = ap (λ (h : HandleCounts). h.total) shown.handles

  -- and those of them that can be opened
  to_open_is : (collection : ℕ) → is_kept_collection marks collection ≡ true →
      to_open_in s collection ≡ filter (λ name. not (doomed marks name)) (buffer_names marks collection)
  to_open_is collection kept = rw (collection_kept s marks shown limits grown collection kept) (by (buffers_of marks collection) refl)
    where
      by : (o : Option Buffers) → buffers_of marks collection ≡ o →
          filter (λ b. not (is_doomed (total s.holds b Strength.Strong)
          (some_strong_live (members_of (collection_after s.pool marks collection).nodes)))) (option_map_or (λ (b : Buffers).
          names collection b.count) o [])
          ≡ filter (λ name. not (doomed marks name)) (option_map_or (λ (b : Buffers). names collection b.count) o [])
      by None e = refl
      by (Some given) e =
          filter-In (λ b. not (is_doomed (total s.holds b Strength.Strong)
          (some_strong_live (members_of (collection_after s.pool marks collection).nodes)))) (λ name. not (doomed marks name))
          (names collection given.count)
          (λ name on.
          (λ i. not (is_doomed (totals_are i name Strength.Strong) (strong_live_is s.pool marks collection i)))
          ∙ ap not (sym (doomed_is marks collection given e name on)))

  -- ---- the end of a node

  -- a node whose end is not spent is kept
  unspent_kept : (node : NodeKey) → spent marks node ≡ false → is_kept marks node ≡ true
  unspent_kept node e = rw e (or-true (not (gone marks node)))

  -- the end of a node that is not spent reads the same
  pub open_end_is : (b : Birth) → In b (births marks) → spent marks b.node ≡ false → open_end_of s (node_after marks b) ≡ open_end marks b
  open_end_is b on e =
      let kept : is_kept_collection marks b.collection ≡ true = collection_of_kept marks b on (unspent_kept b.node e) in
      λ i. record {
        holder = holder_is marks b.node e i;
        in_transit = moving_is marks b.node e i;
        kind = kind marks b.node;
        collection = b.collection;
        fault = fault marks b.node;
        constrained = is_some (constraints marks b.node);
        weak = weak marks b.node;
        weak_ok = weak_ok marks b.node;
        took = list_any (is_taking b.node) marks;
        node_trackers = times (is_tracking b.node) marks;
        buffers = cond (allocated marks b.node) (buffers_are b.collection kept i) None;
        to_open = cond (allocated marks b.node) (to_open_is b.collection kept i) [];
      }

  -- so the ends read the same
  pub end_is : (key : NodeKey) → end_in s key ≡ (readings marks).end_of key
  end_is key = from (birth_of marks key) (spent marks key) refl refl
    where
      from : (o : Option Birth) (b : Bool) → birth_of marks key ≡ o → spent marks key ≡ b →
          option_and_then (λ (n : Node). cond (is_spent n.end) None (Some (open_end_of s n))) (node_at s.forest key) ≡ cond
          (spent marks key) None (option_map (open_end marks) (birth_of marks key))
      from None b e h = rw (node_unknown s marks shown limits grown key e, e) (nothing (spent marks key))
        where
          nothing : (b : Bool) → ◌≡◌ {A = Option OpenEnd} None (cond b None None)
          nothing true = refl
          nothing false = refl
      from (Some b) false e h =
          let here = birth_is marks key b e in
          let left : spent marks b.node ≡ false = ap (spent marks) here.1 ∙ h in
          let free : is_spent (end_after marks b.node) ≡ false = spent_end marks b.node ∙ left in
          rw (node_kept s marks shown limits grown key b e (unspent_kept key h), e, h, free) (ap Some (open_end_is b here.0 left))
      from (Some b) true e h = rw h (over b (is_kept marks key) refl e h)
        where
          over : (b : Birth) (k : Bool) → is_kept marks key ≡ k → birth_of marks key ≡ Some b → spent marks key ≡ true →
              option_and_then (λ (n : Node). cond (is_spent n.end) None (Some (open_end_of s n))) (node_at s.forest key) ≡ None
          over b true kept e h =
              let here = birth_is marks key b e in
              let ended : is_spent (end_after marks b.node) ≡ true = spent_end marks b.node ∙ (ap (spent marks) here.1 ∙ h) in
              rw (node_kept s marks shown limits grown key b e kept, ended) refl
          over b false lost e h = rw (node_forgotten s marks shown limits grown key lost) refl
