-- A collection is forgotten exactly where nothing of it is left.
use Rattle.core_state.proofs.Common.{Birth, Bool, Bound, BufferName, Grows, HeldBuffer, In-any, In-list_any, In-map, In-map-back, List}
use Rattle.core_state.proofs.Common.{Node, Strength, Strong, Timeline, Weak, [], and_both, and_left, and_right, ap, arith}
use Rattle.core_state.proofs.Common.{birth_of_collection, births, births_in, both_tests, buffer_names, collection_after, cond, doomed}
use Rattle.core_state.proofs.Common.{eqb-true, false, false_if, filter, held, held_after, home, is_kept, is_kept_collection, is_left}
use Rattle.core_state.proofs.Common.{is_unkept, left, length, list_any, node_after, nodes_after, not, open_total, refl, same_buffer}
use Rattle.core_state.proofs.Common.{same_buffer-true, stands_held, subst, suc, sym, true, ℕ, ◌&&◌, ◌<◌, ◌==◌, ◌||◌, ◌∙◌, ◌∷◌, ◌≡◌}
use Rattle.history_laws.proofs.DoomLaws.{doomed_parts}
use Rattle.event_laws.proofs.HandleBufferLaws.{open_named}
use Rattle.core_state.proofs.handles.HeldNames.{held_left}
use Rattle.core_state.proofs.nodes.Members.{in_order}
use Rattle.core_state.proofs.views.Nodes.{not_unkept}
use Rattle.core_state.proofs.views.Held.{held_kept}

-- ---- lists

-- one more is not none
pub some_more : (n : ℕ) → (suc n == 0) ≡ false
some_more n = false_if (suc n == 0) (λ e. let is : suc n ≡ 0 = eqb-true (suc n) 0 e in omega (arith, is))

-- what a filter leaves is empty where none passes
left-none : {A : Type 0} (test : A → Bool) (xs : List A) → (length (filter test xs) == 0) ≡ not (list_any test xs)
left-none test [] = refl
left-none test (x ∷ xs) =
    elim (test x) as (λ (t : Bool). (length (cond t (x ∷ filter test xs) (filter test xs)) == 0) ≡ not (t || list_any test xs))
    [ true ↦ some_more (length (filter test xs)) | false ↦ left-none test xs ]

-- ---- nodes

-- some node of the collection is left exactly if some is kept
pub nodes_left : (marks : Timeline) (collection : ℕ) →
    list_any (λ n. not (is_unkept n)) (nodes_after marks collection) ≡ list_any (λ (b : Birth).
    b.collection == collection && is_kept marks b.node) (births marks)
nodes_left marks collection = both_tests _ _
    (λ h.
    let a = In-list_any (λ n. not (is_unkept n)) (nodes_after marks collection) h in
    let m = In-map (node_after marks) (births_in marks collection) a.0 a.1 in
    let b : Birth = m.0 in
    let t = birth_of_collection marks collection b m.1 in
    let kept : is_kept marks b.node ≡ true = sym (not_unkept marks b) ∙ (ap (λ (n : Node). not (is_unkept n)) (sym m.2) ∙ a.2) in
    In-any (λ (x : Birth). x.collection == collection && is_kept marks x.node) (births marks) b t.0 (and_both (b.collection == collection) _
    t.1 kept))
    (λ h.
    let a = In-list_any (λ (x : Birth). x.collection == collection && is_kept marks x.node) (births marks) h in
    let b : Birth = a.0 in
    let ours : (b.collection == collection) ≡ true = and_left (b.collection == collection) _ a.2 in
    let kept : is_kept marks b.node ≡ true = and_right (b.collection == collection) _ a.2 in
    In-any (λ n. not (is_unkept n)) (nodes_after marks collection) (node_after marks b) (In-map-back (node_after marks)
    (births_in marks collection) b (in_order marks collection b a.1 (eqb-true b.collection collection ours))) (not_unkept marks b ∙ kept))

-- ---- collections

-- nothing is left of a collection exactly if it is not kept
pub left_after : (pool : ℕ) (limits : Bound) (marks : Timeline) → Grows pool limits [] marks → (collection : ℕ) →
    not (is_left (collection_after pool marks collection)) ≡ is_kept_collection marks collection
left_after pool limits marks g collection =
    let nodes : (length (filter (λ n. not (is_unkept n)) (nodes_after marks collection)) == 0) ≡ not (list_any (λ (b : Birth).
    b.collection == collection && is_kept marks b.node) (births marks)) =
    left-none (λ n. not (is_unkept n)) (nodes_after marks collection) ∙ ap not (nodes_left marks collection) in
    let pages : (length (held_after pool marks collection) == 0) ≡ (left marks collection == 0) =
    ap (λ (n : ℕ). n == 0) (held_left pool limits marks g collection) in
    (λ i. not (nodes i && pages i)) ∙ parts (list_any (λ (b : Birth). b.collection == collection && is_kept marks b.node) (births marks))
    (left marks collection == 0)
  where
    -- by cases on the first switch
    parts : (a b : Bool) → not (not a && b) ≡ (a || not b)
    parts true b = refl
    parts false b = refl

-- ---- open handles

-- a buffer on which a handle is open is not home
open_out : (marks : Timeline) (buffer : BufferName) (strength : Strength) → 0 < open_total marks buffer strength → home marks buffer ≡ false
open_out marks buffer Strong h = false_if (home marks buffer) (λ e. let none : open_total marks buffer Strong ≡ 0 =
    (doomed_parts marks buffer (and_left (doomed marks buffer) _ e)).none_open in omega (arith, none, h))
open_out marks buffer Weak h = false_if (home marks buffer) (λ e. let none : open_total marks buffer Weak ≡ 0 =
    eqb-true (open_total marks buffer Weak) 0 (and_right (doomed marks buffer) _ e) in omega (arith, none, h))

-- so its collection is kept
pub open_kept : (pool : ℕ) (limits : Bound) (marks : Timeline) → Grows pool limits [] marks → (buffer : BufferName) (strength : Strength) →
    0 < open_total marks buffer strength → is_kept_collection marks buffer.collection ≡ true
open_kept pool limits marks g buffer strength h =
    let held_so : list_any (λ (p : HeldBuffer). same_buffer p.buffer buffer) (held pool marks) ≡ true =
    stands_held pool limits marks g buffer ∙ and_both (list_any (λ b. same_buffer b buffer) (buffer_names marks buffer.collection)) _
    (open_named pool limits marks g buffer strength h) (ap not (open_out marks buffer strength h)) in
    let p = In-list_any (λ (q : HeldBuffer). same_buffer q.buffer buffer) (held pool marks) held_so in
    subst (λ (b : BufferName). is_kept_collection marks b.collection ≡ true) (same_buffer-true p.0.buffer buffer p.2)
    (held_kept pool limits marks g p.0 p.1)
