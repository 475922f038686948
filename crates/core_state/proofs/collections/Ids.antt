-- The ids of collections, the earliest first: they rise, and a new one comes last.
use Rattle.core_state.proofs.Common.{Allocates, Answers, Birth, Bool, Bound, Called, Ends, Grows, In, In-filter, In-filter-back, In-map}
use Rattle.core_state.proofs.Common.{In-map-back, In-reverse, In-reverse-back, IsWhole, List, Loses, NodeKey, None, Option, Some, Stays}
use Rattle.core_state.proofs.Common.{Timeline, [], ap, append-nil, arith, birth_at, births, comes, cons_option, events, filter}
use Rattle.core_state.proofs.Common.{filter-append, inl, inr, is_kept_collection, is_none, kept_ids, map, map-append, none_if, ordered}
use Rattle.core_state.proofs.Common.{refl, reverse, reverse-append, subst, sym, ℕ, ◌++◌, ◌+◌, ◌∙◌, ◌∷◌, ◌≡◌, ◌≤◌}
use Rattle.core_state.proofs.collections.Replacing.{IsRising, rising-push, filter-map_asked}
use Rattle.core_state.proofs.collections.Roots.{HasRoot, has_root}

-- the birth is of a root
abbrev pub is_root_birth : Birth → Bool
is_root_birth b = is_none b.parent

-- the ids of all collections, the earliest first
abbrev pub ids : List Birth → List ℕ
ids bs = map (λ (b : Birth). b.collection) (filter is_root_birth (reverse bs))

-- those that are kept
pub kept_are : (marks : Timeline) → kept_ids marks ≡ filter (is_kept_collection marks) (ids (births marks))
kept_are marks = sym (filter-map_asked (is_kept_collection marks) (λ (b : Birth). b.collection) is_root_birth (reverse (births marks)))

-- one more birth makes one more id, if it is of a root
ids-push : (b : Birth) (bs : List Birth) → ids (b ∷ bs) ≡ ids bs ++ map (λ (c : Birth). c.collection) (filter is_root_birth (b ∷ []))
ids-push b bs =
    ap (λ (l : List Birth). map (λ (c : Birth). c.collection) (filter is_root_birth l)) (reverse-append (b ∷ []) bs)
    ∙ (ap (map (λ (c : Birth). c.collection)) (filter-append is_root_birth (reverse bs) (b ∷ []))
    ∙ map-append (λ (c : Birth). c.collection) (filter is_root_birth (reverse bs)) (filter is_root_birth (b ∷ [])))

-- a root's comes last
pub ids-root : (b : Birth) (bs : List Birth) → b.parent ≡ None → ids (b ∷ bs) ≡ ids bs ++ b.collection ∷ []
ids-root b bs root = ids-push b bs ∙ rw root refl

-- a child makes none
pub ids-child : (b : Birth) (bs : List Birth) (p : NodeKey) → b.parent ≡ Some p → ids (b ∷ bs) ≡ ids bs
ids-child b bs p up = ids-push b bs ∙ rw up (append-nil (ids bs))

-- an id is that of a root
pub id_root : (bs : List Birth) (n : ℕ) → In n (ids bs) → (b : Birth) × In b bs × (b.parent ≡ None) × (b.collection ≡ n)
id_root bs n on =
    let m = In-map (λ (b : Birth). b.collection) (filter is_root_birth (reverse bs)) n on in
    let f = In-filter is_root_birth (reverse bs) m.0 m.1 in
    (m.0, In-reverse bs m.0 f.0, none_if m.0.parent f.1, sym m.2)

-- and a root has its id among them
pub root_id : (bs : List Birth) (b : Birth) → In b bs → b.parent ≡ None → In b.collection (ids bs)
root_id bs b on root =
    In-map-back (λ (c : Birth). c.collection) (filter is_root_birth (reverse bs)) b (In-filter-back is_root_birth (reverse bs) b
    (In-reverse-back bs b on) (ap is_none root))

-- so has each node its collection's
pub node_id : (marks : Timeline) → IsWhole marks → (b : Birth) → In b (births marks) → In b.collection (ids (births marks))
node_id marks w b on =
    let r : HasRoot (births marks) b.collection = has_root (births marks) w.together b on in
    subst (λ (n : ℕ). In n (ids (births marks))) r.ours (root_id (births marks) r.root r.there r.is_root)

-- ids rise
pub ids_rise : (pool : ℕ) (limits : Bound) (marks : Timeline) → Grows pool limits [] marks → IsRising (ids (births marks))
ids_rise pool limits _ Stays = tt
ids_rise pool limits _ (Answers before client reply call g answer) =
    from (ids_rise pool limits before g) (birth_at (events before + 1) (Called client reply call)) refl
  where
    -- since a birth has the number of an event that was
    early : (n : ℕ) → In n (ids (births before)) → n ≤ events before
    early n on =
        let r = id_root (births before) n on in
        let x : r.0.collection ≤ events before = (ordered pool limits before g).early r.0 r.1 in
        let y : r.0.collection ≡ n = r.3 in
        omega (arith, x, y)

    -- by cases: a new root has the newest id, and a child has the id of its parent
    from : IsRising (ids (births before)) → (o : Option Birth) → birth_at (events before + 1) (Called client reply call) ≡ o →
        IsRising (ids (cons_option o (births before)))
    from rise None e = rise
    from rise (Some b) e = elim (comes limits before client (events before + 1) reply call b answer e).from [
      | inl r ↦
          let last : b.collection ≡ events before + 1 = r.1 in
          rw (ids-root b (births before) r.0) (rising-push (ids (births before)) b.collection rise (λ n on. let x : n ≤ events before =
          early n on in omega (arith, last, x)))
      | inr r ↦ rw (ids-child b (births before) r.0.node r.2) rise
    ]
ids_rise pool limits _ (Loses before origin cause g born) = ids_rise pool limits before g
ids_rise pool limits _ (Allocates before collection head g e) = ids_rise pool limits before g
ids_rise pool limits _ (Ends before collection top g e) = ids_rise pool limits before g
