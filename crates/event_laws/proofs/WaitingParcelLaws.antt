-- How many parcels wait for a client at most.
use Rattle.event_laws.proofs.Common.{Birth, Bound, BufferName, Grows, In, In-list_any, List, NodeKey, Parcel, Strength, Timeline, []}
use Rattle.event_laws.proofs.Common.{and_right, ap, arith, births, clients, cond, either_way, eqb-true, false, gone, has_joined}
use Rattle.event_laws.proofs.Common.{in_transit, inl, inr, is_end_of, list_any, moving, not, one, or_right, parcels, same_key}
use Rattle.event_laws.proofs.Common.{same_key-refl, same_key-true, spent, subst, sum_by, sum_by-add, sum_by-cons, sum_by-same, times}
use Rattle.event_laws.proofs.Common.{times-cons, true, was_born, ℕ, ◌&&◌, ◌+◌, ◌==◌, ◌∙◌, ◌∷◌, ◌≡◌, ◌≤◌}
use Rattle.sm_names.specs.Ends.{is_handle_of}
use Rattle.sm_names.specs.Kept.{is_kept, kept_nodes}
use Rattle.sm_names.proofs.SamenessLaws.{or_left}
use Rattle.history_laws.proofs.CountLaws.{counted, moving_is}
use Rattle.history_laws.proofs.SumLaws.{In-le-sum_by}
use Rattle.event_laws.specs.ByEvent.{is_end}
use Rattle.event_laws.proofs.EndEventLaws.{in_transit_born, waits_in_transit}
use Rattle.event_laws.proofs.ParcelEventLaws.{stranger_waits_for_none}
use Rattle.event_laws.proofs.TransitLaws.{EndAt, end_at}

-- a sum is no less if each number is no less
sum_by-le : {A : Type 0} (f g : A → ℕ) (xs : List A) → ((x : A) → f x ≤ g x) → sum_by f xs ≤ sum_by g xs
sum_by-le f g [] le = omega arith
sum_by-le f g (x ∷ xs) le =
    let rest : sum_by f xs ≤ sum_by g xs = sum_by-le f g xs le in
    omega (arith, rest, le x, sum_by-cons f x xs, sum_by-cons g x xs)

-- the end of a node that was born is counted with some birth
counted_once : (bs : List Birth) (key : NodeKey) → was_born bs key ≡ true →
    1 ≤ sum_by (λ (b : Birth). one (is_end_of b.node (Parcel.End key))) bs
counted_once bs key born =
    let b = In-list_any (λ (x : Birth). same_key x.node key) bs born in
    let is : b.0.node ≡ key = same_key-true b.0.node key b.2 in
    let here : same_key key b.0.node ≡ true = ap (same_key key) is ∙ same_key-refl key in
    let counts : one (same_key key b.0.node) ≡ 1 = ap one here in
    omega (arith, counts, In-le-sum_by (λ (x : Birth). one (is_end_of x.node (Parcel.End key))) bs b.0 b.1)

-- if the ends are of nodes that were born, the births count each of them
ends_by_birth : (bs : List Birth) (ps : List Parcel) → ((node : NodeKey) → list_any (is_end_of node) ps ≡ true → was_born bs node ≡ true) →
    times is_end ps ≤ sum_by (λ (b : Birth). times (is_end_of b.node) ps) bs
ends_by_birth bs [] born = omega arith
ends_by_birth bs (p ∷ ps) born =
    let rest : times is_end ps ≤ sum_by (λ (b : Birth). times (is_end_of b.node) ps) bs =
    ends_by_birth bs ps (λ node h. born node (or_right (is_end_of node p) _ h)) in
    let all : sum_by (λ (b : Birth). times (is_end_of b.node) (p ∷ ps)) bs
    ≡ sum_by (λ (b : Birth). times (is_end_of b.node) ps) bs + sum_by (λ (b : Birth). one (is_end_of b.node p)) bs =
    sum_by-same (λ (b : Birth). times (is_end_of b.node) (p ∷ ps))
    (λ (b : Birth). times (is_end_of b.node) ps + one (is_end_of b.node p)) bs
    (λ b. times-cons (is_end_of b.node) p ps)
    ∙ sum_by-add (λ (b : Birth). times (is_end_of b.node) ps) (λ (b : Birth). one (is_end_of b.node p)) bs in
    let head : one (is_end p) ≤ sum_by (λ (b : Birth). one (is_end_of b.node p)) bs = at_head p (λ node h. born node (or_left _ _ h)) in
    omega (arith, rest, all, head, times-cons is_end p ps)
  where
    -- by cases: the birth of an end's node counts it, and a handle is no end
    at_head : (q : Parcel) → ((node : NodeKey) → is_end_of node q ≡ true → was_born bs node ≡ true) →
        one (is_end q) ≤ sum_by (λ (b : Birth). one (is_end_of b.node q)) bs
    at_head (Parcel.End key) known = counted_once bs key (known key (same_key-refl key))
    at_head (Parcel.Handle buffer strength) known = omega arith

-- a node whose end waits for a client is kept, and its end waits once
waits-le-kept : (pool : ℕ) (limits : Bound) (marks : Timeline) → Grows pool limits [] marks → (client : ℕ) (b : Birth) →
    times (is_end_of b.node) (parcels marks client) ≤ cond (is_kept marks b.node) 1 0
waits-le-kept pool limits marks g client b =
    let e : EndAt marks b.node = end_at pool limits marks g b.node in
    elim (either_way (e.place == client && in_transit marks b.node)) [
      | inl here ↦
          let unspent : spent marks b.node ≡ false = e.unspent (and_right (e.place == client) (in_transit marks b.node) here) in
          let kept : is_kept marks b.node ≡ true = or_right (not (gone marks b.node)) _ (ap not unspent) in
          let count : times (is_end_of b.node) (parcels marks client) ≡ 1 = e.waits client ∙ ap one here in
          rw kept (omega (arith, count))
      | inr other ↦
          let count : times (is_end_of b.node) (parcels marks client) ≡ 0 = e.waits client ∙ ap one other in
          omega (arith, count)
    ]

-- no more ends wait for a client than nodes are kept: each is the end of another node, and not spent
pub ends-le-kept : (pool : ℕ) (limits : Bound) (marks : Timeline) → Grows pool limits [] marks → (client : ℕ) →
    times is_end (parcels marks client) ≤ kept_nodes marks
ends-le-kept pool limits marks g client =
    let born : times is_end (parcels marks client)
    ≤ sum_by (λ (b : Birth). times (is_end_of b.node) (parcels marks client)) (births marks) =
    ends_by_birth (births marks) (parcels marks client)
    (λ node h. in_transit_born pool limits marks g node (waits_in_transit pool limits marks g node client h)) in
    let kept : sum_by (λ (b : Birth). times (is_end_of b.node) (parcels marks client)) (births marks) ≤ kept_nodes marks =
    sum_by-le (λ (b : Birth). times (is_end_of b.node) (parcels marks client)) (λ (b : Birth). cond (is_kept marks b.node) 1 0)
    (births marks) (waits-le-kept pool limits marks g client) in
    omega (arith, born, kept)

-- no more handles wait for a client than are in parcels: what is in parcels waits for some client
pub handles-le-moving : (pool : ℕ) (limits : Bound) (marks : Timeline) → Grows pool limits [] marks → (client : ℕ) (buffer : BufferName)
    (strength : Strength) → times (is_handle_of buffer strength) (parcels marks client) ≤ moving marks buffer strength
handles-le-moving pool limits marks g client buffer strength = elim (either_way (has_joined marks client)) [
  | inl joined ↦
      let a = In-list_any (λ k. k == client) (clients marks) joined in
      let is : a.0 ≡ client = eqb-true a.0 client a.2 in
      let on : In client (clients marks) = subst (λ k. In k (clients marks)) is a.1 in
      omega (
        arith,
        In-le-sum_by (λ k. times (is_handle_of buffer strength) (parcels marks k)) (clients marks) client on,
        moving_is marks (counted pool limits marks g) buffer strength,
      )
  | inr none ↦
      let empty : parcels marks client ≡ [] = stranger_waits_for_none pool limits marks g client none in
      let count : times (is_handle_of buffer strength) (parcels marks client) ≡ 0 = ap (times (is_handle_of buffer strength)) empty in
      omega (arith, count)
]
