-- Which collections the entries opened.
use Rattle.core_likeness.proofs.Common.{Allocated, Birth, Bool, Call, Called, Ended, Entry, List, Loss, Mark, None, Option, Reply, Some}
use Rattle.core_likeness.proofs.Common.{Timeline, [], ap, append-nil, birth_at, births, cond, cons_option, events, false, filter}
use Rattle.core_likeness.proofs.Common.{filter-append, filter_map, is_event, is_none, map, opened_by, refl, reverse, reverse-append}
use Rattle.core_likeness.proofs.Common.{roots, sym, timeline, true, ℕ, ◌++◌, ◌+◌, ◌∙◌, ◌∷◌, ◌≡◌}
use Rattle.core_likeness.proofs.Calls.{found}
use Rattle.core_state.proofs.lists.Maps.{map-reverse}

-- the collection that the mark opens
abbrev opened_at : Mark → Option ℕ
opened_at (Called client reply call) = opened_by call reply
opened_at _ = None

-- What is forced opens none.
opened-quiet : (mark : Mark) → is_event mark ≡ false → opened_at mark ≡ None
opened-quiet (Called caller reply call) quiet = cc
opened-quiet (Loss origin cause) quiet = refl
opened-quiet (Allocated head) quiet = refl
opened-quiet (Ended top) quiet = refl

-- the collection of a birth without a parent
abbrev root_of : Option Birth → Option ℕ
root_of None = None
root_of (Some b) = cond (is_none b.parent) (Some b.collection) None

-- By the call and the reply.
root-born : (event : ℕ) (mark : Mark) → root_of (birth_at event mark) ≡ opened_at mark
root-born event (Called client (Reply.Token key collection) Call.OpenRoot) = refl
root-born event (Called client (Reply.Token key collection) (Call.Duplicate parent)) = refl
root-born event (Called client (Reply.Token key collection) (Call.AttachToken parent)) = refl
root-born event (Called client reply Call.OpenRoot) = refl
root-born event (Called client reply call) = refl
root-born event (Loss origin cause) = refl
root-born event (Allocated head) = refl
root-born event (Ended top) = refl

-- Reversed lists are filtered and mapped alike.
filter-reverse : {A : Type 0} (p : A → Bool) (xs : List A) → filter p (reverse xs) ≡ reverse (filter p xs)
filter-reverse p [] = refl
filter-reverse {A} p (x ∷ xs) =
    ap (filter p) (reverse-append (x ∷ []) xs) ∙ (filter-append p (reverse xs) (x ∷ [])
    ∙ (ap (λ (l : List A). l ++ filter p (x ∷ [])) (filter-reverse p xs) ∙ here (p x)))
  where
    -- by whether it passes
    here : (b : Bool) → reverse (filter p xs) ++ cond b (x ∷ []) [] ≡ reverse (cond b (x ∷ filter p xs) (filter p xs))
    here true = sym (reverse-append (x ∷ []) (filter p xs))
    here false = append-nil (reverse (filter p xs))

-- The roots among the births are what marks opened.
roots-opened : (marks : Timeline) → map (λ (b : Birth). b.collection) (filter (λ (b : Birth). is_none b.parent) (births marks))
    ≡ filter_map opened_at marks
roots-opened [] = refl
roots-opened (mark ∷ before) =
    from (birth_at (events before + 1) mark)
    ∙ (ap (λ (o : Option ℕ). cons_option o (map (λ (b : Birth). b.collection) (filter (λ (b : Birth). is_none b.parent) (births before))))
    (root-born (events before + 1) mark)
    ∙ ap (cons_option (opened_at mark)) (roots-opened before))
  where
    -- by whether a node is born without a parent
    from : (o : Option Birth) → map (λ (b : Birth). b.collection) (filter (λ (b : Birth). is_none b.parent) (cons_option o (births
        before)))
        ≡ cons_option (root_of o) (map (λ (b : Birth). b.collection) (filter (λ (b : Birth). is_none b.parent) (births before)))
    from None = refl
    from (Some b) = here b (is_none b.parent)
      where
        here : (b : Birth) (root : Bool) → map (λ (b : Birth). b.collection)
            (cond root (b ∷ filter (λ (b : Birth). is_none b.parent) (births before)) (filter (λ (b : Birth). is_none b.parent)
            (births before)))
            ≡ cons_option (cond root (Some b.collection) None)
            (map (λ (b : Birth). b.collection) (filter (λ (b : Birth). is_none b.parent) (births before)))
        here b true = refl
        here b false = refl

-- What entries opened.
pub roots-told : (pool : ℕ) (history : List Entry) →
    roots (timeline pool history) ≡ filter_map (λ (e : Entry). opened_by e.1 e.2) history
roots-told pool history =
    ap (map (λ (b : Birth). b.collection)) (filter-reverse (λ (b : Birth). is_none b.parent) (births (timeline pool history)))
    ∙ (map-reverse (λ (b : Birth). b.collection) (filter (λ (b : Birth). is_none b.parent) (births (timeline pool history)))
    ∙ (ap reverse (roots-opened (timeline pool history)) ∙ found opened_at opened-quiet pool history))
