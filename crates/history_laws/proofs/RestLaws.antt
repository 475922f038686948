-- In a legal history no forced step applies between two events.
use Rattle.history_laws.proofs.Common.{AreAnswers, Bool, Bound, BufferName, Buffers, Called, Entry, IsAnswer, List, None, Option, Some}
use Rattle.history_laws.proofs.Common.{Standing, Strength, Timeline, [], after, ap, both_ways, buffers_of, collection_of, cons_option}
use Rattle.history_laws.proofs.Common.{either_way, eq-eqb, eqb-true, fold, forced, inl, inr, list_any, map, names, nat_lt, next_forced}
use Rattle.history_laws.proofs.Common.{open_total, option_map_or, own_loss, readings, refl, settled, standing, sym, ℕ, ◌==◌, ◌||◌, ◌∙◌}
use Rattle.history_laws.proofs.Common.{◌∷◌, ◌≡◌}
use Rattle.history_laws.proofs.EventLaws.{SameIn, same_after}
use Rattle.history_laws.proofs.GrowthLaws.{Grows, Stays, grows_after, grows_lost}
use Rattle.history_laws.proofs.LifeLaws.{whole}
use Rattle.sm_names.proofs.ForcedLaws.{at_rest, none_forced, rests_with}
use Rattle.history_laws.proofs.SettledLaws.{settled_rests}

-- ---- a collection that is unchanged is still at rest

-- tests that agree on the collection's buffers
any_same : (f g : BufferName → Bool) (collection : ℕ) (is : List ℕ) →
    ((i : ℕ) → f (record { collection = collection; index = i }) ≡ g (record { collection = collection; index = i })) →
    list_any f (map (λ i. record { collection = collection; index = i }) is) ≡ list_any g (map (λ i.
    record { collection = collection; index = i }) is)
any_same f g collection [] same = refl
any_same f g collection (i ∷ is) same = λ j. same i j || any_same f g collection is same j

-- so a strong handle is open if one was
strong_same : (pool : ℕ) (a b : Timeline) (collection : ℕ) → SameIn pool a b collection →
    (standing 0 b collection).strong_open ≡ (standing 0 a collection).strong_open
strong_same pool a b collection s =
    ap (λ (o : Option Buffers). list_any (λ x. nat_lt 0 (open_total b x Strength.Strong)) (option_map_or (λ (g : Buffers).
    names collection g.count) o [])) s.given
    ∙ from (buffers_of a collection)
  where
    -- by cases: without buffers no handle is open, and each buffer has as many open handles as before
    from : (o : Option Buffers) → list_any (λ x. nat_lt 0 (open_total b x Strength.Strong)) (option_map_or (λ (g : Buffers).
        names collection g.count) o []) ≡
        list_any (λ x. nat_lt 0 (open_total a x Strength.Strong)) (option_map_or (λ (g : Buffers). names collection g.count) o [])
    from None = refl
    from (Some g) = any_same (λ x. nat_lt 0 (open_total b x Strength.Strong)) (λ x. nat_lt 0 (open_total a x Strength.Strong)) collection _
        (λ i. ap (λ (n : ℕ). nat_lt 0 n) (s.handles (record { collection = collection; index = i }) refl Strength.Strong))

-- so it rests as it rested
pub rests_same : (pool collection : ℕ) (a b : Timeline) → SameIn pool a b collection → next_forced pool collection a ≡ None →
    next_forced pool collection b ≡ None
rests_same pool collection a b s h =
    let old : Standing = standing pool a collection in
    let new : Standing = standing pool b collection in
    let is : new ≡ record old { held = new.held } =
    (λ i. record { members = s.nodes i; buffers = s.given i; strong_open = strong_same pool a b collection s i; held = new.held }) in
    ap (forced pool) is ∙ none_forced pool (record old { held = new.held }) (rests_with old new.held (at_rest pool old h))

-- ---- each event leaves each collection at rest

-- each collection rests
abbrev Rests : ℕ → Timeline → Type 0
Rests pool marks = (collection : ℕ) → next_forced pool collection marks ≡ None

-- an event keeps them so
rests_after : (pool : ℕ) (limits : Bound) (marks : Timeline) (entry : Entry) → Grows pool limits [] marks →
    IsAnswer limits (readings marks) entry.0 entry.1 entry.2 → Rests pool marks → Rests pool (after pool marks entry)
rests_after pool limits marks entry g answer rests collection = from (collection_of called entry.1 entry.2) refl
  where
    -- the marks after the event's own
    called : Timeline
    called = Called entry.0 entry.2 entry.1 ∷ marks

    -- where the event is of another collection, this one stays as it was
    apart : (collection_of (Called entry.0 entry.2 entry.1 ∷ marks) entry.1 entry.2 ≡ Some collection → ⊥) →
        next_forced pool collection (after pool marks entry) ≡ None
    apart away = rests_same pool collection marks (after pool marks entry) (same_after pool limits marks entry.0 collection entry.2 entry.1
        g answer away) (rests collection)

    -- where the event is of this collection, its forced steps go on until none applies
    its_own : (ours : ℕ) → collection_of (Called entry.0 entry.2 entry.1 ∷ marks) entry.1 entry.2 ≡ Some ours → ours ≡ collection →
        next_forced pool collection (after pool marks entry) ≡ None
    its_own ours of is =
        let lost : Timeline = cons_option (own_loss marks entry.1 entry.2) called in
        let rest : next_forced pool ours (settled pool ours lost) ≡ None =
        (settled_rests pool ours lost (whole pool limits lost (grows_lost pool limits [] marks entry g answer)).sound).0 in
        rw of (ap (λ (c : ℕ). next_forced pool c (settled pool ours lost)) (sym is) ∙ rest)

    -- by cases on the collection of the event: it is this one, or another, or there is none
    from : (o : Option ℕ) → collection_of (Called entry.0 entry.2 entry.1 ∷ marks) entry.1 entry.2 ≡ o →
        next_forced pool collection (after pool marks entry) ≡ None
    from None of = apart (λ e. let no : None ≡ Some collection = sym of ∙ e in cc)
    from (Some ours) of = elim (either_way (ours == collection)) [
      | inl same ↦ its_own ours of (eqb-true ours collection same)
      | inr other ↦ apart (λ e. let is : Some ours ≡ Some collection = sym of ∙ e in let both : ours ≡ collection = cc in
          both_ways (ours == collection) (eq-eqb ours collection both) other)
    ]

-- and so do all
rests_history : (pool : ℕ) (limits : Bound) (marks : Timeline) (history : List Entry) → Grows pool limits [] marks →
    AreAnswers pool limits marks history → Rests pool marks → Rests pool (fold (after pool) marks history)
rests_history pool limits marks [] g answers rests = rests
rests_history pool limits marks (entry ∷ entries) g answers rests =
    rests_history pool limits (after pool marks entry) entries (grows_after pool limits [] marks entry g answers.0) answers.1
    (rests_after pool limits marks entry g answers.0 rests)

-- so it is after each legal history
pub every_rests : (pool : ℕ) (limits : Bound) (history : List Entry) → AreAnswers pool limits [] history → (collection : ℕ) →
    next_forced pool collection (fold (after pool) [] history) ≡ None
every_rests pool limits history answers = rests_history pool limits [] history Stays answers (λ collection. refl)
