-- A node that is misused is not gone.
use Rattle.core_state.proofs.Common.{Bound, Call, Fault, Grows, HasEnd, IsAnswer, List, Misuse, NodeKey, None, OpenEnd, Option, Readings}
use Rattle.core_state.proofs.Common.{Reply, Some, Timeline, [], both_ways, closing, effect, end_named, false, false_if, fault, first_some}
use Rattle.core_state.proofs.Common.{gone, key_of, key_told, limits_met, misuse, no_handle, not_refused_end, option_and_then, option_map}
use Rattle.core_state.proofs.Common.{ordered, peer_closed, readings, refl, spent, unwrap_or, wrong_kind, ℕ, ◌∷◌, ◌≡◌}
use Rattle.history_laws.proofs.BirthLaws.{has_no_fault}
use Rattle.history_laws.proofs.TakeLaws.{from_closing}

-- ---- a misuse

-- closing is no misuse
closes_none : (call : Call) (rest : List (Option Reply)) (e : Reply) (m : Misuse) →
    Reply.Misused m ≡ unwrap_or (first_some (closing call ∷ rest)) e → Reply.Misused m ≡ unwrap_or (first_some rest) e
closes_none (Call.Close key) rest e m h = cc
closes_none _ rest e m h = h

-- nor is what is told of a node that is gone
none_closed : (o : Option Fault) (rest : List (Option Reply)) (e : Reply) (m : Misuse) →
    Reply.Misused m ≡ unwrap_or (first_some (option_map (λ (f : Fault). Reply.PeerClosed f.cause f.origin) o ∷ rest)) e →
    option_map (λ (f : Fault). Reply.PeerClosed f.cause f.origin) o ≡ None
none_closed None rest e m h = refl
none_closed (Some f) rest e m h = cc

-- so a node that is misused has not failed
not_closed : (r : Readings) (call : Call) (rest : List (Option Reply)) (e : Reply) (m : Misuse) →
    Reply.Misused m ≡ unwrap_or (first_some (peer_closed r call ∷ rest)) e → peer_closed r call ≡ None
not_closed r call rest e m h = from (end_named r call) h
  where
    -- by cases: a node that failed would be answered PeerClosed before
    from : (o : Option OpenEnd) → Reply.Misused m ≡ unwrap_or (first_some (option_and_then (λ (x : OpenEnd).
        option_map (λ (f : Fault). Reply.PeerClosed f.cause f.origin) x.fault) o ∷ rest)) e →
        option_and_then (λ (x : OpenEnd). option_map (λ (f : Fault). Reply.PeerClosed f.cause f.origin) x.fault) o ≡ None
    from None h = refl
    from (Some x) h = none_closed x.fault rest e m h

-- a node that is misused is not gone
pub misused_here : (pool : ℕ) (limits : Bound) (marks : Timeline) → Grows pool limits [] marks →
    (client : ℕ) (call : Call) (m : Misuse) (key : NodeKey) →
    IsAnswer limits (readings marks) client call (Reply.Misused m) → key_of call ≡ Some key → gone marks key ≡ false
misused_here pool limits marks g client call m key answer is =
    let r : Readings = readings marks in
    let new : NodeKey = key_told (Reply.Misused m) in
    let e : Reply = effect r client new call in
    let last : List (Option Reply) = wrong_kind r call ∷ misuse r call ∷ no_handle r client call ∷ limits_met limits r call in
    let told = from_closing limits marks client new call (Reply.Misused m) refl answer.told in
    let none : peer_closed r call ≡ None = not_closed r call last e m (closes_none call (peer_closed r call ∷ last) e m told) in
    let there : HasEnd marks key = not_refused_end limits marks client call (Reply.Misused m) key answer refl is in
    let fine : fault marks key ≡ None = has_no_fault marks call key there is none in
    false_if (gone marks key) (λ h. both_ways (spent marks key) ((ordered pool limits marks g).ended_spent key h fine) there.unspent)
