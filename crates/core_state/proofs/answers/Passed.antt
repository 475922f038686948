-- What a call has passed that was answered so.
use Rattle.core_state.proofs.Common.{Bool, Bound, Call, Fault, List, NodeKey, None, OpenEnd, Option, Readings, Refusal, Reply, Some}
use Rattle.core_state.proofs.Common.{answer, ap, closing, effect, end_in_transit, false, first_some, in_transit_rejects, is_refusal}
use Rattle.core_state.proofs.Common.{key_of, limits_met, misuse, no_end, no_end_rejects, no_handle, option_map, option_map_or}
use Rattle.core_state.proofs.Common.{peer_closed, refl, refused_if, shut_client, shut_rejects, true, unknown_client, unknown_rejects}
use Rattle.core_state.proofs.Common.{unwrap_or, wrong_kind, ℕ, ◌∷◌, ◌≡◌}
use Rattle.sm_names.specs.Answers.{is_anothers}
use Rattle.history_laws.proofs.RejectLaws.{strip}

-- the reply tells why the node is gone
abbrev pub is_closed : Reply → Bool
is_closed (Reply.PeerClosed cause origin) = true
is_closed _ = false

-- an end that answers nothing against the call is there
end_is : (o : Option OpenEnd) (client : ℕ) → refused_if (option_map_or (is_anothers client) o true) Refusal.NoSuchEnd ≡ None →
    (e : OpenEnd) × (o ≡ Some e)
end_is None client none = cc
end_is (Some e) client none = (e, refl)

-- what a call has passed that is not refused: the end that it names is there, and has not failed, unless the call is a
-- Close or is answered so
pub record Passed (r : Readings) (call : Call) (reply : Reply) (key : NodeKey) : Type 0 where
  pub end : OpenEnd
  pub there : r.end_of key ≡ Some end
  pub not_failed : closing call ≡ None → is_closed reply ≡ false → end.fault ≡ None
  pub closed : (answer : Reply) → closing call ≡ Some answer → reply ≡ answer

-- a node of which no failure is told has not failed
no_fault : (reply : Reply) (line : Option Reply) (o : Option Fault) (rest : List (Option Reply)) (last : Reply) →
    line ≡ option_map (λ (f : Fault). Reply.PeerClosed f.cause f.origin) o → is_closed reply ≡ false →
    reply ≡ unwrap_or (first_some (line ∷ rest)) last → o ≡ None
no_fault reply line None rest last line_is stands is = refl
no_fault reply line (Some f) rest last line_is stands is =
    let told : reply ≡ Reply.PeerClosed f.cause f.origin = rw line_is at is in
    let yes : is_closed reply ≡ true = ap is_closed told in
    cc

-- the line of a node that is gone, where the end is there
peer_is : (r : Readings) (call : Call) (key : NodeKey) (e : OpenEnd) → key_of call ≡ Some key → r.end_of key ≡ Some e →
    peer_closed r call ≡ option_map (λ (f : Fault). Reply.PeerClosed f.cause f.origin) e.fault
peer_is r call key e is there = rw (is, there) refl

-- a line that has no answer is passed over
skip : (reply : Reply) (line : Option Reply) (rest : List (Option Reply)) (last : Reply) → line ≡ None →
    reply ≡ unwrap_or (first_some (line ∷ rest)) last → reply ≡ unwrap_or (first_some rest) last
skip reply line rest last none is = rw none at is

-- a line that has one is the answer
stop : (reply : Reply) (line : Option Reply) (rest : List (Option Reply)) (last answer : Reply) → line ≡ Some answer →
    reply ≡ unwrap_or (first_some (line ∷ rest)) last → reply ≡ answer
stop reply line rest last answer some is = rw some at is

-- a call that is not refused
pub passed : (limits : Bound) (r : Readings) (client : ℕ) (new : NodeKey) (call : Call) (reply : Reply) (key : NodeKey) →
    reply ≡ answer limits r client new call → is_refusal reply ≡ false → key_of call ≡ Some key → Passed r call reply key
passed limits r client new call reply key told stands is =
    let e : Reply = effect r client new call in
    let last : List (Option Reply) = wrong_kind r call ∷ misuse r call ∷ no_handle r client call ∷ limits_met limits r call in
    let a = strip (unknown_client r client call) (shut_client r client call ∷ no_end r client call ∷ end_in_transit r call ∷ closing
    call ∷ peer_closed r call ∷ last) e reply (unknown_rejects r client call) stands told in
    let b = strip (shut_client r client call) (no_end r client call ∷ end_in_transit r call ∷ closing call ∷ peer_closed r call ∷ last) e
    reply (shut_rejects r client call) stands a.1 in
    let c = strip (no_end r client call) (end_in_transit r call ∷ closing call ∷ peer_closed r call ∷ last) e reply
    (no_end_rejects r client call) stands b.1 in
    let d = strip (end_in_transit r call) (closing call ∷ peer_closed r call ∷ last) e reply (in_transit_rejects r call) stands c.1 in
    let there = end_is (r.end_of key) client (rw is at c.0) in
    record {
      end = there.0;
      there = there.1;
      not_failed = λ going alive.
          no_fault reply (peer_closed r call) there.0.fault last e (peer_is r call key there.0 is there.1) alive
          (skip reply (closing call) (peer_closed r call ∷ last) e going d.1);
      closed = λ answer closes. stop reply (closing call) (peer_closed r call ∷ last) e answer closes d.1;
    }
