-- A call that took effect passed every test, and its answer is that of the effect.
use Rattle.history_laws.proofs.Common.{Bool, Bound, Call, Fault, List, Misuse, NodeKey, None, OpenEnd, Option, Readings, Refusal, Reply}
use Rattle.history_laws.proofs.Common.{Some, [], answer, answers_first, ap, both_ways, closing, effect, end_in_transit, end_named, false}
use Rattle.history_laws.proofs.Common.{first_some, key_of, misuse, misuse_of, nat_le, no_end, no_handle, option_and_then, option_map}
use Rattle.history_laws.proofs.Common.{peer_closed, refl, refused_if, shut_client, sym, true, unknown_client, unwrap_or, wrong_kind, ℕ}
use Rattle.history_laws.proofs.Common.{◌&&◌, ◌∙◌, ◌∷◌, ◌≡◌}
use Rattle.sm_names.specs.Answers.{makes_node, makes_collection, makes_tracker, too_many_handles, misused_if}
use Rattle.sm_names.specs.Marks.{took_effect}

-- if there is an answer here, it is one of a call that did not take effect
abbrev pub Refuses : Option Reply → Type 0
Refuses o = (reply : Reply) → o ≡ Some reply → took_effect reply ≡ false

-- where there is no answer, none took effect
refuses_none : Refuses None
refuses_none reply h = cc

-- a refusal is no answer of a call that took effect
refuses_if : (b : Bool) (refusal : Refusal) → Refuses (refused_if b refusal)
refuses_if true refusal reply h = let is : Reply.Refused refusal ≡ reply = cc in rw (← is) refl
refuses_if false refusal reply h = cc

-- nor is a misuse
misuses_if : (b : Bool) (m : Misuse) → Refuses (misused_if b m)
misuses_if true m reply h = let is : Reply.Misused m ≡ reply = cc in rw (← is) refl
misuses_if false m reply h = cc

-- nor is what a test tells of a key or an end, if that is so of each
refuses_then : {A : Type 0} (f : A → Option Reply) → ((x : A) → Refuses (f x)) → (o : Option A) → Refuses (option_and_then f o)
refuses_then f each None = refuses_none
refuses_then f each (Some x) = each x

-- nor is the fault that is told of a node that is gone
closes : (o : Option Fault) → Refuses (option_map (λ (f : Fault). Reply.PeerClosed f.cause f.origin) o)
closes None reply h = cc
closes (Some f) reply h = let is : Reply.PeerClosed f.cause f.origin ≡ reply = cc in rw (← is) refl

-- nor is what is answered to an unknown client
unknown_refuses : (r : Readings) (client : ℕ) (call : Call) → Refuses (unknown_client r client call)
unknown_refuses r client Call.Join = refuses_if _ _
unknown_refuses r client _ = refuses_if _ _

-- nor is what is answered to a misuse of an end
misuse_refuses : (e : OpenEnd) (call : Call) → Refuses (misuse_of e call)
misuse_refuses e (Call.SetConstraints key demand) = misuses_if _ _
misuse_refuses e (Call.SetWeak key) = misuses_if _ _
misuse_refuses e (Call.SetWeakOk key children) = misuses_if _ _
misuse_refuses e (Call.Take key) = misuses_if _ _
misuse_refuses e (Call.TrackNode key) = misuses_if _ _
misuse_refuses e _ = refuses_none

-- nor is what is answered where the caller has no such handle
handle_refuses : (r : Readings) (client : ℕ) (call : Call) → Refuses (no_handle r client call)
handle_refuses r client (Call.DupHandle buffer strength) = refuses_if _ _
handle_refuses r client (Call.DropHandle buffer strength) = refuses_if _ _
handle_refuses r client (Call.GiveHandle buffer strength to) = refuses_if _ _
handle_refuses r client (Call.TrackWeak buffer) = refuses_if _ _
handle_refuses r client _ = refuses_none

-- what is known of a call that took effect
pub record TookEffect (limits : Bound) (r : Readings) (client : ℕ) (new : NodeKey) (call : Call) (reply : Reply) : Type 0 where
  pub known : unknown_client r client call ≡ None
  pub not_shut : shut_client r client call ≡ None
  pub has_end : no_end r client call ≡ None
  pub not_in_transit : end_in_transit r call ≡ None
  pub not_gone : peer_closed r call ≡ None
  pub right_kind : wrong_kind r call ≡ None
  pub no_misuse : misuse r call ≡ None
  pub has_handle : no_handle r client call ≡ None
  pub nodes_fit : refused_if (makes_node call && nat_le limits.nodes r.kept_nodes) Refusal.TooManyNodes ≡ None
  pub collections_fit : refused_if (makes_collection call && nat_le limits.collections r.kept_collections) Refusal.TooManyCollections ≡ None
  pub trackers_fit : refused_if (makes_tracker call && nat_le limits.trackers r.unfired) Refusal.TrackersFull ≡ None
  pub handles_fit : refused_if (too_many_handles limits r call) Refusal.TooManyHandles ≡ None
  pub answered : reply ≡ effect r client new call

-- each of these answers that there is, is of a call that did not take effect
abbrev AllRefuse : List (Option Reply) → Type 0
AllRefuse [] = Unit {0}
AllRefuse (o ∷ os) = Refuses o × AllRefuse os

-- there is none of these answers
abbrev AreNone : List (Option Reply) → Type 0
AreNone [] = Unit {0}
AreNone (o ∷ os) = (o ≡ None) × AreNone os

-- an answer that took effect comes after all that refuse
all_none : (os : List (Option Reply)) (e reply : Reply) → AllRefuse os → took_effect reply ≡ true → reply ≡ unwrap_or (first_some os) e →
    AreNone os × (reply ≡ e)
all_none [] e reply refuse effective is = (tt, is)
all_none (None ∷ os) e reply refuse effective is = let rest = all_none os e reply refuse.1 effective is in ((refl, rest.0), rest.1)
all_none (Some x ∷ os) e reply refuse effective is = both_ways (took_effect reply) effective (ap took_effect is ∙ refuse.0 x refl)

-- but for a Close, closing answers nothing
closing_refuses : (call : Call) → closing call ≡ None → Refuses (closing call)
closing_refuses call no_close reply h = let x : None ≡ Some reply = sym no_close ∙ h in cc

-- but for a Close, all answers before that of the effect are of calls that did not take effect
all_refuse : (limits : Bound) (r : Readings) (client : ℕ) (call : Call) → closing call ≡ None →
    AllRefuse (answers_first limits r client call)
all_refuse limits r client call no_close = (
  unknown_refuses r client call,
  (
    refuses_if _ _,
    (
      refuses_then _ (λ key. refuses_if _ _) (key_of call),
      (
        refuses_then _ (λ e. refuses_if _ _) (end_named r call),
        (
          closing_refuses call no_close,
          (
            refuses_then _ (λ (e : OpenEnd). closes e.fault) (end_named r call),
            (
              refuses_then _ (λ e. refuses_if _ _) (end_named r call),
              (
                refuses_then _ (λ e. misuse_refuses e call) (end_named r call),
                (
                  handle_refuses r client call,
                  (refuses_if _ _, (refuses_if _ _, (refuses_if _ _, (refuses_if _ _, tt)))),
                ),
              ),
            ),
          ),
        ),
      ),
    ),
  ),
)

-- a call that took effect, and is no Close, passed every test and is answered by its effect
pub took_effect_all : (limits : Bound) (r : Readings) (client : ℕ) (new : NodeKey) (call : Call) (reply : Reply) →
    took_effect reply ≡ true → closing call ≡ None →
    reply ≡ answer limits r client new call → TookEffect limits r client new call reply
took_effect_all limits r client new call reply effective no_close is =
    let a = all_none (answers_first limits r client call) (effect r client new call) reply (all_refuse limits r client call no_close)
    effective is in
    let n = a.0 in
    record {
      known = n.0;
      not_shut = n.1.0;
      has_end = n.1.1.0;
      not_in_transit = n.1.1.1.0;
      not_gone = n.1.1.1.1.1.0;
      right_kind = n.1.1.1.1.1.1.0;
      no_misuse = n.1.1.1.1.1.1.1.0;
      has_handle = n.1.1.1.1.1.1.1.1.0;
      nodes_fit = n.1.1.1.1.1.1.1.1.1.0;
      collections_fit = n.1.1.1.1.1.1.1.1.1.1.0;
      trackers_fit = n.1.1.1.1.1.1.1.1.1.1.1.0;
      handles_fit = n.1.1.1.1.1.1.1.1.1.1.1.1.0;
      answered = a.1;
    }
