-- What an event does to the clients, and what is known of a client that has not joined.
use Rattle.core_state.proofs.Common.{Allocates, Answers, Bool, Bound, Call, Called, Client, Ends, Grows, IsAnswer, List, Loses, Mark}
use Rattle.core_state.proofs.Common.{None, Option, Refusal, Reply, SameHands, Some, Stays, Timeline, TookEffect, [], after, ap}
use Rattle.core_state.proofs.Common.{append-nil, both_ways, client_after, client_by, clients, clients_by, collects, cons_option, counted}
use Rattle.core_state.proofs.Common.{drop, either_way, eqb-true, false, false_if, false≢true, given_at, has_joined, inl, inr, is_shut}
use Rattle.core_state.proofs.Common.{is_some, joined_at, map, map-append, map-map, new_client, none_key, none_or_some, not, one_if}
use Rattle.core_state.proofs.Common.{parcels, readings, refl, refused_if, reverse, reverse-append, same_after, shuts}
use Rattle.core_state.proofs.Common.{stranger_waits_for_none, subst, sym, took_effect_all, true, ℕ, ◌++◌, ◌||◌, ◌∙◌, ◌∷◌, ◌≡◌}
use Rattle.history_laws.proofs.CountLaws.{AreClients}
use Rattle.history_laws.proofs.ParcelLaws.{IsDrawn, parcels-given, parcels-collected, parcels-kept}
use Rattle.history_laws.proofs.SumLaws.{AreOnce}
use Rattle.event_laws.proofs.HandleBufferLaws.{still_joined}

-- ---- a client that has not joined

-- a client that shuts has joined
shuts_joined : (limits : Bound) (marks : Timeline) (caller : ℕ) (reply : Reply) (call : Call) →
    IsAnswer limits (readings marks) caller call reply → (client : ℕ) → shuts client (Called caller reply call) ≡ true →
    has_joined marks client ≡ true
shuts_joined limits marks caller (Reply.Shut waiting) Call.Shut answer client h =
    let t : TookEffect limits (readings marks) caller none_key Call.Shut (Reply.Shut waiting) =
    took_effect_all limits (readings marks) caller none_key Call.Shut (Reply.Shut waiting) refl refl answer.told in
    ap (has_joined marks) (sym (eqb-true caller client h)) ∙ known (has_joined marks caller) t.known
  where
    -- by cases: a client that has not joined would be refused
    known : (b : Bool) → refused_if (not b || false) Refusal.NoSuchClient ≡ None → b ≡ true
    known true none = refl
    known false none = cc
shuts_joined limits marks caller _ _ answer client h = absurd (false≢true h)

-- so nobody else was shut
pub stranger_not_shut : (pool : ℕ) (limits : Bound) (marks : Timeline) → Grows pool limits [] marks → (client : ℕ) →
    has_joined marks client ≡ false → is_shut marks client ≡ false
stranger_not_shut pool limits _ Stays client h = refl
stranger_not_shut pool limits _ (Loses before origin cause g born) client h = stranger_not_shut pool limits before g client h
stranger_not_shut pool limits _ (Allocates before collection head g e) client h = stranger_not_shut pool limits before g client h
stranger_not_shut pool limits _ (Ends before collection top g e) client h = stranger_not_shut pool limits before g client h
stranger_not_shut pool limits _ (Answers before caller reply call g answer) client h =
    let mark : Mark = Called caller reply call in
    let stranger : has_joined before client ≡ false =
    false_if (has_joined before client) (λ j. both_ways (has_joined (mark ∷ before) client) (still_joined before mark client j) h) in
    let now : shuts client mark ≡ false =
    false_if (shuts client mark) (λ e. both_ways (has_joined before client) (shuts_joined limits before caller reply call answer client
    e) stranger) in
    rw (now, stranger_not_shut pool limits before g client stranger) refl

-- so a client that has not joined is as a new one
stranger_is_new : (pool : ℕ) (limits : Bound) (marks : Timeline) → Grows pool limits [] marks → (client : ℕ) →
    has_joined marks client ≡ false → client_after marks client ≡ new_client client
stranger_is_new pool limits marks grown client h = λ i. record {
  id = client;
  shut = stranger_not_shut pool limits marks grown client h i;
  waiting = stranger_waits_for_none pool limits marks grown client h i;
}

-- ---- one more mark

-- a client that collects is given nothing
collects_given_none : (client : ℕ) (mark : Mark) → collects client mark ≡ true → given_at client mark ≡ None
collects_given_none client (Called caller (Reply.Collected key kind collection) Call.Collect) h = refl
collects_given_none client (Called caller (Reply.CollectedHandle buffer strength) Call.Collect) h = refl
collects_given_none client _ h = absurd (false≢true h)

-- the waiting parcels change as the mark says
parcels-by : (marks : Timeline) (mark : Mark) (client : ℕ) → IsDrawn marks →
    parcels (mark ∷ marks) client ≡ drop (one_if (collects client mark)) (parcels marks client) ++ cons_option (given_at client mark) []
parcels-by marks mark client drawn = elim (either_way (collects client mark)) [
  | inl takes ↦
      let none : given_at client mark ≡ None = collects_given_none client mark takes in
      parcels-collected marks mark client takes none
      ∙ (sym (append-nil (drop 1 (parcels marks client)))
      ∙ λ i. drop (one_if (sym takes i)) (parcels marks client) ++ cons_option (sym none i) [])
  | inr idle ↦ elim (none_or_some (given_at client mark)) [
    | inl none ↦
        parcels-kept marks mark client idle none
        ∙ (sym (append-nil (parcels marks client)) ∙ λ i. drop (one_if (sym idle i)) (parcels marks client) ++ cons_option (sym none i) [])
    | inr given ↦
        parcels-given marks mark client given.0 drawn idle given.1
        ∙ λ i. drop (one_if (sym idle i)) (parcels marks client) ++ cons_option (sym given.1 i) []
  ]
]

-- and so does the client
client-by : (marks : Timeline) (mark : Mark) (client : ℕ) → IsDrawn marks →
    client_after (mark ∷ marks) client ≡ client_by mark (client_after marks client)
client-by marks mark client drawn =
    λ i. record { id = client; shut = shuts client mark || is_shut marks client; waiting = parcels-by marks mark client drawn i }

-- the mark that makes a client does no more to it
made_stays : (mark : Mark) (made : ℕ) → joined_at mark ≡ Some made → client_by mark (new_client made) ≡ new_client made
made_stays (Called client (Reply.Joined j) Call.Join) made h = refl
made_stays _ made h = absurd (false≢true (ap is_some h))

-- one more client joins last
joined_last : (o : Option ℕ) (cs : List ℕ) → reverse (cons_option o cs) ≡ reverse cs ++ cons_option o []
joined_last None cs = sym (append-nil (reverse cs))
joined_last (Some made) cs = reverse-append (made ∷ []) cs

-- ---- one event

module _ (pool : ℕ) (limits : Bound) (marks : Timeline) (grown : Grows pool limits [] marks) (client : ℕ) (reply : Reply) (call : Call)
    (answer : IsAnswer limits (readings marks) client call reply) where
  -- the mark of the call
  abbrev mark : Mark
  mark = Called client reply call

  -- which parcels were drawn
  drawn : IsDrawn marks
  drawn = (counted pool limits marks grown).drawn

  -- a client that the call makes is new
  made_is_new : (o : Option ℕ) → joined_at (Called client reply call) ≡ o →
      map (client_after (Called client reply call ∷ marks)) (cons_option o []) ≡ map new_client (cons_option o [])
  made_is_new None e = refl
  made_is_new (Some made) e =
      let once : AreClients (mark ∷ marks) =
      (counted pool limits (mark ∷ marks) (Answers marks client reply call grown answer)).clients_are in
      let stranger : has_joined marks made ≡ false = (subst (λ (o : Option ℕ). AreOnce (cons_option o (clients marks))) e once.once).0 in
      ap (λ (c : Client). c ∷ [])
      (client-by marks mark made drawn ∙ (ap (client_by mark) (stranger_is_new pool limits marks grown made stranger)
      ∙ made_stays mark made e))

  -- the clients go by the mark of the call
  clients_called : map (client_after (Called client reply call ∷ marks)) (reverse (clients (Called client reply call ∷ marks))) ≡ clients_by
      (Called client reply call) (map (client_after marks) (reverse (clients marks)))
  clients_called =
      ap (map (client_after (mark ∷ marks))) (joined_last (joined_at mark) (clients marks))
      ∙ (map-append (client_after (mark ∷ marks)) (reverse (clients marks)) (cons_option (joined_at mark) [])
      ∙ (λ i. ((λ j. map (λ c. client-by marks mark c drawn j) (reverse (clients marks)))
      ∙ sym (map-map (client_by mark) (client_after marks) (reverse (clients marks)))) i
      ++ made_is_new (joined_at mark) refl i))

  -- and what the event forces leaves them
  pub clients_event : map (client_after (after pool marks (client, call, reply)))
      (reverse (clients (after pool marks (client, call, reply))))
      ≡ clients_by (Called client reply call) (map (client_after marks) (reverse (clients marks)))
  clients_event =
      let same : SameHands (mark ∷ marks) (after pool marks (client, call, reply)) = same_after pool marks (client, call, reply) in
      (λ i. map (λ c. record { id = c; shut = same.shut i c; waiting = same.waiting i c }) (reverse (same.joined i))) ∙ clients_called
