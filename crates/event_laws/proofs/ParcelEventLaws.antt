-- What one event does to the parcels that wait, and to the clients.
use Rattle.event_laws.proofs.Common.{Allocates, Answers, Bool, Bound, Call, Called, Ends, Entry, Grows, In-list_any, IsAnswer, IsDrawn}
use Rattle.event_laws.proofs.Common.{IsLegal, List, Loses, Mark, None, Option, Parcel, Refusal, Reply, Some, Stays, Timeline, [], ap}
use Rattle.event_laws.proofs.Common.{arith, both_ways, clients, collected_at, cons_option, drop, entry_mark, eqb-true, events, false}
use Rattle.event_laws.proofs.Common.{false_if, false≢true, given_at, has_joined, inl, inr, is_some, joined_at, none_key, not, one_if}
use Rattle.event_laws.proofs.Common.{option_map_or, parcels, readings, refl, refused_if, sym, timeline, times, times-cons}
use Rattle.event_laws.proofs.Common.{took_effect_all, true, ℕ, ◌++◌, ◌+◌, ◌==◌, ◌||◌, ◌∙◌, ◌∷◌, ◌≡◌, ◌≤◌}
use Rattle.sm_names.specs.Answers.{OpenEnd, collected}
use Rattle.sm_names.specs.Ends.{shuts, is_shut, collects}
use Rattle.history_laws.proofs.AnswerLaws.{TookEffect}
use Rattle.history_laws.proofs.CountLaws.{AreClients, counted}
use Rattle.event_laws.proofs.HandLaws.{NextEvent, next_event}
use Rattle.event_laws.proofs.HandleBufferLaws.{still_joined}
use Rattle.sm_names.proofs.ListLaws.{when-Some, when-None}
use Rattle.history_laws.proofs.ParcelLaws.{parcels-given, parcels-collected, parcels-kept}
use Rattle.sm_names.proofs.SamenessLaws.{none_or_some}
use Rattle.history_laws.proofs.SumLaws.{times_push}

-- ---- what is collected

-- a client that gets a parcel collects, and is given none
collected_collects : (client : ℕ) (mark : Mark) (p : Parcel) → collected_at client mark ≡ Some p → (collects client mark ≡ true) ×
    (given_at client mark ≡ None)
collected_collects client (Called caller (Reply.Collected key kind collection) Call.Collect) p h =
    ((when-Some (caller == client) (Parcel.End key) p h).0, refl)
collected_collects client (Called caller (Reply.CollectedHandle buffer strength) Call.Collect) p h =
    ((when-Some (caller == client) (Parcel.Handle buffer strength) p h).0, refl)
collected_collects client _ p h = absurd (false≢true (ap is_some h))

-- a client that gets none does not
idle_collects : (client : ℕ) (mark : Mark) → collected_at client mark ≡ None → collects client mark ≡ false
idle_collects client (Called caller (Reply.Collected key kind collection) Call.Collect) h = when-None (caller == client) (Parcel.End key) h
idle_collects client (Called caller (Reply.CollectedHandle buffer strength) Call.Collect) h =
    when-None (caller == client) (Parcel.Handle buffer strength) h
idle_collects client _ h = refl

-- nor does a client that is given one
given_collects_none : (client : ℕ) (mark : Mark) (p : Parcel) → given_at client mark ≡ Some p → collected_at client mark ≡ None
given_collects_none client (Called giver Reply.Done (Call.Give key to)) p h = refl
given_collects_none client (Called giver Reply.Done (Call.GiveHandle buffer strength to)) p h = refl
given_collects_none client _ p h = absurd (false≢true (ap is_some h))

-- the parcel that is got was the first
first_is : (limits : Bound) (marks : Timeline) (client caller : ℕ) (reply : Reply) (call : Call) →
    IsAnswer limits (readings marks) caller call reply → (p : Parcel) → collected_at client (Called caller reply call) ≡ Some p →
    parcels marks client ≡ p ∷ drop 1 (parcels marks client)
first_is limits marks client caller (Reply.Collected key kind collection) Call.Collect answer p h =
    let t : TookEffect limits (readings marks) caller none_key Call.Collect (Reply.Collected key kind collection) =
    took_effect_all limits (readings marks) caller none_key Call.Collect (Reply.Collected key kind collection) refl refl answer.told in
    let u = when-Some (caller == client) (Parcel.End key) p h in
    from (parcels marks client) (t.answered ∙ ap (λ c. collected (readings marks) (parcels marks c)) (eqb-true caller client u.0))
    ∙ ap (λ q. q ∷ drop 1 (parcels marks client)) u.1
  where
    -- by cases: a Collected reply names the key that was asked for, and Empty is no Collected
    end_is : (k : _) (o : Option OpenEnd) → Reply.Collected key kind collection ≡ option_map_or (λ (x : OpenEnd).
        Reply.Collected k x.kind x.collection) o Reply.Empty → key ≡ k
    end_is k None told = cc
    end_is k (Some x) told = cc

    -- by cases on the first parcel: only an end is answered Collected
    from : (ps : List Parcel) → Reply.Collected key kind collection ≡ collected (readings marks) ps → ps ≡ Parcel.End key ∷ drop 1 ps
    from [] told = cc
    from (Parcel.End k ∷ more) told = ap (λ x. Parcel.End x ∷ more) (sym (end_is k ((readings marks).end_of k) told))
    from (Parcel.Handle name given ∷ more) told = cc
first_is limits marks client caller (Reply.CollectedHandle buffer strength) Call.Collect answer p h =
    let t : TookEffect limits (readings marks) caller none_key Call.Collect (Reply.CollectedHandle buffer strength) =
    took_effect_all limits (readings marks) caller none_key Call.Collect (Reply.CollectedHandle buffer strength) refl refl
    answer.told in
    let u = when-Some (caller == client) (Parcel.Handle buffer strength) p h in
    from (parcels marks client) (t.answered ∙ ap (λ c. collected (readings marks) (parcels marks c)) (eqb-true caller client u.0))
    ∙ ap (λ q. q ∷ drop 1 (parcels marks client)) u.1
  where
    -- by cases: neither Collected nor Empty is CollectedHandle
    no_end : (k : _) (o : Option OpenEnd) → Reply.CollectedHandle buffer strength ≡ option_map_or (λ (x : OpenEnd).
        Reply.Collected k x.kind x.collection) o Reply.Empty → ⊥
    no_end k None told = cc
    no_end k (Some x) told = cc

    -- by cases on the first parcel: only a handle is answered CollectedHandle
    from : (ps : List Parcel) → Reply.CollectedHandle buffer strength ≡ collected (readings marks) ps →
        ps ≡ Parcel.Handle buffer strength ∷ drop 1 ps
    from [] told = cc
    from (Parcel.End k ∷ more) told = absurd (no_end k ((readings marks).end_of k) told)
    from (Parcel.Handle name given ∷ more) told =
        let what : buffer ≡ name = cc in
        let how : strength ≡ given = cc in
        λ i. Parcel.Handle (sym what i) (sym how i) ∷ more
first_is limits marks client caller _ _ answer p h = absurd (false≢true (ap is_some h))

-- ---- one mark after others

module _ (limits : Bound) (marks : Timeline) (caller : ℕ) (reply : Reply) (call : Call) (answer : IsAnswer limits (readings marks) caller
    call reply) (drawn : IsDrawn marks) (client : ℕ) where
  -- the mark
  abbrev mark : Mark
  mark = Called caller reply call

  -- what is got waited first
  pub collected_mark : (p : Parcel) → collected_at client (Called caller reply call) ≡ Some p →
      parcels marks client ≡ p ∷ parcels (Called caller reply call ∷ marks) client
  collected_mark p h =
      let c = collected_collects client mark p h in
      first_is limits marks client caller reply call answer p h ∙ ap (λ ps. p ∷ ps) (sym (parcels-collected marks mark client c.0 c.1))

  -- what is given waits last
  pub given_mark : (p : Parcel) → given_at client (Called caller reply call) ≡ Some p →
      parcels (Called caller reply call ∷ marks) client ≡ parcels marks client ++ p ∷ []
  given_mark p h = parcels-given marks mark client p drawn (idle_collects client mark (given_collects_none client mark p h)) h

  -- and else all wait as they did
  pub idle_mark : collected_at client (Called caller reply call) ≡ None → given_at client (Called caller reply call) ≡ None →
      parcels (Called caller reply call ∷ marks) client ≡ parcels marks client
  idle_mark c h = parcels-kept marks mark client (idle_collects client mark c) h

  -- so the parcels that pass a test are as many more or less
  pub parcels_count : (test : Parcel → Bool) →
      times test (parcels (Called caller reply call ∷ marks) client) + one_if
      (option_map_or test (collected_at client (Called caller reply call)) false)
      ≡ times test (parcels marks client) + one_if (option_map_or test (given_at client (Called caller reply call)) false)
  parcels_count test =
      let before : List Parcel = parcels marks client in
      let after : List Parcel = parcels (Called caller reply call ∷ marks) client in
      let weigh : Option Parcel → ℕ = λ o. one_if (option_map_or test o false) in
      elim (none_or_some (collected_at client mark)) [
        | inl c ↦
            let got : weigh (collected_at client mark) ≡ 0 = ap weigh c in
            elim (none_or_some (given_at client mark)) [
              | inl h ↦
                  let brought : weigh (given_at client mark) ≡ 0 = ap weigh h in
                  let same : times test after ≡ times test before = ap (times test) (idle_mark c h) in
                  omega (arith, got, brought, same)
              | inr h ↦
                  let brought : weigh (given_at client mark) ≡ one_if (test h.0) = ap weigh h.1 in
                  let more : times test after ≡ times test before + one_if (test h.0) =
                  ap (times test) (given_mark h.0 h.1) ∙ times_push test before h.0 in
                  omega (arith, got, brought, more)
            ]
        | inr c ↦
            let got : weigh (collected_at client mark) ≡ one_if (test c.0) = ap weigh c.1 in
            let brought : weigh (given_at client mark) ≡ 0 = ap weigh (collected_collects client mark c.0 c.1).1 in
            let less : times test before ≡ times test after + one_if (test c.0) =
            ap (times test) (collected_mark c.0 c.1) ∙ times-cons test c.0 after in
            omega (arith, got, brought, less)
      ]

-- ---- nobody else has parcels

-- a receiver that is known has joined
known_receiver : (b c : Bool) → refused_if (not b || not c) Refusal.NoSuchClient ≡ None → c ≡ true
known_receiver true true h = refl
known_receiver true false h = cc
known_receiver false c h = cc

-- a client that is given a parcel has joined
pub given_joined : (limits : Bound) (marks : Timeline) (caller : ℕ) (reply : Reply) (call : Call) →
    IsAnswer limits (readings marks) caller call reply → (client : ℕ) (p : Parcel) →
    given_at client (Called caller reply call) ≡ Some p → has_joined marks client ≡ true
given_joined limits marks caller Reply.Done (Call.Give key to) answer client p h =
    let t : TookEffect limits (readings marks) caller none_key (Call.Give key to) Reply.Done =
    took_effect_all limits (readings marks) caller none_key (Call.Give key to) Reply.Done refl refl answer.told in
    let is : to ≡ client = eqb-true to client (when-Some (to == client) (Parcel.End key) p h).0 in
    ap (has_joined marks) (sym is) ∙ known_receiver (has_joined marks caller) (has_joined marks to) t.known
given_joined limits marks caller Reply.Done (Call.GiveHandle buffer strength to) answer client p h =
    let t : TookEffect limits (readings marks) caller none_key (Call.GiveHandle buffer strength to) Reply.Done =
    took_effect_all limits (readings marks) caller none_key (Call.GiveHandle buffer strength to) Reply.Done refl refl answer.told in
    let is : to ≡ client = eqb-true to client (when-Some (to == client) (Parcel.Handle buffer strength) p h).0 in
    ap (has_joined marks) (sym is) ∙ known_receiver (has_joined marks caller) (has_joined marks to) t.known
given_joined limits marks caller _ _ answer client p h = absurd (false≢true (ap is_some h))

-- so no parcel waits for one that has not
pub stranger_waits_for_none : (pool : ℕ) (limits : Bound) (marks : Timeline) → Grows pool limits [] marks → (client : ℕ) →
    has_joined marks client ≡ false → parcels marks client ≡ []
stranger_waits_for_none pool limits _ Stays client h = refl
stranger_waits_for_none pool limits _ (Loses before origin cause g born) client h = stranger_waits_for_none pool limits before g client h
stranger_waits_for_none pool limits _ (Allocates before collection head g e) client h =
    stranger_waits_for_none pool limits before g client h
stranger_waits_for_none pool limits _ (Ends before collection top g e) client h = stranger_waits_for_none pool limits before g client h
stranger_waits_for_none pool limits _ (Answers before caller reply call g answer) client h =
    let mark : Mark = Called caller reply call in
    let drawn : IsDrawn before = (counted pool limits before g).drawn in
    let stranger : has_joined before client ≡ false =
    false_if (has_joined before client) (λ j. both_ways (has_joined (mark ∷ before) client) (still_joined before mark client j) h) in
    let was : parcels before client ≡ [] = stranger_waits_for_none pool limits before g client stranger in
    elim (none_or_some (collected_at client mark)) [
      | inr c ↦ let no : [] ≡ c.0 ∷ parcels (mark ∷ before) client =
          sym was ∙ collected_mark limits before caller reply call answer drawn client c.0 c.1 in absurd (cc)
      | inl c ↦ elim (none_or_some (given_at client mark)) [
        | inl n ↦ idle_mark limits before caller reply call answer drawn client c n ∙ was
        | inr n ↦ both_ways (has_joined before client) (given_joined limits before caller reply call answer client n.0 n.1) stranger
      ]
    ]

-- ---- clients

-- a client is made by the next event
made_is : (limits : Bound) (marks : Timeline) (caller : ℕ) (reply : Reply) (call : Call) →
    IsAnswer limits (readings marks) caller call reply → (made : ℕ) → joined_at (Called caller reply call) ≡ Some made →
    made ≡ events marks + 1
made_is limits marks caller (Reply.Joined j) Call.Join answer made h =
    let t : TookEffect limits (readings marks) caller none_key Call.Join (Reply.Joined j) =
    took_effect_all limits (readings marks) caller none_key Call.Join (Reply.Joined j) refl refl answer.told in
    let told : Reply.Joined j ≡ Reply.Joined (events marks + 1) = t.answered in
    let is : Some j ≡ Some made = h in
    let e : j ≡ events marks + 1 = cc in
    let f : j ≡ made = cc in
    sym f ∙ e
made_is limits marks caller _ _ answer made h = absurd (false≢true (ap is_some h))

-- that joined never before
not_joined_yet : (marks : Timeline) → AreClients marks → has_joined marks (events marks + 1) ≡ false
not_joined_yet marks old = false_if (has_joined marks (events marks + 1)) (λ e.
    let a = In-list_any (λ c. c == events marks + 1) (clients marks) e in
    let x : a.0 ≤ events marks = old.early a.0 a.1 in
    let y : a.0 ≡ events marks + 1 = eqb-true a.0 (events marks + 1) a.2 in
    omega (arith, x, y))

-- ---- one event of a legal history

module _ (pool : ℕ) (limits : Bound) (history : List Entry) (entry : Entry) (legal : IsLegal pool limits (history ++ entry ∷ [])) where
  -- the timeline before the event
  abbrev old : Timeline
  old = timeline pool history

  -- the timeline before the event grows from no marks, and the event's reply answers its call
  next : NextEvent pool limits history entry
  next = next_event pool limits history entry legal

  -- before the event, no client has collected more parcels than it was given
  were_drawn : IsDrawn (timeline pool history)
  were_drawn = (counted pool limits (timeline pool history) next.grown).drawn

  -- what is got waited first
  pub collected_event : (client : ℕ) (p : Parcel) → collected_at client (entry_mark entry) ≡ Some p →
      parcels (timeline pool history) client ≡ p ∷ parcels (timeline pool (history ++ entry ∷ [])) client
  collected_event client p h =
      collected_mark limits old entry.0 entry.2 entry.1 next.answer were_drawn client p h ∙ (λ i. p ∷ sym next.same.waiting i client)

  -- what is given waits last
  pub given_event : (client : ℕ) (p : Parcel) → given_at client (entry_mark entry) ≡ Some p →
      parcels (timeline pool (history ++ entry ∷ [])) client ≡ parcels (timeline pool history) client ++ p ∷ []
  given_event client p h =
      (λ i. next.same.waiting i client) ∙ given_mark limits old entry.0 entry.2 entry.1 next.answer were_drawn client p h

  -- and else all wait as they did
  pub idle_event : (client : ℕ) → collected_at client (entry_mark entry) ≡ None → given_at client (entry_mark entry) ≡ None →
      parcels (timeline pool (history ++ entry ∷ [])) client ≡ parcels (timeline pool history) client
  idle_event client c h = (λ i. next.same.waiting i client) ∙ idle_mark limits old entry.0 entry.2 entry.1 next.answer were_drawn client c h

  -- a Join adds its client
  pub clients_event : clients (timeline pool (history ++ entry ∷ [])) ≡ cons_option (joined_at (entry_mark entry))
      (clients (timeline pool history))
  clients_event = next.same.joined

  -- which is new
  pub made_event : (made : ℕ) → joined_at (entry_mark entry) ≡ Some made → (made ≡ events (timeline pool history) + 1) ×
      (has_joined (timeline pool history) made ≡ false)
  made_event made h =
      let is : made ≡ events old + 1 = made_is limits old entry.0 entry.2 entry.1 next.answer made h in
      (is, ap (has_joined old) is ∙ not_joined_yet old (counted pool limits old next.grown).clients_are)

  -- and a Shut shuts its caller
  pub shut_event : (client : ℕ) → is_shut (timeline pool (history ++ entry ∷ [])) client ≡ (shuts client (entry_mark entry) || is_shut
      (timeline pool history) client)
  shut_event client = λ i. next.same.shut i client
