-- A line tells how many handles its client has open, and each client has one.
use Rattle.event_laws.proofs.Common.{All, All-cons, All-nil, Bool, Bound, BufferName, Call, Called, Entry, IsLegal, List, MAX_BUFFERS}
use Rattle.event_laws.proofs.Common.{Mark, None, Option, Own, Reply, Some, Strength, Strong, Timeline, Weak, [], after, all_open_of}
use Rattle.event_laws.proofs.Common.{allocated_collections, ap, append_assoc, arith, client_line, clients, cond, cons_option, dropped_at}
use Rattle.event_laws.proofs.Common.{entry_mark, events, false, false≢true, gained_by, get_or, got_at, has_joined, indices_in, is_own}
use Rattle.event_laws.proofs.Common.{is_some, joined, joined_at, joined_from, legal_grows, length, lines_of, losses, lost_by}
use Rattle.event_laws.proofs.Common.{makes_client, only, open_of, opened_at, own_entry, part, part_from, range_with_len, refl, reverse}
use Rattle.event_laws.proofs.Common.{reverse-append, same_strength, sent_at, subst, sum_by, sum_by-append, sum_by-cons, sum_by-same}
use Rattle.event_laws.proofs.Common.{sum_by-zero, sym, timeline, true, ℕ, ◌&&◌, ◌++◌, ◌+◌, ◌<◌, ◌==◌, ◌∙◌, ◌∷◌, ◌≡◌, ◌≤◌}
use Rattle.std.proofs.Common.{append-nil, length-append}
use Rattle.std.proofs.lemmas.Bool.{lt-ltb}
use Rattle.std.proofs.lemmas.List.Elements.{All-map}
use Rattle.sm_names.specs.Legality.{AreAnswers}
use Rattle.event_laws.proofs.HandleBufferLaws.{stranger_has_none}
use Rattle.event_laws.proofs.HandleSumLaws.{all_client_adds}
use Rattle.event_laws.proofs.MomentLaws.{events-fold}
use Rattle.event_laws.proofs.ParcelEventLaws.{clients_event, made_event}
use Rattle.event_laws.specs.declared.line.ClientLine.{ClientLine}
use Rattle.event_laws.specs.Lines.{gains}
use Rattle.event_laws.proofs.LinkLaws.{own_not_yet}

-- ---- what one event brings its client, and takes from it

-- a test of two conditions is a test of the second inside one of the first
both_asked : (a b : Bool) (n : ℕ) → cond (a && b) n 0 ≡ cond a (cond b n 0) 0
both_asked true b n = refl
both_asked false b n = refl

-- an amount of zero is zero, whether the condition holds or not
none_asked : (a : Bool) (n : ℕ) → n ≡ 0 → cond a n 0 ≡ 0
none_asked true n is = is
none_asked false n is = refl

-- what it brings was opened or taken out by it
brought : (client : ℕ) (strength : Strength) (caller : ℕ) (call : Call) (reply : Reply) →
    opened_at (only client) strength (Called caller reply call) + got_at (only client) strength (Called caller reply call) ≡ cond
    (caller == client) (gained_by strength call reply) 0
brought client strength caller (Call.Take key) (Reply.Taken collection taken set) =
    omega (arith, both_asked (caller == client) (same_strength taken strength) (length (indices_in set)))
brought client strength caller (Call.DupHandle buffer dup) Reply.Done =
    omega (arith, both_asked (caller == client) (same_strength dup strength) 1)
brought client strength caller Call.Collect (Reply.CollectedHandle buffer given) =
    omega (arith, both_asked (caller == client) (same_strength given strength) 1)
brought client strength caller _ (Reply.Taken collection taken set) = omega (arith, none_asked (caller == client) 0 refl)
brought client strength caller _ Reply.Done = omega (arith, none_asked (caller == client) 0 refl)
brought client strength caller _ _ = omega (arith, none_asked (caller == client) 0 refl)

-- what it takes was dropped or put in
taken_away : (client : ℕ) (strength : Strength) (caller : ℕ) (call : Call) (reply : Reply) →
    dropped_at (only client) strength (Called caller reply call) + sent_at (only client) strength (Called caller reply call) ≡ cond
    (caller == client) (lost_by strength call reply) 0
taken_away client strength caller (Call.DropHandle buffer given) Reply.Done =
    omega (arith, both_asked (caller == client) (same_strength given strength) 1)
taken_away client strength caller (Call.GiveHandle buffer given to) Reply.Done =
    omega (arith, both_asked (caller == client) (same_strength given strength) 1)
taken_away client strength caller _ Reply.Done = omega (arith, none_asked (caller == client) 0 refl)
taken_away client strength caller _ _ = omega (arith, none_asked (caller == client) 0 refl)

-- a Join brings nothing
join_brings : (strength : Strength) (caller : ℕ) (call : Call) (reply : Reply) → is_some (joined_at (Called caller reply call)) ≡ true →
    gained_by strength call reply ≡ 0
join_brings strength caller Call.Join reply h = refl
join_brings strength caller call (Reply.Joined made) h = refl
join_brings strength caller _ _ h = absurd (false≢true h)

-- and takes nothing
join_takes : (strength : Strength) (caller : ℕ) (call : Call) (reply : Reply) → is_some (joined_at (Called caller reply call)) ≡ true →
    lost_by strength call reply ≡ 0
join_takes strength caller Call.Join reply h = refl
join_takes strength caller call (Reply.Joined made) h = refl
join_takes strength caller _ _ h = absurd (false≢true h)

-- ---- what a part adds up to

-- up to its Join nothing is the client's own
part_early : (client event : ℕ) (xs ys : List Entry) → event + length xs ≤ client + 1 →
    part_from client event (xs ++ ys) ≡ part_from client (event + length xs) ys
part_early client event [] ys few = let same : event ≡ event + 0 = omega arith in ap (λ n. part_from client n ys) same
part_early client event (x ∷ xs) ys few =
    let next : event + 1 + length xs ≡ event + length (x ∷ xs) = omega arith in
    let later = part_early client (event + 1) xs ys (omega (arith, few)) in
    rw (own_not_yet client event x (omega (arith, few))) (later ∙ ap (λ n. part_from client n ys) next)

module _ (client : ℕ) (amount : Call → Reply → ℕ) (one two : Mark → ℕ)
    (each : (caller : ℕ) (call : Call) (reply : Reply) →
    one (Called caller reply call) + two (Called caller reply call) ≡ cond (caller == client) (amount call reply) 0) where
  -- after it all that the client makes is
  amounts_from : (event : ℕ) (es : List Entry) → client < event →
      sum_by (λ (o : Own). amount o.call o.reply) (part_from client event es) ≡ sum_by (λ (e : Entry).
      one (entry_mark e)) es + sum_by (λ (e : Entry). two (entry_mark e)) es
  amounts_from event [] late = refl
  amounts_from event (e ∷ es) late = either (amounts_from (event + 1) es (omega (arith, late))) (e.0 == client) refl
    where
      either : sum_by (λ (o : Own). amount o.call o.reply) (part_from client (event + 1) es) ≡ sum_by (λ (x : Entry).
          one (entry_mark x)) es + sum_by (λ (x : Entry). two (entry_mark x)) es →
          (b : Bool) → (e.0 == client) ≡ b →
          sum_by (λ (o : Own). amount o.call o.reply) (part_from client event (e ∷ es)) ≡ sum_by (λ (x : Entry).
          one (entry_mark x)) (e ∷ es) + sum_by (λ (x : Entry). two (entry_mark x)) (e ∷ es)
      either more true is =
          let own : is_own client event e ≡ true = rw (is, lt-ltb client event late) refl in
          let this : one (entry_mark e) + two (entry_mark e) ≡ amount e.1 e.2 = rw is at (each e.0 e.1 e.2) in
          rw own (omega (
            arith,
            more,
            this,
            sum_by-cons (λ (o : Own). amount o.call o.reply) (own_entry event e) (part_from client (event + 1) es),
            sum_by-cons (λ (x : Entry). one (entry_mark x)) e es,
            sum_by-cons (λ (x : Entry). two (entry_mark x)) e es,
          ))
      either more false is =
          let own : is_own client event e ≡ false = rw is refl in
          let this : one (entry_mark e) + two (entry_mark e) ≡ 0 = rw is at (each e.0 e.1 e.2) in
          rw own (omega (
            arith,
            more,
            this,
            sum_by-cons (λ (x : Entry). one (entry_mark x)) e es,
            sum_by-cons (λ (x : Entry). two (entry_mark x)) e es,
          ))

-- ---- the first events of a history

-- the first events of a history have legal answers, since each depends only on those before it
front_answers : (pool : ℕ) (limits : Bound) (marks : Timeline) (xs ys : List Entry) → AreAnswers pool limits marks (xs ++ ys) →
    AreAnswers pool limits marks xs
front_answers pool limits marks [] ys all = tt
front_answers pool limits marks (x ∷ xs) ys all = (all.0, front_answers pool limits (after pool marks x) xs ys all.1)

-- they are a legal history
front_legal : (pool : ℕ) (limits : Bound) (xs ys : List Entry) → IsLegal pool limits (xs ++ ys) → IsLegal pool limits xs
front_legal pool limits xs ys legal = record {
  answers = front_answers pool limits [] xs ys legal.answers;
  within = (let most : length (xs ++ ys) ≤ limits.events = legal.within in omega (arith, most, length-append xs ys));
}

-- nothing on each buffer is nothing
over_none : (cs is : List ℕ) (f : BufferName → ℕ) → ((b : BufferName) → f b ≡ 0) →
    sum_by (λ c. sum_by (λ i. f (record { collection = c; index = i })) is) cs ≡ 0
over_none cs is f none =
    sum_by-same (λ c. sum_by (λ i. f (record { collection = c; index = i })) is) (λ c. 0) cs
    (λ c. sum_by-same (λ i. f (record { collection = c; index = i })) (λ i. 0) is (λ i. none (record { collection = c; index = i }))
    ∙ sum_by-zero is)
    ∙ sum_by-zero cs

-- a client that has not joined has none open
stranger_all : (pool : ℕ) (limits : Bound) (history : List Entry) → IsLegal pool limits history → (client : ℕ) →
    has_joined (timeline pool history) client ≡ false → (strength : Strength) →
    all_open_of (timeline pool history) client strength ≡ 0
unfolding all_open_of
stranger_all pool limits history legal client stranger strength =
    over_none (allocated_collections (timeline pool history)) (range_with_len 0 MAX_BUFFERS)
    (λ b. open_of (timeline pool history) client b strength)
    (λ b. stranger_has_none pool limits (timeline pool history) (legal_grows pool limits history legal) client b strength stranger)

module _ (pool : ℕ) (limits : Bound) (history : List Entry) (legal : IsLegal pool limits history) where
  -- what the client's part brought and did not take away is open
  abbrev Balances : ℕ → Type 0
  Balances client = (strength : Strength) → gains strength (part client history) ≡ losses strength (part client history) + all_open_of
      (timeline pool history) client strength

  module _ (before : List Entry) (e : Entry) (es : List Entry) (on : history ≡ before ++ e ∷ es) where
    -- the history is the part up to and including this event, followed by the later events
    front_is : history ≡ (before ++ e ∷ []) ++ es
    front_is = on ∙ sym (append_assoc before (e ∷ []) es)

    -- the events up to and including this one form a legal history
    legal_front : IsLegal pool limits (before ++ e ∷ [])
    legal_front = front_legal pool limits (before ++ e ∷ []) es (subst (IsLegal pool limits) front_is legal)

    -- the events before this one form a legal history
    legal_before : IsLegal pool limits before
    legal_before = front_legal pool limits before (e ∷ []) legal_front

    -- this event makes the history before it longer by one
    as_long : length (before ++ e ∷ []) ≡ length before + 1
    as_long = length-append before (e ∷ [])

    -- a new client has the number of the event, and never joined before
    made_now : (made : ℕ) → joined_at (entry_mark e) ≡ Some made → (made ≡ length before + 1) ×
        (has_joined (timeline pool before) made ≡ false)
    made_now made is =
        let so = made_event pool limits before e legal_front made is in
        let many : events (timeline pool before) ≡ length before = omega (arith, events-fold pool [] before) in
        (omega (arith, so.0, many), so.1)

    -- the part begins after the Join
    part_is : part (length before + 1) history ≡ part_from (length before + 1) (length before + 1 + 1) es
    part_is =
        let next : 1 + length (before ++ e ∷ []) ≡ length before + 1 + 1 = omega (arith, as_long) in
        ap (part (length before + 1)) front_is
        ∙ (part_early (length before + 1) 1 (before ++ e ∷ []) es (omega (arith, as_long))
        ∙ ap (λ n. part_from (length before + 1) n es) next)

    -- a sum over all is one over both sides and the Join
    sides : (f : Entry → ℕ) → sum_by f history ≡ sum_by f before + (f e + sum_by f es)
    sides f = ap (sum_by f) on ∙ (sum_by-append f before (e ∷ es) ∙ ap (λ n. sum_by f before + n) (sum_by-cons f e es))

    -- a client that this event makes had nothing open before, so its own part balances
    balances_at : makes_client e ≡ true → has_joined (timeline pool before) (length before + 1) ≡ false → Balances (length before + 1)
    balances_at join stranger strength =
        let client = length before + 1 in
        let o : Entry → ℕ = λ x. opened_at (only client) strength (entry_mark x) in
        let g : Entry → ℕ = λ x. got_at (only client) strength (entry_mark x) in
        let d : Entry → ℕ = λ x. dropped_at (only client) strength (entry_mark x) in
        let s : Entry → ℕ = λ x. sent_at (only client) strength (entry_mark x) in
        let came : o e + g e ≡ 0 = brought client strength e.0 e.1 e.2
        ∙ none_asked (e.0 == client) (gained_by strength e.1 e.2) (join_brings strength e.0 e.1 e.2 join) in
        let went : d e + s e ≡ 0 = taken_away client strength e.0 e.1 e.2
        ∙ none_asked (e.0 == client) (lost_by strength e.1 e.2) (join_takes strength e.0 e.1 e.2 join) in
        let gained : gains strength (part client history) ≡ sum_by o es + sum_by g es =
        ap (gains strength) part_is
        ∙ amounts_from client (gained_by strength) (opened_at (only client) strength) (got_at (only client) strength)
        (brought client strength) (client + 1) es (omega arith) in
        let lost : losses strength (part client history) ≡ sum_by d es + sum_by s es =
        ap (losses strength) part_is
        ∙ amounts_from client (lost_by strength) (dropped_at (only client) strength) (sent_at (only client) strength)
        (taken_away client strength) (client + 1) es (omega arith) in
        omega (
          arith,
          came,
          went,
          gained,
          lost,
          sides o,
          sides g,
          sides d,
          sides s,
          stranger_all pool limits before legal_before client stranger strength,
          all_client_adds pool limits before legal_before strength client,
          all_client_adds pool limits history legal strength client,
        )

  -- so does each client that joined from here on
  balances_from : (before rest : List Entry) → history ≡ before ++ rest → All Balances (joined_from (length before + 1) rest)
  balances_from before [] on = All-nil Balances
  balances_from before (e ∷ es) on =
      either (balances_from (before ++ e ∷ []) es (front_is before e es on)) (joined_at (entry_mark e)) refl
    where
      either : All Balances (joined_from (length (before ++ e ∷ []) + 1) es) → (o : Option ℕ) → joined_at (entry_mark e) ≡ o →
          All Balances (joined_from (length before + 1) (e ∷ es))
      either more None none = rw none (subst (λ n. All Balances (joined_from (n + 1) es)) (as_long before e es on) more)
      either more (Some made) some =
          let now = made_now before e es on made some in
          let join : makes_client e ≡ true = rw some refl in
          let stranger : has_joined (timeline pool before) (length before + 1) ≡ false =
          subst (λ n. has_joined (timeline pool before) n ≡ false) now.0 now.1 in
          let later = subst (λ n. All Balances (joined_from (n + 1) es)) (as_long before e es on) more in
          rw some (All-cons Balances (length before + 1) (joined_from (length before + 1 + 1) es) (balances_at before e es on join stranger)
          later)

  -- each line tells what its client has open
  abbrev IsTold : ClientLine → Type 0
  IsTold line = (line.strong ≡ all_open_of (timeline pool history) line.client Strong) ×
      (line.weak ≡ all_open_of (timeline pool history) line.client Weak)

  -- each client that joined balances, so its line tells what it has open
  pub lines_told : All IsTold (lines_of history)
  lines_told = All-map IsTold (client_line history) (joined history) (λ k d below.
      told (get_or (joined history) k d) (balances_from [] history refl k d below))
    where
      told : (client : ℕ) → Balances client → IsTold (client_line history client)
      told client b = (omega (arith, b Strong), omega (arith, b Weak))

  -- the clients that joined so far, and those that join from here on
  members_from : (before rest : List Entry) → history ≡ before ++ rest →
      reverse (clients (timeline pool before)) ++ joined_from (length before + 1) rest ≡ reverse (clients (timeline pool history))
  members_from before [] on =
      append-nil (reverse (clients (timeline pool before))) ∙ ap (λ h. reverse (clients (timeline pool h))) (sym (on ∙ append-nil before))
  members_from before (e ∷ es) on =
      either (members_from (before ++ e ∷ []) es (front_is before e es on)) (joined_at (entry_mark e)) refl
    where
      either : reverse (clients (timeline pool (before ++ e ∷ []))) ++ joined_from (length (before ++ e ∷ []) + 1) es ≡ reverse
          (clients (timeline pool history)) →
          (o : Option ℕ) → joined_at (entry_mark e) ≡ o →
          reverse (clients (timeline pool before)) ++ joined_from (length before + 1) (e ∷ es) ≡ reverse
          (clients (timeline pool history))
      either more None none =
          let now : clients (timeline pool (before ++ e ∷ [])) ≡ clients (timeline pool before) =
          clients_event pool limits before e (legal_front before e es on) ∙ ap (λ o. cons_option o (clients (timeline pool before))) none in
          rw none (ap (λ cs. reverse cs ++ joined_from (length before + 1 + 1) es) (sym now)
          ∙ (ap (λ n. reverse (clients (timeline pool (before ++ e ∷ []))) ++ joined_from (n + 1) es) (sym (as_long before e es on))
          ∙ more))
      either more (Some made) some =
          let is = (made_now before e es on made some).0 in
          let now : clients (timeline pool (before ++ e ∷ [])) ≡ made ∷ clients (timeline pool before) =
          clients_event pool limits before e (legal_front before e es on) ∙ ap (λ o. cons_option o (clients (timeline pool before))) some in
          let last : reverse (clients (timeline pool (before ++ e ∷ []))) ≡ reverse (clients (timeline pool before)) ++ (length
          before + 1) ∷ [] =
          ap reverse now ∙ (reverse-append (made ∷ []) (clients (timeline pool before))
          ∙ ap (λ n. reverse (clients (timeline pool before)) ++ n ∷ []) is) in
          rw some (sym (append_assoc (reverse (clients (timeline pool before))) ((length before + 1) ∷ [])
          (joined_from (length before + 1 + 1) es))
          ∙ (ap (λ l. l ++ joined_from (length before + 1 + 1) es) (sym last)
          ∙ (ap (λ n. reverse (clients (timeline pool (before ++ e ∷ []))) ++ joined_from (n + 1) es) (sym (as_long before e es on))
          ∙ more)))

  -- the clients of the lines are all clients, the newest last
  pub members_are : joined history ≡ reverse (clients (timeline pool history))
  members_are = members_from [] history refl
