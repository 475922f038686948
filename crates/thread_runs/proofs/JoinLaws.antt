-- Records in which all actors join before all other events.
use Rattle.thread_runs.proofs.Common.{All, Bool, Call, Entry, Leads, List, None, Own, Reply, Shows, Some, State, [], ap, append-nil}
use Rattle.thread_runs.proofs.Common.{append_assoc, arith, count_first, eq-or-lt_of_le, false, first_clients, first_stage, if◌then◌else◌}
use Rattle.thread_runs.proofs.Common.{inl, inr, joined, joins, length, length-append, length-map, lt-ltb, map, map-append, nat_lt, ne_eqb}
use Rattle.thread_runs.proofs.Common.{option_map, pairs_of, part, refl, shows_on, slice_get, slice_get-map, slice_get_past, subst, suc}
use Rattle.thread_runs.proofs.Common.{sym, true, zero, ℕ, ◌&&◌, ◌++◌, ◌+◌, ◌-◌, ◌<◌, ◌==◌, ◌∙◌, ◌∷◌, ◌≡◌, ◌≤◌}
use Rattle.std.proofs.lemmas.List.Elements.{All-head, All-tail}
use Rattle.event_laws.specs.Members.{joined_from}
use Rattle.event_laws.specs.Parts.{own_entry, part_from}
use Rattle.thread_runs.proofs.OncePlanLaws.{get-before, get-behind}
use Rattle.thread_runs.proofs.RunPlays.{AreOf, calls_by}

-- ---- the clients that join first

-- each has the number of its place and one, by induction on how many
pub first-at : (count actor : ℕ) → actor < count → slice_get (first_clients count) actor ≡ Some (actor + 1)
first-at zero actor less = absurd (omega (arith, less))
first-at (suc count) actor less = elim (eq-or-lt_of_le {n = actor} {m = count} (omega (arith, less))) [
  | inl is ↦
      ap (λ (n : ℕ). slice_get (first_clients count ++ (n + 1) ∷ []) actor) (sym is)
      ∙ (ap (slice_get (first_clients count ++ (actor + 1) ∷ [])) (is ∙ sym (count_first count))
      ∙ get-behind (first_clients count) [] (actor + 1))
  | inr before ↦ get-before (first_clients count) ((count + 1) ∷ []) actor (actor + 1) (first-at count actor before)
]

-- so the actor of each place is there at the start
pub first-there : (count actor : ℕ) → actor < count →
    slice_get (map (λ (client : ℕ). first_stage) (first_clients count)) actor ≡ Some first_stage
first-there count actor less = slice_get-map (λ (client : ℕ). first_stage) (first_clients count) actor
    ∙ ap (option_map (λ (client : ℕ). first_stage)) (first-at count actor less)

-- and no more
pub none-beyond : (count actor : ℕ) → count ≤ actor →
    slice_get (map (λ (client : ℕ). first_stage) (first_clients count)) actor ≡ None
none-beyond count actor past = slice_get_past (map (λ (client : ℕ). first_stage) (first_clients count)) actor
    (omega (arith, past, count_first count, length-map (first_clients count) (λ (client : ℕ). first_stage)))

-- ---- their joins

-- the join of one client more stands behind the joins before it
pub one-join : (count : ℕ) (rest : List Entry) →
    joins (first_clients (suc count)) ++ rest ≡ joins (first_clients count) ++ (0, Call.Join, Reply.Joined (count + 1)) ∷ rest
one-join count rest = ap (λ (l : List Entry). l ++ rest)
    (map-append (λ (client : ℕ). (0, Call.Join, Reply.Joined client)) (first_clients count) ((count + 1) ∷ []))
    ∙ append_assoc (joins (first_clients count)) ((0, Call.Join, Reply.Joined (count + 1)) ∷ []) rest

-- the clients that join in the record are those, and those of the rest, by induction on how many
joins-first : (count : ℕ) (rest : List Entry) →
    joined (joins (first_clients count) ++ rest) ≡ first_clients count ++ joined_from (count + 1) rest
joins-first zero rest = refl
joins-first (suc count) rest =
    let next : count + 1 + 1 ≡ suc count + 1 = omega arith in
    ap joined (one-join count rest)
    ∙ (joins-first count ((0, Call.Join, Reply.Joined (count + 1)) ∷ rest)
    ∙ (ap (λ (n : ℕ). first_clients count ++ (count + 1) ∷ joined_from n rest) next
    ∙ sym (append_assoc (first_clients count) ((count + 1) ∷ []) (joined_from (suc count + 1) rest))))

-- a list of no element is empty
none-there : {A : Type 0} (xs : List A) → length xs ≡ 0 → xs ≡ []
none-there [] none = refl
none-there (x ∷ xs) none = absurd (omega (arith, none))

-- if so many clients join in all, they are just those
pub just-first : (count : ℕ) (rest : List Entry) → length (joined (joins (first_clients count) ++ rest)) ≡ count →
    joined (joins (first_clients count) ++ rest) ≡ first_clients count
just-first count rest many =
    let all = joins-first count rest in
    let more : length (joined (joins (first_clients count) ++ rest)) ≡ length (first_clients count ++ joined_from (count + 1) rest) =
    ap length all in
    all ∙ (ap (λ (l : List ℕ). first_clients count ++ l) (none-there (joined_from (count + 1) rest)
    (omega (arith, many, more, count_first count, length-append (first_clients count) (joined_from (count + 1) rest))))
    ∙ append-nil (first_clients count))

-- ---- a client's part of the record

-- the joins are no part of it, by induction on how many
part-behind : (client count : ℕ) (rest : List Entry) → 1 ≤ client →
    part client (joins (first_clients count) ++ rest) ≡ part_from client (count + 1) rest
part-behind client zero rest some = refl
part-behind client (suc count) rest some =
    let next : count + 1 + 1 ≡ suc count + 1 = omega arith in
    let later : List Own = part_from client (count + 1 + 1) rest in
    ap (part client) (one-join count rest)
    ∙ (part-behind client count ((0, Call.Join, Reply.Joined (count + 1)) ∷ rest) some
    ∙ (ap (λ (b : Bool). if b && nat_lt client (count + 1)
    then own_entry (count + 1) (0, Call.Join, Reply.Joined (count + 1)) ∷ later else later)
    (ne_eqb 0 client (λ is. absurd (omega (arith, some, is))))
    ∙ ap (λ (n : ℕ). part_from client n rest) next))

-- behind a client's join its part has just the events that it made, by induction on the record
part-calls : (client event : ℕ) (es : List Entry) → client < event → pairs_of (part_from client event es) ≡ calls_by client es
part-calls client event [] behind = refl
part-calls client event (e ∷ es) behind =
    ap (λ (b : Bool). pairs_of (if (e.0 == client) && b then own_entry event e ∷ part_from client (event + 1) es
    else part_from client (event + 1) es)) (lt-ltb client event behind)
    ∙ by (e.0 == client) (part-calls client (event + 1) es (omega (arith, behind)))
  where
    -- by whether it made the event
    by : (b : Bool) → pairs_of (part_from client (event + 1) es) ≡ calls_by client es →
        pairs_of (if b && true then own_entry event e ∷ part_from client (event + 1) es else part_from client (event + 1) es)
        ≡ (if b then (e.1, e.2) ∷ calls_by client es else calls_by client es)
    by true later = ap (λ (l : List (Call × Reply)). (e.1, e.2) ∷ l) later
    by false later = later

-- so the client of a place has made these calls
pub calls-of-part : (count actor : ℕ) (rest : List Entry) → actor < count →
    pairs_of (part (actor + 1) (joins (first_clients count) ++ rest)) ≡ calls_by (actor + 1) rest
calls-of-part count actor rest less =
    ap pairs_of (part-behind (actor + 1) count rest (omega arith)) ∙ part-calls (actor + 1) (count + 1) rest (omega (arith, less))

-- ---- the rest of the record

-- each of its events is of an actor, by induction on the record
pub theirs-are : (count : ℕ) (rest : List Entry) → All (λ (e : Entry). (1 ≤ e.0) × (e.0 ≤ count)) rest → AreOf count rest
theirs-are count [] all = tt
theirs-are count (e ∷ es) all =
    let here = All-head (λ (x : Entry). (1 ≤ x.0) × (x.0 ≤ count)) e es all in (
      (e.0 - 1, omega (arith, here.0, here.1), omega (arith, here.0)),
      theirs-are count es (All-tail (λ (x : Entry). (1 ≤ x.0) × (x.0 ≤ count)) e es all),
    )

-- a core that made the events of two records made those of the first before those of the second, by induction on the first
pub leads-split : (one other : List Entry) (first last : State) → Leads first (one ++ other) last →
    (mid : State) × Leads first one mid × Leads mid other last
leads-split [] other first last leads = (first, refl, leads)
leads-split (e ∷ one) other first last leads =
    let more = leads-split one other leads.0 last leads.2 in
    (more.0, (leads.0, leads.1, more.1), more.2)

-- what it shows grows by them, by induction on the record
pub leads-shows : (made history : List Entry) (first last : State) → Shows first history → Leads first made last →
    Shows last (history ++ made)
leads-shows [] history first last shows leads =
    subst (λ (s : State). Shows s (history ++ [])) (sym leads) (subst (Shows first) (sym (append-nil history)) shows)
leads-shows (e ∷ made) history first last shows leads =
    subst (Shows last) (append_assoc history (e ∷ []) made)
    (leads-shows made (history ++ e ∷ []) leads.0 last (shows_on first leads.0 history e.0 e.1 e.2 shows leads.1) leads.2)
