-- Chained events.
use Rattle.event_laws.proofs.Common.{Bool, Entry, Links, List, Stands, [], ap, arith, drop, eqb-true, false, get_or, get_or_read, is_own}
use Rattle.event_laws.proofs.Common.{length, ltb-false, ltb-true, own_entry, part, part_from, refl, rest_at, subst, sym, true, ℕ, ◌&&◌}
use Rattle.event_laws.proofs.Common.{◌+◌, ◌-◌, ◌<◌, ◌==◌, ◌∙◌, ◌∷◌, ◌≡◌, ◌≤◌}
use Rattle.std.proofs.lemmas.Bool.{ne_eqb, le-ltb}
use Rattle.std.proofs.lemmas.List.{drop_more, drop_all, drop-drop}
use Rattle.std.specs.Prelude.{nat_lt}
use Rattle.event_laws.specs.Links.{first_from}

-- ---- whose an event is

-- a client that joined no sooner than the event did not make it
pub own_not_yet : (client event : ℕ) (e : Entry) → event ≤ client → is_own client event e ≡ false
own_not_yet client event e before = either (e.0 == client)
  where
    -- by cases: a client's own events come after the one that made it
    either : (b : Bool) → (b && nat_lt client event) ≡ false
    either true = le-ltb client event before
    either false = refl

-- ---- walks

-- the chain from here on is what the client made from here on
pub record Jumps (history : List Entry) (client event : ℕ) (xs : List Entry) : Type 0 where
  pub rest : rest_at history client (first_from client event xs) ≡ part_from client event xs
  pub stands : Stands history client (first_from client event xs)

-- so it is wherever one begins
pub jumps : (history : List Entry) (client passed : ℕ) (xs : List Entry) → drop passed history ≡ xs → Jumps history client (passed + 1) xs
jumps history client passed [] is = record { rest = refl; stands = record { begins = λ some. absurd (omega arith) } }
jumps history client passed (e ∷ es) is =
    let tail : drop (passed + 1) history ≡ es = sym (drop-drop 1 passed history) ∙ ap (drop 1) is in
    either (jumps history client (passed + 1) es tail) (is_own client (passed + 1) e) refl
  where
    -- by arithmetic
    one_less : passed + 1 - 1 ≡ passed
    one_less = omega arith

    -- by cases: an own event is where its part begins, and at any other the part begins further on
    either : Jumps history client (passed + 1 + 1) es → (b : Bool) → is_own client (passed + 1) e ≡ b →
        Jumps history client (passed + 1) (e ∷ es)
    either on true own =
        let here : drop (passed + 1 - 1) history ≡ e ∷ es = ap (λ i. drop i history) one_less ∙ is in
        let first : first_from client (passed + 1) (e ∷ es) ≡ passed + 1 = rw own refl in
        let whole : rest_at history client (passed + 1) ≡ part_from client (passed + 1) (e ∷ es) =
        rw (ne_eqb (passed + 1) 0 (λ z. absurd (omega arith))) (ap (part_from client (passed + 1)) here) in
        let begins : 0 < passed + 1 → first_from client (passed + 1) (drop (passed + 1 - 1) history) ≡ passed + 1 =
        λ some. ap (first_from client (passed + 1)) here ∙ first in
        let at : Stands history client (passed + 1) = record { begins = begins } in
        record {
          rest = ap (rest_at history client) first ∙ whole;
          stands = subst (Stands history client) (sym first) at;
        }
    either on false not_own =
        let first : first_from client (passed + 1) (e ∷ es) ≡ first_from client (passed + 1 + 1) es = rw not_own refl in
        let part_is : part_from client (passed + 1) (e ∷ es) ≡ part_from client (passed + 1 + 1) es = rw not_own refl in
        record {
          rest = ap (rest_at history client) first ∙ (on.rest ∙ sym part_is);
          stands = subst (Stands history client) (sym first) on.stands;
        }

-- whose id is past the record made nothing after its Join
pub none_from : (client event : ℕ) (xs : List Entry) → event + length xs ≤ client + 1 → first_from client event xs ≡ 0
none_from client event [] far = refl
none_from client event (e ∷ es) far = rw (own_not_yet client event e (omega arith)) (none_from client (event + 1) es (omega arith))

-- an id that is no greater than the record has its chain
pub first_is : (history : List Entry) (first next : List ℕ) (client event : ℕ) → Links 0 first next history → client < length history →
    event ≡ get_or first client event → (rest_at history client event ≡ part client history) × Stands history client event
first_is history first next client event links known read =
    let fits : client < length first = omega (arith, links.all_first) in
    let is : event ≡ first_from client 1 history = get_or_read first client event fits read 0 ∙ links.firsts client known in
    let on = jumps history client 0 history refl in
    (ap (rest_at history client) is ∙ on.rest, subst (Stands history client) (sym is) on.stands)

-- and one that is greater has none
pub none_is : (history : List Entry) (client : ℕ) → length history ≤ client → [] ≡ part client history
none_is history client past =
    let on = jumps history client 0 history refl in
    ap (rest_at history client) (sym (none_from client 1 history (omega arith))) ∙ on.rest

-- the first event is none, or none of those before
not_before : (client event : ℕ) (xs : List Entry) → 0 < first_from client event xs → event ≤ first_from client event xs
not_before client event [] some = absurd (omega (arith, some))
not_before client event (e ∷ es) some = either (not_before client (event + 1) es) (is_own client event e) refl some
  where
    -- by cases: an own event is the first, and otherwise the first is further on
    either : (0 < first_from client (event + 1) es → event + 1 ≤ first_from client (event + 1) es) → (b : Bool) →
        is_own client event e ≡ b → 0 < first_from client event (e ∷ es) → event ≤ first_from client event (e ∷ es)
    either on true own some = rw own (omega arith)
    either on false other some =
        let s : 0 < first_from client (event + 1) es = rw other at some in
        let more = on s in
        rw other (omega (arith, more))

-- an event of the client's part is in the record
pub stands_within : (history : List Entry) (client event : ℕ) → 0 < event → Stands history client event → event ≤ length history
stands_within history client event some stands = either (nat_lt (length history) event) refl
  where
    -- past the record no part begins, so an event that stands is in it
    either : (b : Bool) → nat_lt (length history) event ≡ b → event ≤ length history
    either true past =
        let far : length history < event = ltb-true (length history) event past in
        let over : drop (event - 1) history ≡ [] = drop_all (event - 1) history (omega (arith, far)) in
        let none : 0 ≡ event = ap (first_from client event) (sym over) ∙ stands.begins some in
        absurd (omega (arith, none, some))
    either false there = ltb-false (length history) event there

-- one event of the client's part, and the next
pub record Steps (history : List Entry) (client event : ℕ) (entry : Entry) (next : ℕ) : Type 0 where
  pub rest : rest_at history client event ≡ own_entry event entry ∷ rest_at history client next
  pub stands : Stands history client next

-- an event of the client's part is the client's own, and its link names the next one
steps_at : (history : List Entry) (client k : ℕ) (entry : Entry) (first next : List ℕ) → Stands history client (k + 1) →
    entry ≡ get_or history k entry →
    Links 0 first next history → Steps history client (k + 1) entry (get_or next k 0)
steps_at history client k entry first next stands is links = both (is_own client (k + 1) entry) refl
  where
    -- since an event of a client's part is in the record
    within : k < length history
    within = omega (arith, stands_within history client (k + 1) (omega arith) stands)

    -- the record from that event on begins with it
    split : drop (k + 1 - 1) history ≡ entry ∷ (drop (k + 1) history)
    split = let one_less : k + 1 - 1 ≡ k = omega arith in ap (λ i. drop i history) one_less ∙ (drop_more history k entry within
        ∙ ap (λ x. x ∷ (drop (k + 1) history)) (sym is))

    -- the part that begins there begins with that event
    begins : first_from client (k + 1) (entry ∷ (drop (k + 1) history)) ≡ k + 1
    begins = ap (first_from client (k + 1)) (sym split) ∙ stands.begins (omega arith)

    -- by cases: an event of another would make the part begin later; for its own the link names the next
    both : (b : Bool) → is_own client (k + 1) entry ≡ b → Steps history client (k + 1) entry (get_or next k 0)
    both false other =
        let later : first_from client (k + 1 + 1) (drop (k + 1) history) ≡ k + 1 = rw other at begins in
        let some : 0 < first_from client (k + 1 + 1) (drop (k + 1) history) = omega (arith, later) in
        absurd (omega (arith, later, not_before client (k + 1 + 1) (drop (k + 1) history) some))
    both true own =
        let one : entry.0 ≡ client = of_client (entry.0 == client) refl own in
        let of_its : is_own entry.0 (k + 1) entry ≡ true = ap (λ c. is_own c (k + 1) entry) one ∙ own in
        let linked : get_or next k 0 ≡ first_from client (k + 1 + 1) (drop (k + 1) history) =
        links.nexts k entry (omega arith) within is of_its ∙ ap (λ c. first_from c (k + 1 + 1) (drop (k + 1) history)) one in
        let on = jumps history client (k + 1) (drop (k + 1) history) refl in
        let here : rest_at history client (k + 1) ≡ part_from client (k + 1) (entry ∷ (drop (k + 1) history)) =
        rw (ne_eqb (k + 1) 0 (λ z. absurd (omega (arith, z)))) (ap (part_from client (k + 1)) split) in
        let taken : part_from client (k + 1) (entry ∷ (drop (k + 1) history)) ≡ own_entry (k + 1) entry ∷ part_from client (k + 1 + 1)
        (drop (k + 1) history) = rw own refl in
        record {
          rest = here ∙ (taken ∙ ap (λ l. own_entry (k + 1) entry ∷ l) (sym on.rest ∙ ap (rest_at history client) (sym linked)));
          stands = subst (Stands history client) (sym linked) on.stands;
        }
      where
        of_client : (b : Bool) → (entry.0 == client) ≡ b → (b && nat_lt client (k + 1)) ≡ true → entry.0 ≡ client
        of_client true same own = eqb-true entry.0 client same
        of_client false same own = cc

-- so it is at each event
pub steps : (history : List Entry) (client event : ℕ) (entry : Entry) (first next : List ℕ) (read : ℕ) → 0 < event →
    Stands history client event →
    entry ≡ get_or history (event - 1) entry → Links 0 first next history → read ≡ get_or next (event - 1) read →
    Steps history client event entry read
steps history client event entry first next read some stands is links got =
    let whole : event ≡ event - 1 + 1 = omega (arith, some) in
    let at : Stands history client (event - 1 + 1) = subst (Stands history client) whole stands in
    let fits : event - 1 < length next = omega (arith, links.all_next, stands_within history client event some stands, some) in
    let one : get_or next (event - 1) 0 ≡ read = sym (get_or_read next (event - 1) read fits got 0) in
    let on = steps_at history client (event - 1) entry first next at is links in
    subst (λ n. Steps history client event entry n) one (subst (λ n. Steps history client n entry (get_or next (event - 1) 0)) (sym whole)
    on)
