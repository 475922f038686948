-- A record that is just that of its actors begins with their joins.
use Rattle.thread_runs.proofs.Common.{All, Bool, Call, Entry, JoinsFirst, List, None, Reply, Some, [], ap, arith, eqb-true, false}
use Rattle.thread_runs.proofs.Common.{first_clients, first_unfit, if◌then◌else◌, joins, lt-ltb, nat_le, refl, subst, suc, sym, true, zero}
use Rattle.thread_runs.proofs.Common.{ℕ, ◌&&◌, ◌++◌, ◌+◌, ◌<◌, ◌==◌, ◌∙◌, ◌∷◌, ◌≡◌, ◌≤◌}
use Rattle.std.proofs.lemmas.Bool.{and_parts, le-ltb, leb-true}
use Rattle.std.proofs.lemmas.List.Elements.{All-cons, All-nil}
use Rattle.thread_runs.specs.Company.{is_fit, joins_as}
use Rattle.thread_runs.proofs.JoinLaws.{one-join}

-- such an event is a join of this client
is-join : (number client : ℕ) (call : Call) (reply : Reply) → joins_as number client call reply ≡ true →
    ◌≡◌ {A = Entry} (client, call, reply) (0, Call.Join, Reply.Joined number)
is-join number client Call.Join (Reply.Joined id) told =
    let both = and_parts (client == 0) (id == number) told in
    λ i. (eqb-true client 0 both.0 i, Call.Join, Reply.Joined (eqb-true id number both.1 i))
is-join number client _ _ told = cc

-- if the first event of these fits, and none is the first that does not, the event fits and none behind it is
fits-on : (count at : ℕ) (e : Entry) (es : List Entry) → first_unfit count at (e ∷ es) ≡ None →
    (is_fit count at e ≡ true) × (first_unfit count (at + 1) es ≡ None)
fits-on count at e es none = by (is_fit count at e) refl none
  where
    -- nothing is no event
    apart : (n : ℕ) → Some n ≡ None → ⊥
    apart n is = cc

    -- by whether it fits
    by : (b : Bool) → is_fit count at e ≡ b → (if b then first_unfit count (at + 1) es else Some (at + 1)) ≡ None →
        (is_fit count at e ≡ true) × (first_unfit count (at + 1) es ≡ None)
    by true is none = (is, none)
    by false is none = absurd (apart (at + 1) none)

-- the first events are so many joins, and none behind them is the first that does not fit
record HasBegun (count at : ℕ) (history : List Entry) : Type 0 where
  rest : List Entry
  split : history ≡ joins (first_clients at) ++ rest
  fits : first_unfit count at rest ≡ None

-- one join more, if not all are behind
begins-on : (count at : ℕ) (history : List Entry) → at < count → HasBegun count at history → HasBegun count (suc at) history
begins-on count at history more b = by b.rest b.split b.fits
  where
    -- nothing is no number
    apart : (n : ℕ) → Some n ≡ None → ⊥
    apart n is = cc

    -- by whether there is an event
    by : (rest : List Entry) → history ≡ joins (first_clients at) ++ rest → first_unfit count at rest ≡ None →
        HasBegun count (suc at) history
    by [] split none = absurd (apart (at + 1)
        (sym (ap (λ (b : Bool). if b then Some (at + 1) else None) (lt-ltb at count more)) ∙ none))
    by (e ∷ es) split none =
        let on = fits-on count at e es none in
        let join : joins_as (at + 1) e.0 e.1 e.2 ≡ true =
        sym (ap (λ (b : Bool). if b then joins_as (at + 1) e.0 e.1 e.2 else (nat_le 1 e.0 && nat_le e.0 count)) (lt-ltb at count more))
        ∙ on.0 in
        let next : at + 1 ≡ suc at = omega arith in
        record {
          rest = es;
          split = split ∙ (ap (λ (x : Entry). joins (first_clients at) ++ x ∷ es) (is-join (at + 1) e.0 e.1 e.2 join)
              ∙ sym (one-join at es));
          fits = subst (λ (n : ℕ). first_unfit count n es ≡ None) next on.1;
        }

-- so many joins, by induction on how many
begins : (count at : ℕ) (history : List Entry) → at ≤ count → first_unfit count 0 history ≡ None → HasBegun count at history
begins count zero history few none = record { rest = history; split = refl; fits = none }
begins count (suc at) history few none =
    begins-on count at history (omega (arith, few)) (begins count at history (omega (arith, few)) none)

-- behind them each event is of an actor, by induction on the record
theirs : (count at : ℕ) (rest : List Entry) → count ≤ at → first_unfit count at rest ≡ None →
    All (λ (e : Entry). (1 ≤ e.0) × (e.0 ≤ count)) rest
theirs count at [] past none = All-nil (λ (e : Entry). (1 ≤ e.0) × (e.0 ≤ count))
theirs count at (e ∷ es) past none =
    let on = fits-on count at e es none in
    let told : (nat_le 1 e.0 && nat_le e.0 count) ≡ true =
    sym (ap (λ (b : Bool). if b then joins_as (at + 1) e.0 e.1 e.2 else (nat_le 1 e.0 && nat_le e.0 count)) (le-ltb at count past))
    ∙ on.0 in
    let both = and_parts (nat_le 1 e.0) (nat_le e.0 count) told in
    All-cons (λ (x : Entry). (1 ≤ x.0) × (x.0 ≤ count)) e es (leb-true 1 e.0 both.0, leb-true e.0 count both.1)
    (theirs count (at + 1) es (omega (arith, past)) on.1)

-- where no event is unfit, all join first
pub joins_first_told : (count : ℕ) (history : List Entry) → first_unfit count 0 history ≡ None → JoinsFirst count history
joins_first_told count history none =
    let b = begins count count history (omega arith) none in
    record { rest = b.rest; split = b.split; theirs = theirs count count b.rest (omega arith) b.fits }
