-- Handles that were ever moved are on the buffers that are there, of which a collection has `MAX_BUFFERS` at most.
use Rattle.event_laws.proofs.Common.{Allocated, Allocates, Answers, Bool, Bound, BufferName, Buffers, Call, Called, Ends, GoesBy, Grows}
use Rattle.event_laws.proofs.Common.{List, ListsAllocated, Loses, MAX_BUFFERS, Mark, NodeKey, None, Option, Reply, Some, Stays, Strength}
use Rattle.event_laws.proofs.Common.{Timeline, [], allocated, allocated_collections, and_both, and_right, any_one, anyone, ap, arith}
use Rattle.event_laws.proofs.Common.{birth_of, births, both_ways, buffer_names, buffers_of, client-le-total, drops, drops-le-opens}
use Rattle.event_laws.proofs.Common.{either_way, eq-eqb, eqb-true, false, false_if, false≢true, first_some, forced_why, has_joined, inl}
use Rattle.event_laws.proofs.Common.{inr, is_none, is_some, lands, lands-le-lifts, lifts, list_any, loses, ltb-false, ltb-true, map}
use Rattle.event_laws.proofs.Common.{names, not, one, only, open_of, open_total, opens, option_map_or, ordered, over_buffers}
use Rattle.event_laws.proofs.Common.{range_with_len, refl, same_buffer, subst, suc, sum_by, sum_by-cons, sum_by-same, sym, times}
use Rattle.event_laws.proofs.Common.{times-cons, true, zero, ℕ, ◌+◌, ◌<◌, ◌==◌, ◌∙◌, ◌∷◌, ◌≡◌, ◌≤◌}
use Rattle.std.proofs.Common.{nat_lt}
use Rattle.sm_names.specs.declared.outcomes.Failure.{Failure}
use Rattle.sm_names.specs.Forced.{initial_failure}
use Rattle.sm_names.specs.Members.{members, asked, some_strong_live}
use Rattle.sm_names.specs.Pages.{places, pages_of}
use Rattle.sm_names.specs.Timelines.{standing}
use Rattle.sm_names.specs.Words.{when}
use Rattle.history_laws.proofs.BitLaws.{named_below}
use Rattle.history_laws.proofs.CountLaws.{counted}
use Rattle.history_laws.proofs.HeldLaws.{given_root}
use Rattle.history_laws.proofs.LifeLaws.{IsOrdered}
use Rattle.sm_names.proofs.ListLaws.{times-le}
use Rattle.sm_names.proofs.SamenessLaws.{not_none}
use Rattle.history_laws.proofs.SettledLaws.{find_birth, Why, Initial, Logical}
use Rattle.event_laws.specs.ByEvent.{gains}
use Rattle.event_laws.proofs.HandleBufferLaws.{opened_named, some_opened, stranger_has_none}
use Rattle.event_laws.proofs.HandleEventLaws.{open_of_mark}

-- ---- no collection has more buffers than may be

-- where nothing stands against it, there are not too many
not_many : (a b c d : Bool) (x y z w : Failure) → first_some (when a x ∷ when b y ∷ when c z ∷ when d w ∷ []) ≡ None → c ≡ false
not_many true b c d x y z w h = cc
not_many false true c d x y z w h = cc
not_many false false true d x y z w h = cc
not_many false false false d x y z w h = refl

-- ---- sums over a range and over names

-- what is not more than nothing is nothing
zero_if : (n : ℕ) → (0 < n → ⊥) → n ≡ 0
zero_if zero none = refl
zero_if (suc n) none = absurd (none (omega arith))

-- what is nothing from here on adds nothing
none_on : (h : ℕ → ℕ) (a m : ℕ) → ((i : ℕ) → a ≤ i → h i ≡ 0) → sum_by h (range_with_len a m) ≡ 0
none_on h a zero none = refl
none_on h a (suc m) none =
    omega (
      arith,
      sum_by-cons h a (range_with_len (a + 1) m),
      none a (omega arith),
      none_on h (a + 1) m (λ i le. none i (omega (arith, le))),
    )

-- so a longer range adds up to no more
longer_range : (h : ℕ → ℕ) (a n m : ℕ) → n ≤ m → ((i : ℕ) → a + n ≤ i → h i ≡ 0) →
    sum_by h (range_with_len a m) ≡ sum_by h (range_with_len a n)
longer_range h a zero m le none = none_on h a m (λ i low. none i (omega (arith, low)))
longer_range h a (suc n) zero le none = absurd (omega (arith, le))
longer_range h a (suc n) (suc m) le none =
    omega (
      arith,
      sum_by-cons h a (range_with_len (a + 1) m),
      sum_by-cons h a (range_with_len (a + 1) n),
      longer_range h (a + 1) n m (omega (arith, le)) (λ i low. none i (omega (arith, low))),
    )

-- a count of names is one of indices
sum_of_names : (count : BufferName → ℕ) (c : ℕ) (is : List ℕ) →
    sum_by count (map (λ i. record { collection = c; index = i }) is) ≡ sum_by (λ i. count (record { collection = c; index = i })) is
sum_of_names count c [] = refl
sum_of_names count c (i ∷ is) =
    omega (
      arith,
      sum_by-cons count (record { collection = c; index = i }) (map (λ i. record { collection = c; index = i }) is),
      sum_by-cons (λ i. count (record { collection = c; index = i })) i is,
      sum_of_names count c is,
    )

module _ (pool : ℕ) (limits : Bound) where
  -- an allocation gives no more
  few_after : (before : Timeline) (collection : ℕ) (head : NodeKey) → Grows pool limits [] before →
      Why pool collection before (Allocated head) →
      ((c : ℕ) (w : Buffers) → buffers_of before c ≡ Some w → w.count ≤ MAX_BUFFERS) → (c : ℕ) (w : Buffers) →
      buffers_of (Allocated head ∷ before) c ≡ Some w → w.count ≤ MAX_BUFFERS
  few_after before collection _ g (Initial b on ours root free waits found fits) old c w h =
      let ord : IsOrdered before = ordered pool limits before g in
      let is : birth_of before b.node ≡ Some b = find_birth (births before) b ord.sound on in
      elim (either_way (b.collection == c)) [
        | inl e ↦
            let same : collection ≡ c = sym (eqb-true b.collection collection ours) ∙ eqb-true b.collection c e in
            let v : Buffers = asked (members before c) in
            let told : Some (asked (members before c)) ≡ Some w = rw (is, root, e) at h in
            let fits' : initial_failure pool (standing pool before c) (asked (members before c)) ≡ None =
            subst (λ (k : ℕ). initial_failure pool (standing pool before k) (asked (members before k)) ≡ None) same fits in
            let most : nat_lt MAX_BUFFERS v.count ≡ false =
            not_many (not (some_strong_live (members before c))) (v.count == 0) (nat_lt MAX_BUFFERS v.count)
            (is_none (places pool (pages_of v.size) v.count (standing pool before c).held)) Failure.NoStrong Failure.NoBuffers
            Failure.TooManyBuffers Failure.PoolFull fits' in
            let is_it : asked (members before c) ≡ w = cc in
            subst (λ (x : Buffers). x.count ≤ MAX_BUFFERS) is_it (ltb-false MAX_BUFFERS v.count most)
        | inr e ↦ old c w (rw (is, root, e) at h)
      ]
  few_after before collection _ g (Logical b on ours child free waits attached) old c w h =
      let ord : IsOrdered before = ordered pool limits before g in
      let is : birth_of before b.node ≡ Some b = find_birth (births before) b ord.sound on in
      let up : is_none b.parent ≡ false = not_none b.parent child in
      old c w (rw (is, up) at h)

  -- so none has more
  few : (marks : Timeline) → Grows pool limits [] marks → (c : ℕ) (w : Buffers) → buffers_of marks c ≡ Some w → w.count ≤ MAX_BUFFERS
  few _ Stays c w h = cc
  few _ (Loses before origin cause g born) c w h = few before g c w h
  few _ (Ends before collection top g e) c w h = few before g c w h
  few _ (Answers before client reply call g answer) c w h = few before g c w h
  few _ (Allocates before collection head g e) c w h =
      few_after before collection head g (forced_why pool collection before (Allocated head) e) (few before g) c w h

  -- a buffer that is there is of an allocated collection, and has an index in range
  pub named_there : (marks : Timeline) → Grows pool limits [] marks → (buffer : BufferName) →
      list_any (λ name. same_buffer name buffer) (buffer_names marks buffer.collection) ≡ true →
      (is_some (buffers_of marks buffer.collection) ≡ true) × (buffer.index < MAX_BUFFERS)
  named_there marks g buffer h = from (buffers_of marks buffer.collection) (few marks g buffer.collection) h
    where
      from : (o : Option Buffers) → ((w : Buffers) → o ≡ Some w → w.count ≤ MAX_BUFFERS) →
          list_any (λ name. same_buffer name buffer) (option_map_or (λ (b : Buffers). names buffer.collection b.count) o []) ≡ true →
          (is_some o ≡ true) × (buffer.index < MAX_BUFFERS)
      from None most h = cc
      from (Some w) most h =
          let below : nat_lt buffer.index w.count ≡ true =
          and_right (buffer.collection == buffer.collection) _ (sym (named_below buffer.collection w.count buffer) ∙ h) in
          (refl, omega (arith, most w refl, ltb-true buffer.index w.count below))

  -- what is counted on the buffers that are there alone adds up over their names
  pub by_name : (marks : Timeline) → Grows pool limits [] marks → (count : BufferName → ℕ) → ((b : BufferName) → 0 < count b →
      list_any (λ name. same_buffer name b) (buffer_names marks b.collection) ≡ true) →
      (collections : List ℕ) → over_buffers collections count ≡ sum_by (λ c. sum_by count (buffer_names marks c)) collections
  by_name marks g count there collections =
      sum_by-same (λ c. sum_by (λ i. count (record { collection = c; index = i })) (range_with_len 0 MAX_BUFFERS)) (λ c.
      sum_by count (buffer_names marks c)) collections
      (λ c. from c (buffers_of marks c) (few marks g c) (λ i some. there (record { collection = c; index = i }) some))
    where
      from : (c : ℕ) (o : Option Buffers) → ((w : Buffers) → o ≡ Some w → w.count ≤ MAX_BUFFERS) →
          ((i : ℕ) → 0 < count (record { collection = c; index = i }) →
          list_any (λ name. same_buffer name (record { collection = c; index = i })) (option_map_or (λ (b : Buffers).
          names c b.count) o []) ≡ true) →
          sum_by (λ i. count (record { collection = c; index = i })) (range_with_len 0 MAX_BUFFERS)
          ≡ sum_by count (option_map_or (λ (b : Buffers).
          names c b.count) o [])
      from c None most on = none_on (λ i. count (record { collection = c; index = i })) 0 MAX_BUFFERS (λ i low.
          zero_if (count (record { collection = c; index = i })) (λ some. let no : false ≡ true = on i some in cc))
      from c (Some w) most on =
          longer_range (λ i. count (record { collection = c; index = i })) 0 w.count MAX_BUFFERS (most w refl)
          (λ i high. zero_if (count (record { collection = c; index = i })) (λ some.
          let below : nat_lt i w.count ≡ true =
          and_right (c == c) _ (sym (named_below c w.count (record { collection = c; index = i })) ∙ on i some) in
          omega (arith, high, ltb-true i w.count below)))
          ∙ sym (sum_of_names count c (range_with_len 0 w.count))

  -- ---- the collections that were given buffers are each listed once

  -- an allocation gives buffers to a collection that had none, or to none
  listed_after : (before : Timeline) (collection : ℕ) (head : NodeKey) → Grows pool limits [] before →
      Why pool collection before (Allocated head) →
      ((c : ℕ) → times (λ k. k == c) (allocated_collections before) ≡ one (is_some (buffers_of before c))) →
      (c : ℕ) → times (λ k. k == c) (allocated_collections (Allocated head ∷ before)) ≡ one
      (is_some (buffers_of (Allocated head ∷ before) c))
  listed_after before collection _ g (Initial b on ours root free waits found fits) old c =
      let ord : IsOrdered before = ordered pool limits before g in
      let is : birth_of before b.node ≡ Some b = find_birth (births before) b ord.sound on in
      let none : is_some (buffers_of before b.collection) ≡ false =
      false_if (is_some (buffers_of before b.collection)) (λ y.
      both_ways (allocated before b.node) (given_root pool limits before g b on root y) waits) in
      elim (either_way (b.collection == c)) [
        | inl e ↦
            let absent : one (is_some (buffers_of before c)) ≡ 0 =
            ap one (ap (λ k. is_some (buffers_of before k)) (sym (eqb-true b.collection c e)) ∙ none) in
            rw (is, root, e) (omega (arith, old c, absent))
        | inr e ↦ rw (is, root, e) (old c)
      ]
  listed_after before collection _ g (Logical b on ours child free waits attached) old c =
      let ord : IsOrdered before = ordered pool limits before g in
      let is : birth_of before b.node ≡ Some b = find_birth (births before) b ord.sound on in
      let up : is_none b.parent ≡ false = not_none b.parent child in
      rw (is, up) (old c)

  -- so the list has a collection once if it was given any, and else not
  listed : (marks : Timeline) → Grows pool limits [] marks → (c : ℕ) →
      times (λ k. k == c) (allocated_collections marks) ≡ one (is_some (buffers_of marks c))
  listed _ Stays c = refl
  listed _ (Loses before origin cause g born) c = listed before g c
  listed _ (Ends before collection top g e) c = listed before g c
  listed _ (Answers before client reply call g answer) c = listed before g c
  listed _ (Allocates before collection head g e) c =
      listed_after before collection head g (forced_why pool collection before (Allocated head) e) (listed before g) c

  -- as is wanted
  pub lists_allocated : (marks : Timeline) → Grows pool limits [] marks → ListsAllocated marks (allocated_collections marks)
  lists_allocated marks g = record {
    once = λ c. omega (arith, listed marks g c, one_most (is_some (buffers_of marks c)));
    all = λ c h. any_one (λ k. k == c) (allocated_collections marks) (is_some (buffers_of marks c)) (listed marks g c) ∙ h;
  }
    where
      one_most : (b : Bool) → one b ≤ 1
      one_most true = omega arith
      one_most false = omega arith

  -- ---- what was moved was opened

  -- what a client has was opened
  had_opened : (marks : Timeline) → Grows pool limits [] marks → (client : ℕ) (buffer : BufferName) (strength : Strength) →
      0 < open_of marks client buffer strength → 0 < times (opens anyone buffer strength) marks
  had_opened marks g client buffer strength h =
      elim (either_way (has_joined marks client)) [
        | inl j ↦
            let le : open_of marks client buffer strength ≤ open_total marks buffer strength =
            client-le-total marks (counted pool limits marks g) client buffer strength j in
            let all : 0 < open_total marks buffer strength = omega (arith, h, le) in
            some_opened _ _ all
        | inr n ↦ let none : open_of marks client buffer strength ≡ 0 =
            stranger_has_none pool limits marks g client buffer strength n in absurd (omega (arith, h, none))
      ]

  -- a client that gives a handle loses it
  gives_own : (client : ℕ) (reply : Reply) (call : Call) (buffer : BufferName) (strength : Strength) →
      lifts anyone buffer strength (Called client reply call) ≡ true → loses (only client) buffer strength (Called client reply call) ≡ true
  gives_own client Reply.Done (Call.GiveHandle name given to) buffer strength h =
      and_both (client == client) _ (eq-eqb client client refl) h
  gives_own client _ _ buffer strength h = absurd (false≢true h)

  -- what was given was opened
  lifted_opened : (marks : Timeline) → Grows pool limits [] marks → (buffer : BufferName) (strength : Strength) →
      0 < times (lifts anyone buffer strength) marks → 0 < times (opens anyone buffer strength) marks
  lifted_opened _ Stays buffer strength h = absurd (omega (arith, h))
  lifted_opened _ (Loses before origin cause g born) buffer strength h = lifted_opened before g buffer strength h
  lifted_opened _ (Ends before collection top g e) buffer strength h = lifted_opened before g buffer strength h
  lifted_opened _ (Allocates before collection head g e) buffer strength h = lifted_opened before g buffer strength h
  lifted_opened _ (Answers before client reply call g answer) buffer strength h =
      let mark : Mark = Called client reply call in
      let more = times-cons (opens anyone buffer strength) mark before in
      elim (either_way (lifts anyone buffer strength mark)) [
        | inl y ↦
            let goes : GoesBy (open_of before client buffer strength) (open_of (mark ∷ before) client buffer strength)
            (gains (only client) buffer strength mark) (loses (only client) buffer strength mark) =
            open_of_mark before mark (counted pool limits before g) (counted pool limits (mark ∷ before) (Answers before client reply call g
            answer)) buffer strength client in
            omega (arith, more, had_opened before g client buffer strength (goes.was_there (gives_own client reply call buffer strength y)))
        | inr n ↦ omega (arith, more, lifted_opened before g buffer strength (rw n at h))
      ]

  -- ---- the client that moved it

  -- the buffer is of an allocated collection, and its index is in range
  abbrev pub IsThere : Timeline → BufferName → Type 0
  IsThere marks buffer = (is_some (buffers_of marks buffer.collection) ≡ true) × (buffer.index < MAX_BUFFERS)

  module _ (marks : Timeline) (g : Grows pool limits [] marks) (who : ℕ → Bool) (buffer : BufferName) (strength : Strength) where
    -- what was opened is there
    there : 0 < times (opens anyone buffer strength) marks → IsThere marks buffer
    there h = named_there marks g buffer (opened_named pool limits marks g buffer strength h)

    -- where some open it, somebody does
    any_opens : (m : Mark) → opens who buffer strength m ≡ true → opens anyone buffer strength m ≡ true
    any_opens (Called client (Reply.Taken collection taken set) (Call.Take key)) h = and_right (who client) _ h
    any_opens (Called client Reply.Done (Call.DupHandle name dup)) h = and_right (who client) _ h
    any_opens _ h = absurd (false≢true h)

    -- so with dropping
    any_drops : (m : Mark) → drops who buffer strength m ≡ true → drops anyone buffer strength m ≡ true
    any_drops (Called client Reply.Done (Call.DropHandle name dropped)) h = and_right (who client) _ h
    any_drops _ h = absurd (false≢true h)

    -- giving
    any_lifts : (m : Mark) → lifts who buffer strength m ≡ true → lifts anyone buffer strength m ≡ true
    any_lifts (Called client Reply.Done (Call.GiveHandle name given to)) h = and_right (who client) _ h
    any_lifts _ h = absurd (false≢true h)

    -- and collecting
    any_lands : (m : Mark) → lands who buffer strength m ≡ true → lands anyone buffer strength m ≡ true
    any_lands (Called client (Reply.CollectedHandle name given) Call.Collect) h = and_right (who client) _ h
    any_lands _ h = absurd (false≢true h)

    -- what such a client opened is there
    pub opens_there : 0 < times (opens who buffer strength) marks → IsThere marks buffer
    opens_there h =
        let all = times-le (opens who buffer strength) (opens anyone buffer strength) marks (λ m on. any_opens m) in
        there (omega (arith, h, all))

    -- what it dropped too
    pub drops_there : 0 < times (drops who buffer strength) marks → IsThere marks buffer
    drops_there h =
        let all = times-le (drops who buffer strength) (drops anyone buffer strength) marks (λ m on. any_drops m) in
        let few_dropped = drops-le-opens marks (counted pool limits marks g) buffer strength in
        there (omega (arith, h, all, few_dropped))

    -- what it gave
    pub lifts_there : 0 < times (lifts who buffer strength) marks → IsThere marks buffer
    lifts_there h =
        let all = times-le (lifts who buffer strength) (lifts anyone buffer strength) marks (λ m on. any_lifts m) in
        there (lifted_opened marks g buffer strength (omega (arith, h, all)))

    -- and what it collected
    pub lands_there : 0 < times (lands who buffer strength) marks → IsThere marks buffer
    lands_there h =
        let all = times-le (lands who buffer strength) (lands anyone buffer strength) marks (λ m on. any_lands m) in
        let few_landed = lands-le-lifts marks (counted pool limits marks g) buffer strength in
        there (lifted_opened marks g buffer strength (omega (arith, h, all, few_landed)))
