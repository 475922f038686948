-- What opening and closing handles does to the counts.
use Rattle.core_state.proofs.Common.{AddsSet, Bool, BufferName, Counts, Opens, Sets, Strength, Tidies, and_right, ap, arith, bit_at}
use Rattle.core_state.proofs.Common.{common_steps, counts_of, eq-eqb, false, if◌then◌else◌, is_in_set_below, is_the, moving_count, nat_lt}
use Rattle.core_state.proofs.Common.{of, one_if, refl, same_buffer, same_strength, still, sym, total, true, up, ℕ, ◌&&◌, ◌+◌, ◌-◌, ◌<◌}
use Rattle.core_state.proofs.Common.{◌==◌, ◌∙◌, ◌≡◌, ◌≤◌}
use Rattle.buffer_holds.specs.Counts.{share}
use Rattle.buffer_holds.specs.Kinds.{kind_of, hold_of, same_hold}
use Rattle.buffer_holds.specs.Rows.{row_at}
use Rattle.buffer_holds.proofs.KindLemmas.{same_hold-one, same_kind-one, same_hold-refl, same_kind-refl}
use Rattle.buffer_holds.proofs.RowLemmas.{weight_at-le-sum_by}
use Rattle.buffer_holds.proofs.SetLemmas.{next_below, nothing_below}
use Rattle.buffer_holds.proofs.SoundLemmas.{weight_at-share}

-- a client's handles are at most all
pub of-le-total : (holds : Counts) (client : ℕ) (buffer : BufferName) (strength : Strength) →
    of holds client buffer strength ≤ total holds buffer strength
of-le-total holds client buffer strength =
    let hold = hold_of client buffer strength in
    omega (
      arith,
      weight_at-le-sum_by (share hold.kind) (same_hold hold) hold (same_hold-one hold) holds.rows,
      weight_at-share hold.kind hold (row_at holds.rows hold) true (same_kind-refl hold.kind),
    )

-- counts that agree everywhere are the same
pub same_counts : (old new : Counts) → ((c : ℕ) (b : BufferName) (s : Strength) → of new c b s ≡ of old c b s) →
    ((b : BufferName) (s : Strength) → moving_count new b s ≡ moving_count old b s) →
    ((b : BufferName) (s : Strength) → total new b s ≡ total old b s) → counts_of new ≡ counts_of old
same_counts old new each in_parcels in_all = λ i. record {
  of = λ c b s. each c b s i;
  moving = λ b s. in_parcels b s i;
  total = λ b s. in_all b s i;
}

-- ---- one count, where only that of these handles changes

-- it shrinks
pub down : {new old at : ℕ} (x : Bool) → 0 < at → new ≡ (if x then at - 1 else old) → (x ≡ true → at ≡ old) → old ≡ new + one_if x
down true some is one = let here = one refl in omega arith
down false some is one = omega arith

-- these handles have one count
module _ (client : ℕ) (buffer : BufferName) (strength : Strength) where
  -- a handle that tests equal to this client's handle has the same count
  pub one_hold : (count : ℕ → BufferName → Strength → ℕ) (c : ℕ) (b : BufferName) (s : Strength) →
      (client == c && is_the buffer strength b s) ≡ true → count client buffer strength ≡ count c b s
  one_hold count c b s same =
      ap (λ h. count h.client h.kind.buffer h.kind.strength) (same_hold-one (hold_of client buffer strength) (hold_of c b s) same)

  -- a kind of handle that tests equal to this one has the same count
  pub one_kind : (count : BufferName → Strength → ℕ) (b : BufferName) (s : Strength) → is_the buffer strength b s ≡ true →
      count buffer strength ≡ count b s
  one_kind count b s same = ap (λ k. count k.buffer k.strength) (same_kind-one (kind_of buffer strength) (kind_of b s) same)

-- ---- one handle

-- one handle more
pub opens_one : (old new : Counts) (client : ℕ) (buffer : BufferName) (strength : Strength) →
    Sets old new client buffer strength (of old client buffer strength + 1)
    (moving_count old buffer strength) (total old buffer strength + 1) →
    Opens old new client (is_the buffer strength)
opens_one old new client buffer strength sets = record {
  counts = λ c b s. up (client == c && is_the buffer strength b s) (sets.counts c b s) (one_hold client buffer strength (of old) c b s);
  parcels = λ b s. still (is_the buffer strength b s) (sets.parcels b s) (one_kind client buffer strength (moving_count old) b s);
  totals = λ b s. up (is_the buffer strength b s) (sets.totals b s) (one_kind client buffer strength (total old) b s);
}

-- one handle less, where there was one
pub closes_one : (old mid new : Counts) (client : ℕ) (buffer : BufferName) (strength : Strength) → 0 < of old client buffer strength →
    Sets old mid client buffer strength (of old client buffer strength - 1)
    (moving_count old buffer strength) (total old buffer strength - 1) →
    Tidies mid new client buffer strength →
    Opens new old client (is_the buffer strength)
closes_one old mid new client buffer strength some sets tidies = record {
  counts = λ c b s. down (client == c && is_the buffer strength b s) some (tidies.counts c b s
      ∙ sets.counts c b s) (one_hold client buffer strength (of old) c b s);
  parcels = λ b s. sym (still (is_the buffer strength b s) (tidies.parcels b s
      ∙ sets.parcels b s) (one_kind client buffer strength (moving_count old) b s));
  totals = λ b s. down (is_the buffer strength b s) (omega (arith, of-le-total old client buffer strength)) (tidies.totals b s
      ∙ sets.totals b s) (one_kind client buffer strength (total old) b s);
}

-- one handle more on each buffer of the set below this index
pub opens_set : (old new : Counts) (client collection : ℕ) (strength : Strength) (set end : ℕ) →
    AddsSet old new client collection strength set end → Opens old new client (is_in_set_below collection strength set end)
opens_set old new client collection strength set end adds =
    record { counts = adds.counts; parcels = adds.parcels; totals = adds.totals }

-- a handle that was opened is there
pub has_one : (old new : Counts) (client : ℕ) (buffer : BufferName) (strength : Strength) → Opens old new client (is_the buffer strength) →
    0 < of new client buffer strength
has_one old new client buffer strength opens =
    let it : one_if (client == client && is_the buffer strength buffer strength) ≡ 1 =
    ap one_if (same_hold-refl (hold_of client buffer strength)) in
    omega (arith, it, opens.counts client buffer strength)

-- what was opened from the one counts and from the others leaves both the same
pub same_before : (before new old : Counts) (client : ℕ) (passes : BufferName → Strength → Bool) → Opens before old client passes →
    Opens new old client passes → counts_of new ≡ counts_of before
same_before before new old client passes opened closed = same_counts before new
    (λ c b s. let a = opened.counts c b s in let d = closed.counts c b s in omega arith)
    (λ b s. sym (closed.parcels b s) ∙ opened.parcels b s)
    (λ b s. let a = opened.totals b s in let d = closed.totals b s in omega arith)

-- a number is below the next
next_is : (n : ℕ) → nat_lt n (n + 1) ≡ true
next_is n = grind (arith, common_steps)

module _ (collection : ℕ) (strength : Strength) (set : ℕ) where
  -- the buffer with this index
  abbrev at : ℕ → BufferName
  at index = record { collection = collection; index = index }

  -- no handle was opened yet
  opens_none : (holds : Counts) (client : ℕ) → Opens holds holds client (is_in_set_below collection strength set 0)
  opens_none holds client = record {
    counts = λ c b s. rw (nothing_below collection strength set b s) (none_more (client == c));
    parcels = λ b s. refl;
    totals = λ b s. rw (nothing_below collection strength set b s) (omega arith);
  }
    where
      none_more : {n : ℕ} (who : Bool) → n ≡ n + one_if (who && false)
      none_more true = omega arith
      none_more false = omega arith

  -- one less, where the set has it
  pub opens_less : (before old new : Counts) (client index : ℕ) → bit_at set index ≡ 1 → (0 < of old client (at index) strength →
      Opens new old client (is_the (at index) strength)) →
      Opens before old client (is_in_set_below collection strength set (index + 1)) →
      Opens before new client (is_in_set_below collection strength set index)
  opens_less before old new client index has closes opened =
      let strong : same_strength strength strength ≡ true =
      and_right (same_buffer (at index) (at index)) (same_strength strength strength) (same_kind-refl (kind_of (at index) strength)) in
      let there : one_if (client == client && is_in_set_below collection strength set (index + 1) (at index) strength) ≡ 1 =
      rw (eq-eqb client client refl, eq-eqb collection collection refl, strong, has, next_is index) refl in
      let one : Opens new old client (is_the (at index) strength) =
      closes (omega (arith, opened.counts client (at index) strength, there)) in
      record {
        counts = λ c b s.
            let d = one.counts c b s in
            let a = opened.counts c b s in
            let e = next_below collection strength set (client == c) index b s has in
            omega arith;
        parcels = λ b s. sym (one.parcels b s) ∙ opened.parcels b s;
        totals = λ b s.
            let d = one.totals b s in
            let a = opened.totals b s in
            let e = next_below collection strength set true index b s has in
            omega arith;
      }

  -- where none is left open the counts are those before
  pub all_closed : (before new : Counts) (client : ℕ) → Opens before new client (is_in_set_below collection strength set 0) →
      counts_of new ≡ counts_of before
  all_closed before new client opened =
      same_before before new new client (is_in_set_below collection strength set 0) opened (opens_none new client)
