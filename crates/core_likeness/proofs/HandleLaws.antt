-- Where the counts of all buffers are the same on which an entry brought handles, all counts are.
use Rattle.core_likeness.proofs.Common.{AreCounted, Bool, BufferName, Entry, In, In-append, In-list_any, IsCounted, KeepsIds, List}
use Rattle.core_likeness.proofs.Common.{SameCounts, Shows, State, Strength, [], and_left, and_right, ap, arith, bit_at, either_way}
use Rattle.core_likeness.proofs.Common.{eq-eqb, eqb-true, false, get_or, inl, inr, is_opened, length, list_any, opening_by, subst, sym}
use Rattle.core_likeness.proofs.Common.{take, take_all, take_more, true, ℕ, ◌&&◌, ◌+◌, ◌<◌, ◌==◌, ◌∙◌, ◌∷◌, ◌≡◌, ◌≤◌}
use Rattle.std.proofs.Common.{◌^◌, ◌⊎◌}
use Rattle.std.proofs.lemmas.Bool.{cases_lt}
use Rattle.std.proofs.lemmas.Nat.Bits.{bit_at_above}
use Rattle.buffer_holds.specs.Counts.{Counts, of, total}
use Rattle.core_state.proofs.views.Shown.{open_shown, total_shown}
use Rattle.core_likeness.proofs.OpeningLaws.{none_in_all, none_open, touches}
use Rattle.alike_cores.specs.Renamed.{buffer_renamed}

-- A buffer with the new name is the one.
old-one : (id : ℕ → ℕ) → KeepsIds id → (a b : BufferName) → buffer_renamed id b ≡ buffer_renamed id a → a ≡ b
old-one id keeps a b same = λ i. record {
  collection = eqb-true a.collection b.collection (sym (keeps a.collection b.collection)
      ∙ eq-eqb (id a.collection) (id b.collection) (sym (ap (λ (n : BufferName). n.collection) same))) i;
  index = sym (ap (λ (n : BufferName). n.index) same) i;
}

module _ (id : ℕ → ℕ) (keeps : KeepsIds id) (s t : State) (first second : List Entry) (shows : Shows s first) (shown : Shows t second)
    (olds : AreCounted s.holds t.holds id true first) (news : AreCounted s.holds t.holds id false second) where
  -- What is counted under the old name,
  by-old : (client : ℕ) (b : BufferName) (strength : Strength) → IsCounted s.holds t.holds id true client b strength →
      SameCounts s.holds t.holds client b (buffer_renamed id b) strength
  by-old client b strength c =
      subst (λ (x : BufferName). SameCounts s.holds t.holds client x (buffer_renamed id x) strength) (sym c.paired) c.counts

  -- and under the new one.
  by-new : (client : ℕ) (b : BufferName) (strength : Strength) → IsCounted s.holds t.holds id false client (buffer_renamed id b) strength →
      SameCounts s.holds t.holds client b (buffer_renamed id b) strength
  by-new client b strength c =
      subst (λ (x : BufferName). SameCounts s.holds t.holds client x (buffer_renamed id x) strength) (old-one id keeps c.old b
      c.paired) c.counts

  -- The handles of one client: of a buffer that no entry of its touches it has none in either core.
  pub open-alike : (client : ℕ) (b : BufferName) (strength : Strength) →
      of t.holds client (buffer_renamed id b) strength ≡ of s.holds client b strength
  open-alike client b strength =
      elim (either_way (list_any (touches (λ c. c == client) b strength) first)) [
        | inl old ↦
            let e = In-list_any (touches (λ c. c == client) b strength) first old in
            let caller : e.0.0 ≡ client = eqb-true e.0.0 client (and_left (e.0.0 == client) (is_opened (opening_by e.0.1 e.0.2) b) e.2) in
            subst (λ (c : ℕ). of t.holds c (buffer_renamed id b) strength ≡ of s.holds c b strength) caller
            (by-old e.0.0 b strength (olds e.0 e.1 b strength (and_right (e.0.0 == client) (is_opened (opening_by e.0.1 e.0.2) b)
            e.2))).own
        | inr none ↦ elim (either_way (list_any (touches (λ c. c == client) (buffer_renamed id b) strength) second)) [
          | inl new ↦
              let e = In-list_any (touches (λ c. c == client) (buffer_renamed id b) strength) second new in
              let caller : e.0.0 ≡ client =
              eqb-true e.0.0 client (and_left (e.0.0 == client) (is_opened (opening_by e.0.1 e.0.2) (buffer_renamed id b)) e.2) in
              subst (λ (c : ℕ). of t.holds c (buffer_renamed id b) strength ≡ of s.holds c b strength) caller
              (by-new e.0.0 b strength (news e.0 e.1 (buffer_renamed id b) strength
              (and_right (e.0.0 == client) (is_opened (opening_by e.0.1 e.0.2) (buffer_renamed id b)) e.2))).own
          | inr nor ↦
              open_shown t second shown client (buffer_renamed id b) strength
              ∙ (none_open client (buffer_renamed id b) strength second nor t.pool
              ∙ (sym (none_open client b strength first none s.pool) ∙ sym (open_shown s first shows client b strength)))
        ]
      ]

  -- The handles of all.
  pub total-alike : (b : BufferName) (strength : Strength) → total t.holds (buffer_renamed id b) strength ≡ total s.holds b strength
  total-alike b strength =
      elim (either_way (list_any (touches (λ c. true) b strength) first)) [
        | inl old ↦
            let e = In-list_any (touches (λ c. true) b strength) first old in
            (by-old e.0.0 b strength (olds e.0 e.1 b strength e.2)).all
        | inr none ↦ elim (either_way (list_any (touches (λ c. true) (buffer_renamed id b) strength) second)) [
          | inl new ↦
              let e = In-list_any (touches (λ c. true) (buffer_renamed id b) strength) second new in
              (by-new e.0.0 b strength (news e.0 e.1 (buffer_renamed id b) strength e.2)).all
          | inr nor ↦
              total_shown t second shown (buffer_renamed id b) strength
              ∙ (none_in_all (buffer_renamed id b) strength second nor t.pool
              ∙ (sym (none_in_all b strength first none s.pool) ∙ sym (total_shown s first shows b strength)))
        ]
      ]

-- ---- entry by entry

-- One entry more is counted.
pub counted-more : (one other : Counts) (id : ℕ → ℕ) (is_old : Bool) (entries : List Entry) (i : ℕ) (d : Entry) → i < length entries →
    AreCounted one other id is_old (take i entries) → ((buffer : BufferName) (strength : Strength) →
    is_opened (opening_by (get_or entries i d).1 (get_or entries i d).2) buffer ≡ true →
    IsCounted one other id is_old (get_or entries i d).0 buffer strength) → AreCounted one other id is_old (take (i + 1) entries)
counted-more one other id is_old entries i d within before here e there buffer strength opened =
    elim (In-append (take i entries) (get_or entries i d ∷ []) e (subst (In e) (take_more entries i d within) there)) [
      | inl old ↦ before e old buffer strength opened
      | inr new ↦ elim new [
        | inl is ↦
            subst (λ (x : Entry). IsCounted one other id is_old x.0 buffer strength) (sym is)
            (here buffer strength (subst (λ (x : Entry). is_opened (opening_by x.1 x.2) buffer ≡ true) is opened))
        | inr none ↦ absurd none
      ]
    ]

-- All entries are.
pub counted-all : (one other : Counts) (id : ℕ → ℕ) (is_old : Bool) (entries : List Entry) (i : ℕ) → length entries ≤ i →
    AreCounted one other id is_old (take i entries) → AreCounted one other id is_old entries
counted-all one other id is_old entries i all each = subst (AreCounted one other id is_old) (take_all i entries all) each

-- A buffer of the set has an index below 64.
pub set-counted : (one other : Counts) (id : ℕ → ℕ) (is_old : Bool) (client collection set : ℕ) → set < 2 ^ 64 →
    ((n : ℕ) → n < 64 → bit_at set n ≡ 1 → (strength : Strength) →
    IsCounted one other id is_old client (record { collection = collection; index = n }) strength) →
    (buffer : BufferName) (strength : Strength) → (collection == buffer.collection && bit_at set buffer.index == 1) ≡ true →
    IsCounted one other id is_old client buffer strength
set-counted one other id is_old client collection set small each buffer strength passes =
    subst (λ (b : BufferName). IsCounted one other id is_old client b strength)
    (λ i. record {
      collection = eqb-true collection buffer.collection (and_left (collection == buffer.collection) (bit_at set
          buffer.index == 1) passes) i;
      index = buffer.index;
    })
    (each buffer.index (below (cases_lt buffer.index 64)) bit strength)
  where
    -- the bit is set
    bit : bit_at set buffer.index ≡ 1
    bit = eqb-true (bit_at set buffer.index) 1 (and_right (collection == buffer.collection) (bit_at set buffer.index == 1) passes)

    -- so the index is one of a set's
    below : (buffer.index < 64) ⊎ (64 ≤ buffer.index) → buffer.index < 64
    below (inl less) = less
    below (inr more) = absurd (omega (arith, bit, bit_at_above set 64 buffer.index small more))
