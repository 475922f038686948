-- What a length that is written makes of the intervals that are held.
use Rattle.buffer_pool.proofs.Common.{Interval, List, [], ap, arith, both_ways, cases_lt, eq-eqb, false, get_or, has_room, held_from, inl}
use Rattle.buffer_pool.proofs.Common.{inr, le-ltb, length, lt-ltb, nat_lt, ne_eqb, refl, set, subst, suc, sym, true, with_interval}
use Rattle.buffer_pool.proofs.Common.{without, without_run, zero, ℕ, ◌*◌, ◌+◌, ◌-◌, ◌<◌, ◌==◌, ◌∙◌, ◌∷◌, ◌≡◌, ◌≤◌}
use Rattle.std.proofs.Common.{replicate}
use Rattle.buffer_pool.proofs.Greatest.{room_parts}
use Rattle.buffer_pool.proofs.Least.{has_room-over, meets-over}

-- a length at a page is the interval there, and 0 is none
held-some : (page n : ℕ) (ns : List ℕ) → 0 < n → held_from page (n ∷ ns) ≡ record { start = page; pages = n } ∷ held_from (suc page) ns
held-some page n ns some = let y : nat_lt 0 n ≡ true = lt-ltb _ _ some in rw y refl

held-none : (page n : ℕ) (ns : List ℕ) → n ≤ 0 → held_from page (n ∷ ns) ≡ held_from (suc page) ns
held-none page n ns none = let y : nat_lt 0 n ≡ false = le-ltb _ _ none in rw y refl

-- an interval that begins before all others comes first
with-first : (new : Interval) (page : ℕ) (ns : List ℕ) → new.start ≤ page →
    with_interval new (held_from page ns) ≡ new ∷ held_from page ns
with-first new page [] le = refl
with-first new page (n ∷ ns) le =
    elim (cases_lt 0 n) [
      | inl some ↦ let later : nat_lt page new.start ≡ false = le-ltb _ _ le in rw (held-some page n ns some, later) refl
      | inr none ↦ rw (held-none page n ns none) (with-first new (suc page) ns (omega arith))
    ]

-- no interval begins at an earlier page
without-none : (start page : ℕ) (ns : List ℕ) → start < page → without start (held_from page ns) ≡ held_from page ns
without-none start page [] lt = refl
without-none start page (n ∷ ns) lt =
    let rest : without start (held_from (suc page) ns) ≡ held_from (suc page) ns = without-none start (suc page) ns (omega arith) in
    elim (cases_lt 0 n) [
      | inl some ↦
          let other : (page == start) ≡ false = ne_eqb _ _ (λ e. absurd (omega arith)) in
          rw (held-some page n ns some, other) (ap (λ is. record { start = page; pages = n } ∷ is) rest)
      | inr none ↦ rw (held-none page n ns none) rest
    ]

-- by induction on the page: a length that is written where none was puts the interval in its place
pub held-set : (page k n : ℕ) (ns : List ℕ) → k < length ns → 0 < n → get_or ns k 0 ≡ 0 →
    held_from page (set ns k n) ≡ with_interval (record { start = page + k; pages = n }) (held_from page ns)
held-set page k n [] lt some free = absurd (omega arith)
held-set page zero n (m ∷ ms) lt some free =
    let here : page + 0 ≡ page = omega arith in
    let new : Interval = record { start = page; pages = n } in
    held-some page n ms some
    ∙ sym (with-first new (suc page) ms (omega arith))
    ∙ (λ i. with_interval (record { start = sym here i; pages = n }) (sym (held-none page m ms (omega (arith, free))) i))
held-set page (suc k) n (m ∷ ms) lt some free =
    let further : suc page + k ≡ page + suc k = omega arith in
    let rest : held_from (suc page) (set ms k n) ≡ with_interval (record { start = page + suc k; pages = n }) (held_from (suc page) ms) =
    held-set (suc page) k n ms (omega arith) some free
    ∙ ap (λ s. with_interval (record { start = s; pages = n }) (held_from (suc page) ms)) further in
    elim (cases_lt 0 m) [
      | inl had ↦
          let before : nat_lt page (page + suc k) ≡ true = lt-ltb _ _ (omega arith) in
          rw (held-some page m (set ms k n) had, held-some page m ms had, before)
          (ap (λ is. record { start = page; pages = m } ∷ is) rest)
      | inr none ↦ rw (held-none page m (set ms k n) none, held-none page m ms none) rest
    ]

-- by induction on the page: 0 takes the interval away that begins there
pub held-clear : (page k : ℕ) (ns : List ℕ) → k < length ns → held_from page (set ns k 0) ≡ without (page + k) (held_from page ns)
held-clear page k [] lt = absurd (omega arith)
held-clear page zero (m ∷ ms) lt =
    let here : page + 0 ≡ page = omega arith in
    let rest : without page (held_from (suc page) ms) ≡ held_from (suc page) ms = without-none page (suc page) ms (omega arith) in
    held-none page 0 ms (omega arith) ∙ sym rest ∙ first ∙ ap (λ s. without s (held_from page (m ∷ ms))) (sym here)
  where
    -- by cases: the interval at the page, if there is one, is the one that goes
    first : without page (held_from (suc page) ms) ≡ without page (held_from page (m ∷ ms))
    first =
        elim (cases_lt 0 m) [
          | inl some ↦ let same : (page == page) ≡ true = eq-eqb _ _ refl in rw (held-some page m ms some, same) refl
          | inr none ↦ rw (held-none page m ms none) refl
        ]
held-clear page (suc k) (m ∷ ms) lt =
    let further : suc page + k ≡ page + suc k = omega arith in
    let rest : held_from (suc page) (set ms k 0) ≡ without (page + suc k) (held_from (suc page) ms) =
    held-clear (suc page) k ms (omega arith) ∙ ap (λ s. without s (held_from (suc page) ms)) further in
    elim (cases_lt 0 m) [
      | inl had ↦
          let other : (page == page + suc k) ≡ false = ne_eqb _ _ (λ e. absurd (omega arith)) in
          rw (held-some page m (set ms k 0) had, held-some page m ms had, other)
          (ap (λ is. record { start = page; pages = m } ∷ is) rest)
      | inr none ↦ rw (held-none page m (set ms k 0) none, held-none page m ms none) rest
    ]

-- where an interval has room none begins, so the length is 0
pub held-free : (size page k : ℕ) (a : Interval) (ns : List ℕ) → has_room size (held_from page ns) a ≡ true → 0 < a.pages →
    a.start ≡ page + k → k < length ns → get_or ns k 0 ≡ 0
held-free size page k a [] room some is lt = absurd (omega arith)
held-free size page zero a (m ∷ ms) room some is lt =
    elim (cases_lt 0 m) [
      | inl had ↦
          let i : Interval = record { start = page; pages = m } in
          let over = has_room-over size a i (held_from (suc page) ms) (meets-over a i (omega arith) (omega arith)) in
          absurd (both_ways _ over (rw (held-some page m ms had) at room))
      | inr none ↦ omega arith
    ]
held-free size page (suc k) a (m ∷ ms) room some is lt =
    elim (cases_lt 0 m) [
      | inl had ↦
          let parts = room_parts size a (record { start = page; pages = m }) (held_from (suc page) ms)
          (rw (held-some page m ms had) at room) in
          held-free size (suc page) k a ms parts.1 some (omega arith) (omega arith)
      | inr none ↦ held-free size (suc page) k a ms (rw (held-none page m ms none) at room) some (omega arith) (omega arith)
    ]

-- the next of a run goes after those before it
pub gone-next : (start pages n m page : ℕ) (ns ns0 : List ℕ) → m ≡ suc n → page ≡ start + n * pages → page < length ns →
    held_from 0 ns ≡ without_run start pages n (held_from 0 ns0) →
    held_from 0 (set ns page 0) ≡ without_run start pages m (held_from 0 ns0)
gone-next start pages n m page ns ns0 is at lt same =
    let here : 0 + page ≡ start + n * pages = omega arith in
    held-clear 0 page ns lt
    ∙ ap (λ s. without s (held_from 0 ns)) here
    ∙ ap (without (start + n * pages)) same
    ∙ ap (λ k. without_run start pages k (held_from 0 ns0)) (sym is)

-- lengths of 0 are no intervals
pub held-zeros : (page n : ℕ) → held_from page (replicate n 0) ≡ []
held-zeros page zero = refl
held-zeros page (suc n) = held-none page 0 (replicate n 0) (omega arith) ∙ held-zeros (suc page) n
