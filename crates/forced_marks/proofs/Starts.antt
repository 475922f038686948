-- The least start with room, found from one interval that is held to the next.
use Rattle.forced_marks.proofs.Common.{Bool, In-any, In-find, Interval, List, None, Some, and_left, and_right, ap, arith, cond}
use Rattle.forced_marks.proofs.Common.{either_way, false, find, has_room, if◌then◌else◌, inl, inr, is_some, is_some-find, list_any}
use Rattle.forced_marks.proofs.Common.{lt-ltb, ltb-false, ltb-true, meets, nat_le, nat_lt, not, range_with_len, refl, sym, true, ℕ, ◌&&◌}
use Rattle.forced_marks.proofs.Common.{◌+◌, ◌-◌, ◌<◌, ◌∙◌, ◌≡◌, ◌≤◌}
use Rattle.std.proofs.lemmas.Bool.{leb-false, lt-leb}
use Rattle.sm_names.proofs.SamenessLaws.{and_both}
use Rattle.buffer_pool.specs.Holes.{end_of}
use Rattle.forced_marks.proofs.Ranges.{find_from, find_nothing, find_to}

-- this many pages from a start on
abbrev at_pages : ℕ → ℕ → Interval
at_pages pages start = record { start = start; pages = pages }

-- whether they have room
abbrev fits_at : ℕ → ℕ → List Interval → ℕ → Bool
fits_at pool pages held start = has_room pool held (record { start = start; pages = pages })

-- a conjunction with false is false
never : (b : Bool) → (b && false) ≡ false
never true = refl
never false = refl

-- behind a start from which they leave the pool there is no room
past_pool : (pool pages start k : ℕ) (held : List Interval) → nat_le (start + pages) pool ≡ false →
    start ≤ k → fits_at pool pages held k ≡ false
past_pool pool pages start k held out after =
    let far : pool < start + pages = leb-false (start + pages) pool out in
    let farther : pool < k + pages = omega arith in
    rw (lt-leb (k + pages) pool farther) refl

-- up to the end of an interval that is met there is none
met_here : (pool pages start k : ℕ) (held : List Interval) (h : Interval) → find (meets (at_pages pages start)) held ≡ Some h → start ≤ k →
    k < end_of h → fits_at pool pages held k ≡ false
met_here pool pages start k held h found after before =
    let f = In-find (meets (at_pages pages start)) held h found in
    let early : h.start < start + pages =
    ltb-true h.start (start + pages) (and_right (nat_lt start (h.start + h.pages)) (nat_lt h.start (start + pages)) f.1) in
    let earlier : h.start < k + pages = omega arith in
    let hit : meets (at_pages pages k) h ≡ true =
    and_both (nat_lt k (h.start + h.pages)) (nat_lt h.start (k + pages)) (lt-ltb k (h.start + h.pages) before)
    (lt-ltb h.start (k + pages) earlier) in
    let some : list_any (meets (at_pages pages k)) held ≡ true = In-any (meets (at_pages pages k)) held h f.0 hit in
    ap (λ (b : Bool). nat_le (k + pages) pool && not b) some ∙ never (nat_le (k + pages) pool)

-- such an interval ends behind the start
met_behind : (pages start : ℕ) (held : List Interval) (h : Interval) → find (meets (at_pages pages start)) held ≡ Some h → start < end_of h
met_behind pages start held h found =
    let f = In-find (meets (at_pages pages start)) held h found in
    ltb-true start (h.start + h.pages) (and_left (nat_lt start (h.start + h.pages)) (nat_lt h.start (start + pages)) f.1)

-- the next start comes behind this one, and not behind the end of the interval
next_is : (start pool end next : ℕ) → start < pool → start < end →
    next ≡ (if nat_lt end pool then end else pool) → (start < next) × (next ≤ end)
next_is start pool end next less before is =
    elim (either_way (nat_lt end pool)) [
      | inl l ↦ let same : next ≡ end = rw l at is in (omega arith, omega arith)
      | inr l ↦
          let same : next ≡ pool = rw l at is in
          let far : pool ≤ end = ltb-false end pool l in
          (omega arith, omega arith)
    ]

-- the next start is behind this one
pub start_rises : (pool pages start next : ℕ) (held : List Interval) (h : Interval) → start < pool →
    Some h ≡ find (meets (at_pages pages start)) held → next ≡ (if nat_lt (end_of h) pool then end_of h else pool) → start < next
start_rises pool pages start next held h less found later =
    (next_is start pool (end_of h) next less (met_behind pages start held h (sym found)) later).0

-- and the first with room is not before it
pub start_moves : (pool pages start next : ℕ) (held : List Interval) (h : Interval) → start < pool →
    Some h ≡ find (meets (at_pages pages start)) held → next ≡ (if nat_lt (end_of h) pool then end_of h else pool) →
    find (fits_at pool pages held) (range_with_len next (pool - next))
    ≡ find (fits_at pool pages held) (range_with_len start (pool - start))
start_moves pool pages start next held h less found later =
    let n = next_is start pool (end_of h) next less (met_behind pages start held h (sym found)) later in
    let rises : start < next = n.0 in
    let within : next ≤ end_of h = n.1 in
    sym (find_to (fits_at pool pages held) start next pool (omega arith)
    (λ k a b. let before : k < end_of h = omega arith in met_here pool pages start k held h (sym found) a before))

-- where nothing is met there is room
pub start_here : (pool pages start : ℕ) (held : List Interval) → start < pool → nat_le (start + pages) pool ≡ true →
    None ≡ find (meets (at_pages pages start)) held →
    find (fits_at pool pages held) (range_with_len start (pool - start)) ≡ Some start
start_here pool pages start held less fit none =
    let free : list_any (meets (at_pages pages start)) held ≡ false =
    sym (is_some-find (meets (at_pages pages start)) held) ∙ ap is_some (sym none) in
    let room : fits_at pool pages held start ≡ true = rw (fit, free) refl in
    find_from (fits_at pool pages held) start pool less
    ∙ ap (λ (b : Bool). cond b (Some start) (find (fits_at pool pages held) (range_with_len (start + 1) (pool - (start + 1))))) room

-- where the pages leave the pool there is none, nor behind
pub start_past : (pool pages start : ℕ) (held : List Interval) → nat_le (start + pages) pool ≡ false →
    find (fits_at pool pages held) (range_with_len start (pool - start)) ≡ None
start_past pool pages start held out =
    find_nothing (fits_at pool pages held) start pool (λ k a b. past_pool pool pages start k held out a)

-- nor behind the pool
pub start_over : (test : ℕ → Bool) (start pool : ℕ) → pool ≤ start → find test (range_with_len start (pool - start)) ≡ None
start_over test start pool over =
    let end : pool - start ≡ 0 = omega arith in
    ap (λ (m : ℕ). find test (range_with_len start m)) end
