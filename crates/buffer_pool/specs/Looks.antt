-- At how many holes a first fit over a plain list of holes looks while buffers are placed.
use Rattle.std.specs.Prelude.{ℕ, ◌+◌, nat_le, List, [], ◌∷◌, count_by}
use Rattle.sm_names.specs.declared.keys.Interval.{Interval}
use Rattle.buffer_pool.specs.Holes.{holes_of}
use Rattle.buffer_pool.specs.Holdings.{with_interval}

-- how many of the holes begin at or before this page
abbrev pub looks_at : ℕ → List Interval → ℕ
looks_at start holes = count_by (λ hole. nat_le hole.start start) holes

-- the looks at the starts of buffers of this many pages, each counted just before its buffer is placed
abbrev pub looks_for : ℕ → ℕ → List ℕ → List Interval → ℕ
looks_for size pages [] held = 0
looks_for size pages (s ∷ ss) held =
    looks_at s (holes_of size held) + looks_for size pages ss (with_interval (record { start = s; pages = pages }) held)
