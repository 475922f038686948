-- First fit on a list of holes.
use Rattle.std.specs.Prelude.{ℕ, zero, suc, ◌+◌, ◌-◌, ◌*◌, ◌/◌, ◌≡◌, ◌≤◌, nat_lt, Bool, ◌==◌, List, [], ◌∷◌, if◌then◌else◌, IsTrue, length}
use Rattle.std.specs.List.{prefix_len, sum_by}
use Rattle.sm_names.specs.declared.keys.Interval.{Interval}
use Rattle.buffer_pool.specs.Holes.{holes_of}
use Rattle.buffer_pool.specs.Holdings.{in_order}

-- the hole has fewer pages
abbrev pub too_small : ℕ → Interval → Bool
too_small pages hole = nat_lt hole.pages pages

-- how many buffers of this many pages the holes have room for
abbrev pub rooms : ℕ → List Interval → ℕ
rooms pages holes = sum_by (λ hole. hole.pages / pages) holes

-- the start of the first hole that is not too small
abbrev pub first_fit : ℕ → List Interval → ℕ
first_fit pages [] = 0
first_fit pages (h ∷ hs) = if too_small pages h then first_fit pages hs else h.start

-- a hole less its first pages, before others
abbrev pub shortened : ℕ → Interval → List Interval → List Interval
shortened pages h hs = if h.pages == pages then hs else record { start = h.start + pages; pages = h.pages - pages } ∷ hs

-- the holes once this many pages are taken from the front of the first that is not too small
abbrev pub taken : ℕ → List Interval → List Interval
taken pages [] = []
taken pages (h ∷ hs) = if too_small pages h then h ∷ taken pages hs else shortened pages h hs

-- the starts of this many buffers, one after another
abbrev pub starts_in : ℕ → ℕ → List Interval → List ℕ
starts_in pages zero holes = []
starts_in pages (suc n) holes = first_fit pages holes ∷ starts_in pages n (taken pages holes)

-- the starts of this many buffers of as many pages that lie side by side from this page on
abbrev pub run_starts : ℕ → ℕ → ℕ → List ℕ
run_starts start pages zero = []
run_starts start pages (suc n) = start ∷ run_starts (start + pages) pages n

-- the holes after this many buffers
abbrev pub holes_after : ℕ → ℕ → List Interval → List Interval
holes_after pages zero holes = holes
holes_after pages (suc n) holes = holes_after pages n (taken pages holes)

-- the holes that a search from the first looks at, buffer by buffer
abbrev pub looks_in : ℕ → ℕ → List Interval → ℕ
looks_in pages zero holes = 0
looks_in pages (suc n) holes = prefix_len (too_small pages) holes + 1 + looks_in pages n (taken pages holes)

-- these are the starts of so many buffers, which all have room in the holes of a pool in which these are held
pub record AreFirstFits (size pages : ℕ) (starts : List ℕ) (held : List Interval) : Type 0 where
  pub in_order : IsTrue (in_order 0 size held)
  pub has_rooms : length starts ≤ rooms pages (holes_of size held)
  pub starts_are : starts ≡ starts_in pages (length starts) (holes_of size held)
