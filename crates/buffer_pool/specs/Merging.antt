-- Pages that come back to a list of holes.
use Rattle.std.specs.Prelude.{ℕ, ◌+◌, nat_lt, nat_le, Bool, true, false, ◌&&◌, ◌==◌, List, [], ◌∷◌, if◌then◌else◌}
use Rattle.sm_names.specs.declared.keys.Interval.{Interval}
use Rattle.buffer_pool.specs.Holes.{end_of}

-- the holes lie from this page on in order, each has a page, and no two touch
abbrev pub spaced : ℕ → List Interval → Bool
spaced low [] = true
spaced low (h ∷ hs) = nat_le low h.start && (nat_lt 0 h.pages && spaced (end_of h + 1) hs)

-- there is a first hole, and it ends at this page
abbrev pub first_ends : ℕ → List Interval → Bool
first_ends page [] = false
first_ends page (h ∷ hs) = end_of h == page

-- there is a first hole, and it begins at this page
abbrev pub first_begins : ℕ → List Interval → Bool
first_begins page [] = false
first_begins page (h ∷ hs) = h.start == page

-- an interval before holes, as one with the first where they touch
abbrev pub with_merged : Interval → List Interval → List Interval
with_merged i [] = i ∷ []
with_merged i (h ∷ hs) = if h.start == end_of i then record { start = i.start; pages = i.pages + h.pages } ∷ hs else i ∷ h ∷ hs

-- an interval that comes back at the front of holes, of which it may touch the first on either side
abbrev pub merged : Interval → List Interval → List Interval
merged i [] = i ∷ []
merged i (h ∷ hs) = if end_of h == i.start then with_merged (record { start = h.start; pages = h.pages + i.pages }) hs else with_merged i (h ∷ hs)

-- the holes once an interval comes back
abbrev pub with_released : Interval → List Interval → List Interval
with_released i [] = i ∷ []
with_released i (h ∷ hs) = if nat_lt (end_of h) i.start then h ∷ with_released i hs else merged i (h ∷ hs)
