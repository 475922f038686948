-- The holes of a pool: the parts that nobody holds.
use Rattle.std.specs.Prelude.{◌≡◌, ℕ, ◌+◌, ◌-◌, ◌<◌, ◌≤◌, nat_lt, List, [], ◌∷◌, ◌++◌, if◌then◌else◌, IsTrue}
use Rattle.sm_names.specs.declared.keys.Interval.{Interval}
use Rattle.sm_names.specs.Pages.{has_room}

-- the page after the interval's last
abbrev pub end_of : Interval → ℕ
end_of i = i.start + i.pages

-- the pages from one up to another, as an interval, if there are any
abbrev pub gap : ℕ → ℕ → List Interval
gap from to = if nat_lt from to then record { start = from; pages = to - from } ∷ [] else []

-- what lies between, before and after intervals in order of page, from a page on
abbrev pub holes_from : ℕ → ℕ → List Interval → List Interval
holes_from low size [] = gap low size
holes_from low size (i ∷ is) = gap low i.start ++ holes_from (end_of i) size is

-- the holes of a pool of this many pages, in order of page
abbrev pub holes_of : ℕ → List Interval → List Interval
holes_of size held = holes_from 0 size held

-- a greatest interval of the pool that meets no held one: no other such interval has it within
pub record IsHole (size : ℕ) (held : List Interval) (hole : Interval) : Type 0 where
  pub has_pages : 0 < hole.pages
  pub is_free : IsTrue (has_room size held hole)
  pub is_greatest : (i : Interval) → IsTrue (has_room size held i) → i.start ≤ hole.start → end_of hole ≤ end_of i → i ≡ hole
