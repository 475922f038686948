-- What callers see of a pool, and what placing and giving back make of it.
use Rattle.std.specs.Prelude.{◌≡◌, ℕ, zero, suc, ◌+◌, ◌*◌, ◌<◌, ◌≤◌, nat_lt, nat_le, Bool, false, not, ◌&&◌, ◌==◌, List, [], ◌∷◌, if◌then◌else◌, IsTrue, All, AllPairs, Contains, length}
use Rattle.std.specs.List.{filter, sum_by}
use Rattle.sm_names.specs.declared.rules.TheConstants.{MAX_PAGES}
use Rattle.sm_names.specs.declared.keys.Interval.{Interval}
use Rattle.sm_names.specs.Pages.{meets}
use Rattle.buffer_pool.specs.Holes.{end_of, holes_of}

-- a pool: how many pages it has, and the intervals that are held, in order of page
pub record Holdings : Type 0 where
  pub size : ℕ
  pub held : List Interval

-- the intervals lie from one page up to another in order, apart, and each has a page
abbrev pub in_order : ℕ → ℕ → List Interval → Bool
in_order low high [] = nat_le low high
in_order low high (i ∷ is) = nat_le low i.start && (nat_lt 0 i.pages && in_order (end_of i) high is)

-- what holds of every pool
pub record IsSound (pool : Holdings) : Type 0 where
  pub sized : (1 ≤ pool.size) × (pool.size ≤ MAX_PAGES)
  pub in_order : IsTrue (in_order 0 pool.size pool.held)
  pub apart : AllPairs (λ a b. meets a b ≡ false) pool.held
  pub inside : All (λ i. (0 < i.pages) × (end_of i ≤ pool.size)) pool.held

-- how many pages the intervals have together
abbrev pub total_pages : List Interval → ℕ
total_pages is = sum_by (λ i. i.pages) is

-- the intervals with one more, in order of page
abbrev pub with_interval : Interval → List Interval → List Interval
with_interval new [] = new ∷ []
with_interval new (i ∷ is) = if nat_lt i.start new.start then i ∷ with_interval new is else new ∷ i ∷ is

-- the intervals with buffers of this many pages at these starts
abbrev pub with_buffers : ℕ → List ℕ → List Interval → List Interval
with_buffers pages [] held = held
with_buffers pages (s ∷ ss) held = with_buffers pages ss (with_interval (record { start = s; pages = pages }) held)

-- the intervals but for the one that begins at this page
abbrev pub without : ℕ → List Interval → List Interval
without start held = filter (λ i. not (i.start == start)) held

-- the interval of this many pages that lies behind this many others of as many pages, the first of which begins at this page
abbrev pub in_run : ℕ → ℕ → ℕ → Interval
in_run start pages n = record { start = start + n * pages; pages = pages }

-- this many intervals of as many pages are held that lie side by side from this page on
abbrev pub HasRun : ℕ → ℕ → ℕ → List Interval → Type 0
HasRun start pages count held = (n : ℕ) → n < count → Contains held (in_run start pages n)

-- the intervals but for this many of as many pages that lie side by side from this page on
abbrev pub without_run : ℕ → ℕ → ℕ → List Interval → List Interval
without_run start pages zero held = held
without_run start pages (suc n) held = without (start + n * pages) (without_run start pages n held)

-- what the fields of a pool keep true
pub record IsPoolSound (size free : ℕ) (holes held : List Interval) (capacity : ℕ) : Type 0 where
  pub sized : (1 ≤ size) × (size ≤ MAX_PAGES)
  pub in_order : IsTrue (in_order 0 size held)
  pub holes_are : holes ≡ holes_of size held
  pub free_are : free + total_pages held ≡ size
  pub has_capacity : length held ≤ capacity

-- these are the holes of a pool of this many pages in which these are held
pub record AreGaps (size : ℕ) (holes held : List Interval) : Type 0 where
  pub sized : size ≤ MAX_PAGES
  pub in_order : IsTrue (in_order 0 size held)
  pub holes_are : holes ≡ holes_of size held
