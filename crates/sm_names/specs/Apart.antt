-- Intervals that lie in the pool, apart from one another, each at the first place.
use Rattle.std.specs.Prelude.{ℕ, ◌+◌, ◌<◌, Bool, true, false, ◌&&◌, nat_le, List, [], ◌∷◌, ◌≡◌, ⊤}
use Rattle.std.specs.List.{list_any}
use Rattle.sm_names.specs.declared.keys.Interval.{Interval}
use Rattle.sm_names.specs.Pages.{meets, has_room}

-- no two of them have a page in common
abbrev pub AreApart : List Interval → Type 0
AreApart [] = ⊤
AreApart (i ∷ is) = (list_any (meets i) is ≡ false) × AreApart is

-- each ends within the pool
abbrev pub are_in : ℕ → List Interval → Bool
are_in pool [] = true
are_in pool (i ∷ is) = nat_le (i.start + i.pages) pool && are_in pool is

-- this many pages from the start on
abbrev pub at_pages : ℕ → ℕ → Interval
at_pages pages start = record { start = start; pages = pages }

-- this many pages have room at this start and at none before it
pub record IsFirst (pool pages : ℕ) (held : List Interval) (start : ℕ) : Type 0 where
  pub below : start < pool
  pub fits : has_room pool held (at_pages pages start) ≡ true
  pub least : (earlier : ℕ) → earlier < start → has_room pool held (at_pages pages earlier) ≡ false

-- each start is the first one with room, beside the held pages and those that were placed before it
abbrev pub AreFirst : ℕ → ℕ → List Interval → List ℕ → Type 0
AreFirst pool pages held [] = ⊤
AreFirst pool pages held (start ∷ starts) =
    IsFirst pool pages held start × AreFirst pool pages (at_pages pages start ∷ held) starts

-- what is held once these are placed, one after another
abbrev pub with_placed : ℕ → List ℕ → List Interval → List Interval
with_placed pages [] held = held
with_placed pages (start ∷ starts) held = with_placed pages starts (at_pages pages start ∷ held)

-- no start has room for this many pages
abbrev pub IsFull : ℕ → ℕ → List Interval → Type 0
IsFull pool pages held =
    (start : ℕ) → start < pool → has_room pool held (at_pages pages start) ≡ false
