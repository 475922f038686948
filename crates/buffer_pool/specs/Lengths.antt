-- Held intervals as a length at each page.
use Rattle.std.specs.Prelude.{ℕ, suc, nat_lt, List, [], ◌∷◌, if◌then◌else◌}
use Rattle.sm_names.specs.declared.keys.Interval.{Interval}

-- the intervals of these lengths, the first of which is for this page and each other one for the next page: 0 is no interval
abbrev pub held_from : ℕ → List ℕ → List Interval
held_from page [] = []
held_from page (n ∷ ns) = if nat_lt 0 n then record { start = page; pages = n } ∷ held_from (suc page) ns else held_from (suc page) ns
