-- Intervals of which no two begin at one page. No public clause of `alloc_event` cites this module.
use Rattle.std.specs.Prelude.{Bool, true, ◌==◌, ◌&&◌, not, List, [], ◌∷◌}
use Rattle.std.specs.List.{list_any}
use Rattle.sm_names.specs.declared.keys.Interval.{Interval}

-- the interval begins there too
abbrev pub begins_with : Interval → Interval → Bool
begins_with x i = i.start == x.start

-- no two begin at one page
abbrev pub starts_differ : List Interval → Bool
starts_differ [] = true
starts_differ (i ∷ is) = not (list_any (begins_with i) is) && starts_differ is
