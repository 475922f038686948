use Rattle.play_search.proofs.Common.{changes, length, ◌+◌, ◌≡◌, ◌≤◌}
use Rattle.play_search.specs.Changes.{changes_behind}
use Rattle.play_search.proofs.changes.changes_in.Given as goal

-- the changes so far and those in the rest are all, and there is at most one for each turn
abbrev pub invariant-turns : goal.invariant-turns
invariant-turns l = (l.count + changes_behind l.last l.rest ≡ changes l.turns) × (l.count + length l.rest ≤ length l.turns)

abbrev pub decreases-turns : goal.decreases-turns
decreases-turns l = length l.rest
