use Rattle.forest_steps.proofs.Common.{◌≡◌, ◌+◌, ℕ, row_at, IsSome, climbed}
use Rattle.forest_steps.proofs.subtree_end.highest.Given as goal

-- the climb came so far, and to a unit that is there
abbrev pub invariant-up : goal.invariant-up
invariant-up l = record {
  so_far : (n : ℕ) → climbed n l.table l.units l.top ≡ climbed (l.counter + n) l.table l.units l.fn.head;
  there : IsSome (row_at l.table l.top);
}
