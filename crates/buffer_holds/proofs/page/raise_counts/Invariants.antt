use Rattle.buffer_holds.proofs.Common.{IsIn, get_or, length, ℕ, ◌+◌, ◌-◌, ◌/◌, ◌<◌, ◌^◌, ◌≡◌, ◌≤◌}
use Rattle.buffer_holds.proofs.Runs.{done}
use Rattle.buffer_holds.proofs.page.raise_counts.Given as goal

-- the cells so far are counted
abbrev pub invariant-loop-rest : goal.invariant-loop-rest
invariant-loop-rest l = record {
  size : length l.counts ≡ 128;
  from : l.first ≤ l.at;
  near : l.at ≤ l.first + 64;
  rest : l.rest ≡ l.set / 2 ^ (l.at - l.first);
  raised : done l.fn.counts l.counts l.first l.set l.at;
  most : (i : ℕ) → IsIn l.first l.set i → i < l.at → get_or l.counts i 0 ≤ l.most;
  least : (bound : ℕ) → ((i : ℕ) → IsIn l.first l.set i → get_or l.fn.counts i 0 + 1 ≤ bound) → l.most ≤ bound;
}

abbrev pub decreases-loop-rest : goal.decreases-loop-rest
decreases-loop-rest l = l.rest
