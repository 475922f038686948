use Rattle.std.proofs.Common.{ℕ, ◌≡◌, ◌+◌, ◌-◌, ◌≤◌, ◌<◌, ◌&&◌, get_or, length, nat_lt, not}
use Rattle.buffer_holds.proofs.Runs.{one_if}
use Rattle.buffer_holds.proofs.page.raise_run.Given as goal

-- the first counts of the run are one more
abbrev pub invariant-loop-at : goal.invariant-loop-at
invariant-loop-at l = record {
  size : length l.counts ≡ 128;
  from : l.first ≤ l.at;
  upto : l.at ≤ l.first + l.size;
  raised : (i : ℕ) → get_or l.counts i 0 ≡ get_or l.fn.counts i 0 + one_if (not (nat_lt i l.first) && nat_lt i l.at);
  most : (i : ℕ) → l.first ≤ i → i < l.at → get_or l.counts i 0 ≤ l.most;
  least : (bound : ℕ) → ((i : ℕ) → l.first ≤ i → i < l.at → get_or l.counts i 0 ≤ bound) → l.most ≤ bound;
}

abbrev pub decreases-loop-at : goal.decreases-loop-at
decreases-loop-at l = l.end - l.at
