-- What every pool keeps, as callers see it.
use Rattle.buffer_pool.proofs.Common.{Interval, List, MAX_PAGES, in_order, true, ℕ, ◌≡◌, ◌≤◌}
use Rattle.buffer_pool.specs.Holdings.{IsSound}
use Rattle.buffer_pool.proofs.Orders.{in_order-at, in_order-apart}
use Rattle.buffer_pool.proofs.Least.{meets-before}

-- intervals in order do not meet and lie in the pool, so a pool of a legal size is sound
pub sound_from : (size : ℕ) (held : List Interval) → (1 ≤ size) × (size ≤ MAX_PAGES) → in_order 0 size held ≡ true →
    IsSound (record { size = size; held = held })
sound_from size held sized order =
    record {
      sized = sized;
      in_order = order;
      apart = λ j k d less lt. meets-before _ _ (in_order-apart 0 size held order j k d less lt);
      inside = λ k d lt. let at = in_order-at 0 size held order k d lt in (at.1, at.2);
    }
