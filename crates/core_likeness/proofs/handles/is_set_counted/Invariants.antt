use Rattle.core_likeness.proofs.Common.{IsCounted, Strength, bit_at, new_id, ℕ, ◌<◌, ◌≡◌}
use Rattle.core_likeness.proofs.handles.is_set_counted.Given as goal

-- so far those of these buffers are
abbrev pub invariant-counting : goal.invariant-counting
invariant-counting l = (n : ℕ) → n < l.index → bit_at l.set n ≡ 1 → (strength : Strength) →
    IsCounted l.sides.one.now.holds l.sides.other.now.holds (new_id l.sides.names.now) l.sides.is_old l.client (record {
      collection =
          l.collection;
      index = n;
    }) strength
