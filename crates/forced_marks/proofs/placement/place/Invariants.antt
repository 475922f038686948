use Rattle.forced_marks.proofs.Common.{length, places, ◌++◌, ◌-◌, ◌≡◌}
use Rattle.std.specs.Option.{option_map}
use Rattle.forced_marks.proofs.placement.place.Given as goal

-- those so far, and those that are still to come
abbrev pub invariant-loop : goal.invariant-loop
invariant-loop l = record {
  placed : option_map (λ ss. l.starts.items ++ ss) (places l.pool l.pages (l.count - l.counter) l.held.items)
      ≡ places l.pool l.pages l.count l.initial.held.items;
  many : length l.starts.items ≡ l.counter;
}
