use Rattle.core_likeness.proofs.Common.{Entry, collects, entry_mark, take, times, ◌≡◌, ◌≤◌}
use Rattle.core_likeness.proofs.readings.clients.count_collected.Given as goal

-- so far those of these entries
abbrev pub invariant-loop-entry : goal.invariant-loop-entry
invariant-loop-entry l = record {
  counted : l.count ≡ times (λ (e : Entry). collects l.client (entry_mark e)) (take l.entry-index l.entries);
  few : l.count ≤ l.entry-index;
}
