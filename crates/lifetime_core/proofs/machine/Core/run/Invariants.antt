use Rattle.lifetime_core.proofs.Common.{GoesOn, entries, length, ◌≡◌}
use Rattle.std.proofs.Common.{vec_len}
use Rattle.std.specs.Prelude.{vec_capacity}
use Rattle.core_state.specs.Theorem.{Leads}
use Rattle.lifetime_core.proofs.machine.Core.run.Given as goal

abbrev pub invariant-loop-client : goal.invariant-loop-client
invariant-loop-client l = record {
  goes : GoesOn l.fn.self l.self (entries l.calls l.replies.items);
  leads : Leads l.fn.self (entries l.calls l.replies.items) l.self;
  count : length l.replies.items ≡ l.client-index;
  len : vec_len l.replies ≡ l.client-index;
  room : vec_capacity l.replies ≡ length l.calls;
}
