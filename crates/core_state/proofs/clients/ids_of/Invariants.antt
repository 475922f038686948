use Rattle.core_state.proofs.Common.{Client, map, ◌≡◌}
use Rattle.std.proofs.Common.{take}
use Rattle.core_state.proofs.clients.ids_of.Given as goal

-- so far the numbers of these clients
abbrev pub invariant-loop-client : goal.invariant-loop-client
invariant-loop-client l = l.ids.items ≡ map (λ (c : Client). c.id) (take l.client-index l.clients)
