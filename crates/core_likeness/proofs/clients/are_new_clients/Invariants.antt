use Rattle.core_likeness.proofs.Common.{client_after, client_renamed, map, new_id, new_key, take, timeline, ℕ, ◌≡◌}
use Rattle.core_likeness.proofs.clients.are_new_clients.Given as goal

-- so far each client stands alike
abbrev pub invariant-loop-client : goal.invariant-loop-client
invariant-loop-client l = (pool size : ℕ) → map (client_after (timeline size l.second)) (take l.client-index l.clients)
    ≡ map (λ client. client_renamed (new_key l.names) (new_id l.names) (client_after (timeline pool l.first) client))
    (take l.client-index l.clients)
