use Rattle.std.proofs.Common.{◌≡◌, take}
use Rattle.std.specs.List.{flat_map}
use Rattle.event_facts.specs.Facts.{client_holds}
use Rattle.event_facts.proofs.keepers.holders.Given as goal

-- so far the handles of these clients
abbrev pub invariant-loop-client : goal.invariant-loop-client
invariant-loop-client l = l.found.items ≡ flat_map (client_holds l.core.holds l.buffer) (take l.client-index l.clients.items)
