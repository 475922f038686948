use Rattle.sysmem.proofs.Common.{map, take}
use Rattle.std.proofs.Common.{◌≡◌, ◌∷◌}
use Rattle.std.specs.List.{filter}
use Rattle.sysmem.specs.Holders.{has_handles, moving_words, open_words}
use Rattle.sysmem.proofs.holders.holders_of.Given as goal

-- so far those in parcels, and those of these clients
abbrev pub invariant-loop-client : goal.invariant-loop-client
invariant-loop-client l =
    l.holders.items
    ≡ filter has_handles (moving_words l.core.holds l.buffer ∷ map (open_words l.core.holds l.buffer) (take l.client-index l.clients.items))
