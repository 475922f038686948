use Rattle.core_likeness.proofs.Common.{map, new_id, new_key, take, ◌≡◌}
use Rattle.alike_cores.specs.Alike.{parcel_renamed}
use Rattle.core_likeness.proofs.clients.are_new_parcels.Given as goal

-- so far the parcels are the ones
abbrev pub invariant-loop-at : goal.invariant-loop-at
invariant-loop-at l = take l.at l.other ≡ map (parcel_renamed (new_key l.names) (new_id l.names)) (take l.at l.one)
