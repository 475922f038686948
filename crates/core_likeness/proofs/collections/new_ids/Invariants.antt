use Rattle.core_likeness.proofs.Common.{map, new_id, take, ◌≡◌}
use Rattle.core_likeness.proofs.collections.new_ids.Given as goal

-- so far those of these
abbrev pub invariant-loop-id : goal.invariant-loop-id
invariant-loop-id l = l.new.items ≡ map (new_id l.names) (take l.id-index l.ids)
