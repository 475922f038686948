use Rattle.event_facts.proofs.Common.{NodeKey, has, list_any, same_key, take, ◌≡◌}
use Rattle.event_facts.proofs.key_maps.keys_of.Given as goal

-- those so far
abbrev pub invariant-loop-key : goal.invariant-loop-key
invariant-loop-key l = (key : NodeKey) → has l.set key ≡ list_any (same_key key) (take l.key-index l.keys)
