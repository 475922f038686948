-- What one more mark changes in the nodes of a collection.
use Rattle.std.specs.Prelude.{Bool, true, false, ◌||◌, ◌&&◌, not, List}
use Rattle.std.specs.List.{list_any, filter}
use Rattle.sm_names.specs.Forced.{Standing}
use Rattle.sm_names.specs.declared.keys.NodeKey.{NodeKey}
use Rattle.sm_names.specs.declared.messages.Call.{Call}
use Rattle.sm_names.specs.declared.messages.Reply.{Reply}
use Rattle.sm_names.specs.Losses.{top}
use Rattle.sm_names.specs.Members.{Member, is_under}
use Rattle.sm_names.specs.Sameness.{same_key}

-- the node's failure does not propagate to its parent
abbrev pub blocks : Member → Bool
blocks m = m.attached || (m.dispensable && m.allocated)

-- the highest node that the node's failure propagates to: it takes that one and all below it
abbrev pub highest : List Member → Member → NodeKey
highest ms m = top (λ key. list_any (λ n. same_key n.key key && blocks n) ms) m.key m.above

-- a loss that takes these nodes
abbrev pub after_loss : (NodeKey → Bool) → Member → Member
after_loss taken m = record m { gone = taken m.key || m.gone }

-- the allocation of the unit with this head
abbrev pub after_allocation : NodeKey → Member → Member
after_allocation head m = record m { allocated = same_key head m.head || m.allocated }

-- the end of this node and of all below it
abbrev pub after_end : NodeKey → Member → Member
after_end top m = record m { gone = is_under top m || m.gone }

-- without the nodes that are gone, as if they had been forgotten
abbrev pub without_gone : Standing → Standing
without_gone s = record s { members = filter (λ m. not m.gone) s.members }

-- a call with this reply changes nothing but the number of events. A misuse fails its node, but by
-- a loss, which is a mark of its own. Any other call and reply may change something
abbrev pub is_quiet : Call → Reply → Bool
is_quiet call (Reply.Refused refusal) = true
is_quiet call (Reply.Misused misuse) = true
is_quiet call (Reply.Allocated count size) = true
is_quiet call Reply.Pending = true
is_quiet call Reply.Empty = true
is_quiet (Call.Sync key) Reply.Done = true
is_quiet (Call.Release key) (Reply.PeerClosed cause origin) = false
is_quiet call (Reply.PeerClosed cause origin) = true
is_quiet _ _ = false
