-- What an event does to the open handles of one strength.
use Rattle.std.specs.Prelude.{length}
use Rattle.sm_names.specs.declared.keys.Strength.{Strength}
use Rattle.sm_names.specs.declared.messages.Call.{Call}
use Rattle.sm_names.specs.declared.messages.Reply.{Reply}
use Rattle.event_laws.specs.HandleSums.{count_if, indices_in}
use Rattle.service_lock.specs.declared.moves.HandleMoves.{HandleMoves}

-- no handle is opened or moved
abbrev pub no_moves : HandleMoves
no_moves = record { opened = 0; dropped = 0; sent = 0; got = 0 }

-- what the event does to the handles of this strength: a Take opens one on each buffer of its set, a DupHandle opens one, a
-- DropHandle drops one, a GiveHandle puts one into a parcel, and a Collect may take one out. No other event moves any
abbrev pub moves_by : Strength → Call → Reply → HandleMoves
moves_by strength (Call.Take key) (Reply.Taken collection taken set) =
    record no_moves { opened = count_if strength taken (length (indices_in set)) }
moves_by strength (Call.DupHandle buffer dup) Reply.Done = record no_moves { opened = count_if strength dup 1 }
moves_by strength (Call.DropHandle buffer dropped) Reply.Done = record no_moves { dropped = count_if strength dropped 1 }
moves_by strength (Call.GiveHandle buffer given to) Reply.Done = record no_moves { sent = count_if strength given 1 }
moves_by strength Call.Collect (Reply.CollectedHandle buffer got) = record no_moves { got = count_if strength got 1 }
moves_by strength _ _ = no_moves
