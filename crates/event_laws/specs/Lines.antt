-- What is said of each client.
use Rattle.std.specs.Prelude.{ℕ, ◌-◌, List, length, map}
use Rattle.std.specs.List.{sum_by}
use Rattle.sm_names.specs.declared.keys.Strength.{Strength}
use Rattle.sm_names.specs.declared.keys.Strength.TheVariants.{Strong, Weak}
use Rattle.sm_names.specs.declared.messages.Call.{Call}
use Rattle.sm_names.specs.declared.messages.Reply.{Reply}
use Rattle.sm_names.specs.Marks.{Entry}
use Rattle.event_laws.specs.HandleSums.{count_if, indices_in}
use Rattle.event_laws.specs.declared.line.ClientLine.{ClientLine}
use Rattle.event_laws.specs.declared.own.Own.{Own}
use Rattle.event_laws.specs.Members.{joined}
use Rattle.event_laws.specs.Parts.{part}

-- the handles of this strength that an event brings its client: a Take one on each buffer of its set, a DupHandle one,
-- a Collect may bring one. No other event brings any
abbrev pub gained_by : Strength → Call → Reply → ℕ
gained_by strength (Call.Take key) (Reply.Taken collection taken set) =
    count_if strength taken (length (indices_in set))
gained_by strength (Call.DupHandle buffer dup) Reply.Done = count_if strength dup 1
gained_by strength Call.Collect (Reply.CollectedHandle buffer got) = count_if strength got 1
gained_by strength _ _ = 0

-- those that it takes from its client: a DropHandle one, a GiveHandle one. No other event takes any
abbrev pub lost_by : Strength → Call → Reply → ℕ
lost_by strength (Call.DropHandle buffer dropped) Reply.Done = count_if strength dropped 1
lost_by strength (Call.GiveHandle buffer given to) Reply.Done = count_if strength given 1
lost_by strength _ _ = 0

-- the handles of this strength that a list of events brought
abbrev pub gains : Strength → List Own → ℕ
gains strength own = sum_by (λ (o : Own). gained_by strength o.call o.reply) own

-- and those that it took away
abbrev pub losses : Strength → List Own → ℕ
losses strength own = sum_by (λ (o : Own). lost_by strength o.call o.reply) own

-- how many events the client made after its Join, and how many handles of each strength it has open by them
abbrev pub client_line : List Entry → ℕ → ClientLine
client_line history client =
    let own = part client history in
    record {
      client = client;
      events = length own;
      strong = gains Strong own - losses Strong own;
      weak = gains Weak own - losses Weak own;
    }

-- a line for each client that joined, in order
abbrev pub lines_of : List Entry → List ClientLine
lines_of history = map (client_line history) (joined history)
