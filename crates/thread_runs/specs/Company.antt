-- Whether a record is just that of so many actors, event by event. No public clause cites this module.
use Rattle.std.specs.Prelude.{ℕ, ◌+◌, ◌==◌, ◌&&◌, Bool, false, nat_le, nat_lt, if◌then◌else◌, List, [], ◌∷◌, Option, Some, None}
use Rattle.sm_names.specs.declared.messages.Call.{Call}
use Rattle.sm_names.specs.declared.messages.Reply.{Reply}
use Rattle.sm_names.specs.Marks.{Entry}

-- the event is the join of the client of this number
abbrev pub joins_as : ℕ → ℕ → Call → Reply → Bool
joins_as number client Call.Join (Reply.Joined id) = client == 0 && id == number
joins_as number client _ _ = false

-- an event behind so many is what a record of so many actors has there: the join of the next one, or what an actor made
abbrev pub is_fit : ℕ → ℕ → Entry → Bool
is_fit count at e = if nat_lt at count then joins_as (at + 1) e.0 e.1 e.2 else nat_le 1 e.0 && nat_le e.0 count

-- the number of the first event of these, behind so many, that is not; or of the first join that is missing
abbrev pub first_unfit : ℕ → ℕ → List Entry → Option ℕ
first_unfit count at [] = if nat_lt at count then Some (at + 1) else None
first_unfit count at (e ∷ es) = let later = first_unfit count (at + 1) es in if is_fit count at e then later else Some (at + 1)
