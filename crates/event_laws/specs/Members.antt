-- Who joined.
use Rattle.std.specs.Prelude.{ℕ, ◌+◌, ◌==◌, ◌≡◌, Bool, true, false, if◌then◌else◌, List, [], ◌∷◌, ◌++◌, is_some, ◌<◌, length, get_or}
use Rattle.std.specs.List.{All, list_any}
use Rattle.sm_names.specs.Ends.{joined_at}
use Rattle.sm_names.specs.Marks.{Entry}
use Rattle.event_laws.specs.ByEvent.{entry_mark}

-- the event made a client
abbrev pub makes_client : Entry → Bool
makes_client entry = is_some (joined_at (entry_mark entry))

-- the clients that join in a record whose first event has this number: each has the number of its Join
abbrev pub joined_from : ℕ → List Entry → List ℕ
joined_from event [] = []
joined_from event (e ∷ es) =
    let later = joined_from (event + 1) es in if makes_client e then event ∷ later else later

-- the clients that the record made, in order
abbrev pub joined : List Entry → List ℕ
joined history = joined_from 1 history

-- the client is among these
abbrev pub is_among : List ℕ → ℕ → Bool
is_among ids client = list_any (λ id. id == client) ids

-- all of them are
abbrev pub AreAmong : List ℕ → List ℕ → Type 0
AreAmong ids clients = All (λ client. is_among ids client ≡ true) clients

-- the client joined and is not among these, but all that joined before it are
pub record IsFirstAbsent (ids : List ℕ) (history : List Entry) (client : ℕ) : Type 0 where
  pub before : List ℕ
  pub after : List ℕ
  pub joined : joined history ≡ before ++ client ∷ after
  pub present : AreAmong ids before
  pub absent : is_among ids client ≡ false

-- the first clients, by their numbers, are marked where they are among these
pub record Marks (present : List Bool) (ids : List ℕ) : Type 0 where
  pub each : (k : ℕ) → k < length present → get_or present k false ≡ is_among ids (k + 1)
