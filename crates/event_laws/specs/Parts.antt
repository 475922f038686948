-- A client's part of the record.
use Rattle.std.specs.Prelude.{ℕ, ◌+◌, ◌==◌, ◌&&◌, ◌≡◌, Bool, if◌then◌else◌, ◌≢◌, nat_lt, List, [], ◌∷◌, ◌++◌}
use Rattle.sm_names.specs.Marks.{Entry}
use Rattle.event_laws.specs.declared.own.Own.{Own}

-- an entry of the record, as its client was told of it
abbrev pub own_entry : ℕ → Entry → Own
own_entry event entry = record { event = event; call = entry.1; reply = entry.2 }

-- the client made the event, after its Join, whose number is the client's id
abbrev pub is_own : ℕ → ℕ → Entry → Bool
is_own client event entry = entry.0 == client && nat_lt client event

-- the events of the client in a record whose first event has this number
abbrev pub part_from : ℕ → ℕ → List Entry → List Own
part_from client event [] = []
part_from client event (e ∷ es) =
    let later = part_from client (event + 1) es in
    if is_own client event e then own_entry event e ∷ later else later

-- the client's part of the record: all that it made after its Join, in order
abbrev pub part : ℕ → List Entry → List Own
part client history = part_from client 1 history

-- the lists differ in their first element, or just one of them is empty: this is the event of the part's first element, or
-- of the list's, if the part is empty
abbrev pub BeginApart : ℕ → List Own → List Own → Type 0
BeginApart event [] [] = ⊥
BeginApart event (mine ∷ more) [] = mine.event ≡ event
BeginApart event [] (told ∷ rest) = told.event ≡ event
BeginApart event (mine ∷ more) (told ∷ rest) = (told.event ≡ event) × (mine ≢ told)

-- the client's list is not its part: this is the first place where they differ
pub record DifferAt (event : ℕ) (own part : List Own) : Type 0 where
  pub same : List Own
  pub mine : List Own
  pub told : List Own
  pub own_is : own ≡ same ++ mine
  pub part_is : part ≡ same ++ told
  pub apart : BeginApart event mine told
