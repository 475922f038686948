-- Each client's events, chained.
use Rattle.std.specs.Prelude.{ℕ, ◌+◌, ◌-◌, ◌<◌, ◌≤◌, ◌==◌, ◌≡◌, true, if◌then◌else◌, List, [], ◌∷◌, length, drop, get_or}
use Rattle.sm_names.specs.Marks.{Entry}
use Rattle.event_laws.specs.declared.own.Own.{Own}
use Rattle.event_laws.specs.Parts.{is_own, part_from}

-- the first event of the client in a record whose first event has this number, or 0
abbrev pub first_from : ℕ → ℕ → List Entry → ℕ
first_from client event [] = 0
first_from client event (e ∷ es) =
    let later = first_from client (event + 1) es in if is_own client event e then event else later

-- of the events after the first this many: each client's first one, and from each the next of its client
pub record Links (passed : ℕ) (first next : List ℕ) (history : List Entry) : Type 0 where
  pub all_first : length first ≡ length history
  pub all_next : length next ≡ length history
  pub firsts : (client : ℕ) → client < length history →
      get_or first client 0 ≡ first_from client (passed + 1) (drop passed history)
  pub nexts : (k : ℕ) (e : Entry) → passed ≤ k → k < length history → e ≡ get_or history k e →
      is_own e.0 (k + 1) e ≡ true → get_or next k 0 ≡ first_from e.0 (k + 1 + 1) (drop (k + 1) history)

-- what the client made from this event on: nothing, if it is 0
abbrev pub rest_at : List Entry → ℕ → ℕ → List Own
rest_at history client event =
    if event == 0 then [] else part_from client event (drop (event - 1) history)

-- the event is 0, or one of the client's part
pub record Stands (history : List Entry) (client event : ℕ) : Type 0 where
  pub begins : 0 < event → first_from client event (drop (event - 1) history) ≡ event
