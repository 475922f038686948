-- Shares of the books, and what an event does to them.
use Rattle.std.specs.Prelude.{◌≡◌, ℕ, ◌+◌, ◌≤◌, ◌^◌}
use Rattle.sm_names.specs.declared.keys.Strength.{Strength}
use Rattle.sm_names.specs.declared.keys.Strength.TheVariants.{Strong, Weak}
use Rattle.sm_names.specs.declared.messages.Call.{Call}
use Rattle.sm_names.specs.declared.messages.Reply.{Reply}
use Rattle.service_lock.specs.declared.blank_books.BlankBooks.{BlankBooks}
use Rattle.service_lock.specs.declared.moves.HandleMoves.{HandleMoves}
use Rattle.event_laws.specs.HandleSums.{count_if}
use Rattle.service_lock.specs.Counting.{moves_by}

-- the sum of a book, the part of it that is in parcels, and how many shares can still be handed out
pub record BookSums : Type 0 where
  pub total : ℕ
  pub carried : ℕ
  pub left : ℕ

-- the sums after these moves
pub record Written (old new : BookSums) (moves : HandleMoves) : Type 0 where
  pub total : new.total + moves.dropped ≡ old.total + moves.opened
  pub carried : new.carried + moves.got ≡ old.carried + moves.sent

-- the amounts of someone's shares
pub record Amounts : Type 0 where
  pub events : ℕ
  pub strong : ℕ
  pub weak : ℕ

-- the handles of this strength that the call gives away if it is answered Done
abbrev pub needed : Strength → Call → ℕ
needed strength (Call.DropHandle buffer dropped) = count_if strength dropped 1
needed strength (Call.GiveHandle buffer given to) = count_if strength given 1
needed strength _ = 0

-- the caller has the unit of the handle that it would drop or give
pub record HasUnitFor (call : Call) (units : Amounts) : Type 0 where
  pub strong : needed Strong call ≤ units.strong
  pub weak : needed Weak call ≤ units.weak

-- the amount after these moves
abbrev pub Moved : ℕ → ℕ → HandleMoves → Type 0
Moved old new moves = new + (moves.dropped + moves.sent) ≡ old + (moves.opened + moves.got)

-- the units count the event: one event more, and each handle that it opened, dropped or moved
pub record CountsEvent (old new : Amounts) (call : Call) (reply : Reply) : Type 0 where
  pub events : new.events ≡ old.events + 1
  pub strong : Moved old.strong new.strong (moves_by Strong call reply)
  pub weak : Moved old.weak new.weak (moves_by Weak call reply)

-- there is a unit of a handle of this strength
abbrev pub HasOne : Strength → Amounts → Type 0
HasOne Strong u = 1 ≤ u.strong
HasOne Weak u = 1 ≤ u.weak

-- the amounts with one handle more
abbrev pub with_one : Strength → Amounts → Amounts
with_one Strong u = record u { strong = u.strong + 1 }
with_one Weak u = record u { weak = u.weak + 1 }

-- one unit of this strength went over
abbrev pub Passed : Strength → Amounts → Amounts → Amounts → Amounts → Type 0
Passed strength from_old from_new to_old to_new =
    (from_old ≡ with_one strength from_new) × (to_new ≡ with_one strength to_old)

-- each blank is that of its ledger, and of this many parts
pub record AreFor (events events_parts strong strong_parts weak weak_parts : ℕ) (blanks : BlankBooks) : Type 0 where
  pub events_name : blanks.events.name ≡ events
  pub events_size : (blanks.events.parts ≡ events_parts) × (events_parts ≡ 2 ^ 40)
  pub strong_name : blanks.strong.name ≡ strong
  pub strong_size : (blanks.strong.parts ≡ strong_parts) × (strong_parts ≡ 2 ^ 40)
  pub weak_name : blanks.weak.name ≡ weak
  pub weak_size : (blanks.weak.parts ≡ weak_parts) × (weak_parts ≡ 2 ^ 40)
