-- What the account of a client counts, and the handles that an event brings and lets go.
use Rattle.std.specs.Prelude.{Some, None, Result, Ok, Err, ◌≡◌, ℕ, Bool, true, false, List, ◌∷◌, [], ◌++◌, Option}
use Rattle.sm_names.specs.declared.keys.Strength.{Strength}
use Rattle.sm_names.specs.declared.messages.Call.{Call}
use Rattle.sm_names.specs.declared.messages.Reply.{Reply}
use Rattle.sm_names.specs.declared.outcomes.StepFault.{StepFault}
use Rattle.service_lock.specs.States.{View}
use Rattle.service_lock.specs.Units.{Amounts, with_one}
use Rattle.event_laws.specs.declared.own.Own.{Own}

-- the amounts of a client's shares, and its own list
pub record ClientAmounts : Type 0 where
  pub units : Amounts
  pub own : List Own

-- the list with one entry more, of this call and this reply
pub record AppendsOwn (old new : List Own) (call : Call) (reply : Reply) : Type 0 where
  pub event : ℕ
  pub next : new ≡ old ++ record { event = event; call = call; reply = reply } ∷ []

-- the same, and this is the event's number
abbrev pub AppendsEvent : List Own → List Own → ℕ → Call → Reply → Type 0
AppendsEvent old new event call reply = new ≡ old ++ record { event = event; call = call; reply = reply } ∷ []

-- the state, with this many shares of each book to be handed out
abbrev pub with_parts_left : ℕ → View → View
with_parts_left parts s = record s { parts = parts }

-- the reply is Done
abbrev pub is_done : Reply → Bool
is_done Reply.Done = true
is_done _ = false

-- nothing of any book
abbrev pub no_amounts : Amounts
no_amounts = record { events = 0; strong = 0; weak = 0 }

-- the unit of one handle of this strength
abbrev pub handle_unit : Strength → Amounts
handle_unit strength = with_one strength no_amounts

-- the strength of the handle that the call drops or gives: no other call lets one go
abbrev pub lets_go : Call → Option Strength
lets_go (Call.DropHandle buffer strength) = Some strength
lets_go (Call.GiveHandle buffer strength to) = Some strength
lets_go _ = None

-- the call can bring its caller one handle
abbrev pub may_gain : Call → Bool
may_gain (Call.DupHandle buffer strength) = true
may_gain Call.Collect = true
may_gain _ = false

-- the strength of the handle that the event brought: no other call brings one alone
abbrev pub gained : Call → Reply → Option Strength
gained (Call.DupHandle buffer strength) Reply.Done = Some strength
gained Call.Collect (Reply.CollectedHandle buffer strength) = Some strength
gained _ _ = None

-- the amounts with the handle that was brought
abbrev pub with_gain : Option Strength → Amounts → Amounts
with_gain None units = units
with_gain (Some strength) units = with_one strength units

-- how many that is
abbrev pub handle_gain : Option Strength → ℕ
handle_gain None = 0
handle_gain (Some strength) = 1

-- the amounts have the same handles
abbrev pub SameHandles : Amounts → Amounts → Type 0
SameHandles a b = (a.strong ≡ b.strong) × (a.weak ≡ b.weak)

-- the event was made and answered Done
abbrev pub made_done : Result Reply StepFault → Bool
made_done (Ok reply) = is_done reply
made_done (Err fault) = false
