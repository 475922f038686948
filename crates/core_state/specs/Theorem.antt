-- What a core promises of several calls, and of whole histories.
use Rattle.std.specs.Prelude.{◌≡◌, ℕ, ◌<◌, ◌≤◌, ◌↔◌, true, List, [], ◌∷◌, ◌++◌, Option, Some, None, Result, Err, IfOk, IfErr, OnErr}
use Rattle.std.specs.List.{cons_option, filter_map}
use Rattle.sm_names.specs.declared.messages.Call.{Call}
use Rattle.sm_names.specs.declared.messages.Reply.{Reply}
use Rattle.sm_names.specs.declared.outcomes.Refusal.{Refusal}
use Rattle.sm_names.specs.declared.outcomes.StepFault.{StepFault}
use Rattle.sm_names.specs.Answers.{IsAnswer}
use Rattle.sm_names.specs.Marks.{Entry}
use Rattle.core_state.specs.Kinds.{fits_call, takes_no_memory}
use Rattle.core_state.specs.Reads.{readings_of}
use Rattle.core_state.specs.Shown.{Shows}
use Rattle.core_state.specs.State.{IsSame, State}
use Rattle.core_state.specs.Steps.{Follows}

-- each legal history that the old state shows, extended by these entries, is legal, and the new state shows it
abbrev pub GoesOn : State → State → List Entry → Type 0
GoesOn old new entries = (history : List Entry) → Shows old history → Shows new (history ++ entries)

-- each call with its reply, as far as there are replies
abbrev pub entries : List (ℕ × Call) → List Reply → List Entry
entries (c ∷ cs) (r ∷ rs) = (c.0, c.1, r) ∷ entries cs rs
entries _ _ = []

-- one event: there is room for it in the history, the old state answers the call so, and the new one follows
pub record Makes (old new : State) (entry : Entry) : Type 0 where
  pub room : old.events < old.limits.events
  pub answer : IsAnswer old.limits (readings_of old) entry.0 entry.1 entry.2
  pub after : Follows old new entry.0 entry.1 entry.2

-- the events of these entries, one after another, lead from the old state to the new
abbrev pub Leads : State → List Entry → State → Type 0
Leads old [] new = new ≡ old
Leads old (entry ∷ more) new = (next : State) × Makes old next entry × Leads next more new

-- a call that a core without clients refuses
abbrev pub refused_call : Entry
refused_call = (1, Call.Shut, Reply.Refused Refusal.NoSuchClient)

-- after these events one more was not made, for this reason: nothing else happened
pub record Stops (old : State) (entries : List Entry) (fault : StepFault) (new : State) : Type 0 where
  pub last : State
  pub made : Leads old entries last
  pub kept : IsSame last new
  pub equal : fault ≡ StepFault.HistoryFull → new ≡ last

-- the tracker that the reply tells of: no other reply tells of one
abbrev pub tracker_told : Reply → Option ℕ
tracker_told (Reply.Tracker id) = Some id
tracker_told _ = None

-- the trackers that the replies of these entries tell of, in order
abbrev pub trackers_told : List Entry → List ℕ
trackers_told made = filter_map (λ (e : Entry). tracker_told e.2) made

-- one call was taken, or not: what a core promises of a step
pub record Stepped (old new : State) (client : ℕ) (call : Call) (result : Result Reply StepFault) : Type 0 where
  pub answer : IfOk result (λ reply. IsAnswer old.limits (readings_of old) client call reply)
  pub kind : IfOk result (λ reply. fits_call call reply ≡ true)
  pub after : IfOk result (λ reply. Follows old new client call reply)
  pub goes_on : IfOk result (λ reply. GoesOn old new ((client, call, reply) ∷ []))
  pub untaken : IfOk result (λ reply. new.trackers.untaken ≡ old.trackers.untaken ++ cons_option (tracker_told reply) [])
  pub kept : OnErr result (IsSame old new)
  pub equal : result ≡ Err StepFault.HistoryFull → new ≡ old
  pub stays : OnErr result ((history : List Entry) → Shows old history → Shows new history)
  pub full : (result ≡ Err StepFault.HistoryFull) ↔ (old.limits.events ≤ old.events)
  pub memory : IfErr result (λ fault. takes_no_memory call ≡ true → fault ≡ StepFault.HistoryFull)
