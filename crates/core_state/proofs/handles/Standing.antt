-- Which events may be refused memory, and which stand at once.
use Rattle.core_state.proofs.Common.{Bool, Call, EventTask, None, Option, Reply, State, Waiting, ap, collects_handle, false, false≢true}
use Rattle.core_state.proofs.Common.{is_some, refl, takes_room, tracker_by, true, work_in, work_of, ℕ, ◌||◌, ◌∙◌, ◌≡◌}
use Rattle.core_state.specs.Hands.{takes_handle_room}
use Rattle.core_state.specs.Kinds.{takes_no_memory}
use Rattle.core_state.specs.Tasks.{may_take_memory}

module _ (call : Call) (asked : Reply) {task : Option EventTask} {tracking : Option Waiting}
    (lands : collects_handle call asked ≡ true → (task ≡ None) × (tracking ≡ None)) where
  -- an event that makes a tracker collects no handle
  pub stands_tracked : is_some tracking ≡ true → collects_handle call asked ≡ false
  stands_tracked some = by (collects_handle call asked) refl
    where
      -- an event that collects a handle makes no tracker, so the test is false
      by : (b : Bool) → collects_handle call asked ≡ b → b ≡ false
      by false is = refl
      by true is = let none : is_some tracking ≡ false = ap is_some (lands is).1 in cc

  -- nor does one that changes a collection
  pub stands_worked : is_some (work_in task) ≡ true → collects_handle call asked ≡ false
  stands_worked some = by (collects_handle call asked) refl
    where
      by : (b : Bool) → collects_handle call asked ≡ b → b ≡ false
      by false is = refl
      by true is = let none : is_some (work_in task) ≡ false = ap (λ t. is_some (work_in t)) (lands is).0 in cc

-- nor does one that needs room for a client or a parcel
pub stands_noted : (call : Call) (asked : Reply) → takes_room call asked ≡ true → collects_handle call asked ≡ false
stands_noted Call.Join (Reply.Joined made) takes = refl
stands_noted (Call.Give key to) Reply.Done takes = refl
stands_noted (Call.GiveHandle buffer strength to) Reply.Done takes = refl
stands_noted _ _ takes = absurd (false≢true takes)

-- what holds of one holds of this one or that one
or_right : (a : Bool) {b : Bool} → b ≡ true → (a || b) ≡ true
or_right true is = refl
or_right false is = is

-- a disjunction is true where its first part is, whatever the second part is
or_left : {a : Bool} (b : Bool) → a ≡ true → (a || b) ≡ true
or_left b is = ap (λ a. a || b) is

module _ (call : Call) (asked : Reply) (task : Option EventTask) (tracking : Option Waiting) where
  -- each of the four may take memory
  pub may_by_handles : takes_handle_room call asked ≡ true → may_take_memory call asked task tracking ≡ true
  may_by_handles is = or_left _ is

  -- an event that makes a tracker may take memory for it
  pub may_by_tracker : is_some tracking ≡ true → may_take_memory call asked task tracking ≡ true
  may_by_tracker is = or_right (takes_handle_room call asked) (or_left _ is)

  -- an event that changes a collection may take memory for the change
  pub may_by_work : is_some (work_in task) ≡ true → may_take_memory call asked task tracking ≡ true
  may_by_work is = or_right (takes_handle_room call asked) (or_right (is_some tracking) (or_left _ is))

  -- an event that adds a client or a parcel may take memory for it
  pub may_by_room : takes_room call asked ≡ true → may_take_memory call asked task tracking ≡ true
  may_by_room is = or_right (takes_handle_room call asked) (or_right (is_some tracking) (or_right (is_some (work_in task)) is))

-- a Shut and a Collect open and give nothing, make no tracker, change no collection and admit no client
record IsQuiet (s : State) (client : ℕ) (call : Call) (asked : Reply) : Type 0 where
  handle_moves : takes_handle_room call asked ≡ false
  tracks : tracker_by s.forest call asked ≡ None
  work : work_of s client call asked ≡ None
  room : takes_room call asked ≡ false

-- a Shut needs no room, attaches no tracker and changes no collection, whatever its reply is
shut_is_quiet : (s : State) (client : ℕ) (asked : Reply) → IsQuiet s client Call.Shut asked
shut_is_quiet s client Reply.Done = record { handle_moves = refl; tracks = refl; work = refl; room = refl }
shut_is_quiet s client (Reply.Token key collection) = record { handle_moves = refl; tracks = refl; work = refl; room = refl }
shut_is_quiet s client (Reply.Misused misuse) = record { handle_moves = refl; tracks = refl; work = refl; room = refl }
shut_is_quiet s client (Reply.Taken collection strength set) = record { handle_moves = refl; tracks = refl; work = refl; room = refl }
shut_is_quiet s client (Reply.Tracker id) = record { handle_moves = refl; tracks = refl; work = refl; room = refl }
shut_is_quiet s client _ = record { handle_moves = refl; tracks = refl; work = refl; room = refl }

-- a Collect needs no room, attaches no tracker and changes no collection, whatever its reply is
collect_is_quiet : (s : State) (client : ℕ) (asked : Reply) → IsQuiet s client Call.Collect asked
collect_is_quiet s client Reply.Done = record { handle_moves = refl; tracks = refl; work = refl; room = refl }
collect_is_quiet s client (Reply.Token key collection) = record { handle_moves = refl; tracks = refl; work = refl; room = refl }
collect_is_quiet s client (Reply.Misused misuse) = record { handle_moves = refl; tracks = refl; work = refl; room = refl }
collect_is_quiet s client (Reply.Taken collection strength set) = record { handle_moves = refl; tracks = refl; work = refl; room = refl }
collect_is_quiet s client (Reply.Tracker id) = record { handle_moves = refl; tracks = refl; work = refl; room = refl }
collect_is_quiet s client _ = record { handle_moves = refl; tracks = refl; work = refl; room = refl }

-- a quiet event takes no memory, since none of the four reasons to take some applies
quiet_takes_none : (s : State) (client : ℕ) (call : Call) (asked : Reply) (task : Option EventTask) (tracking : Option Waiting) →
    IsQuiet s client call asked → work_in task ≡ work_of s client call asked → tracking ≡ tracker_by s.forest call asked →
    may_take_memory call asked task tracking ≡ false
quiet_takes_none s client call asked task tracking quiet work tracks =
    rw (quiet.handle_moves, tracks ∙ quiet.tracks, work ∙ quiet.work, quiet.room) refl

-- they take no memory
pub takes_none : (s : State) (client : ℕ) (call : Call) (asked : Reply) (task : Option EventTask) (tracking : Option Waiting) →
    takes_no_memory call ≡ true → work_in task ≡ work_of s client call asked → tracking ≡ tracker_by s.forest call asked →
    may_take_memory call asked task tracking ≡ false
takes_none s client Call.Shut asked task tracking none work tracks =
    quiet_takes_none s client Call.Shut asked task tracking (shut_is_quiet s client asked) work tracks
takes_none s client Call.Collect asked task tracking none work tracks =
    quiet_takes_none s client Call.Collect asked task tracking (collect_is_quiet s client asked) work tracks
takes_none s client _ asked task tracking none work tracks = absurd (false≢true none)
