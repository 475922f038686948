-- What a contract sees of the state under the lock, and what an event makes of it.
use Rattle.std.specs.Prelude.{◌≡◌, ℕ, ◌+◌, List, [], ◌∷◌, ◌++◌, length}
use Rattle.std.specs.List.{cons_option}
use Rattle.sm_names.specs.declared.keys.Strength.{Strength}
use Rattle.sm_names.specs.declared.keys.Strength.TheVariants.{Strong, Weak}
use Rattle.sm_names.specs.declared.messages.Call.{Call}
use Rattle.sm_names.specs.declared.messages.Reply.{Reply}
use Rattle.sm_names.specs.Bounds.{Bound}
use Rattle.sm_names.specs.Marks.{Entry, Timeline}
use Rattle.sm_names.specs.Timelines.{timeline}
use Rattle.event_laws.specs.HandleSums.{all_moving, all_open}
use Rattle.core_state.specs.Shown.{Shows}
use Rattle.core_state.specs.State.{State}
use Rattle.core_state.specs.Theorem.{tracker_told}
use Rattle.service_lock.specs.Comings.{CameBy}
use Rattle.service_lock.specs.Units.{BookSums}

-- a pool of this many pages, the limits, the record, the trackers that are still to be taken, and how many units can be handed out
pub record View : Type 0 where
  pub pool : ℕ
  pub limits : Bound
  pub history : List Entry
  pub untaken : List ℕ
  pub parts : ℕ

-- the pool and the limits are those that were asked for
abbrev pub IsSetUpWith : ℕ → Bound → ℕ → Bound → Type 0
IsSetUpWith asked_pages asked_limits pool limits = (pool ≡ asked_pages) × (limits ≡ asked_limits)

-- the state after one more event
abbrev pub view_after : View → ℕ → Call → Reply → View
view_after s client call reply = record s {
  history = s.history ++ (client, call, reply) ∷ [];
  untaken = s.untaken ++ cons_option (tracker_told reply) [];
}

-- the state with this many more units to be handed out
abbrev pub with_parts : ℕ → View → View
with_parts n s = record s { parts = s.parts + n }

-- the book of this strength counts the handles that are open, and those in parcels are carried
pub record CountsHandles (marks : Timeline) (strength : Strength) (sums : BookSums) : Type 0 where
  pub standing : sums.total ≡ all_open marks strength
  pub carried : sums.carried ≡ all_moving marks strength

-- what lies under the lock fits together: it is what was asked for, the core shows the record and came by its events, the books count
-- its events and its handles, and each can hand out as many shares
pub record StateInvariant (asked_pages : ℕ) (asked_limits : Bound) (core : State) (limits : Bound) (history : List Entry)
    (events_book strong_book weak_book : BookSums) : Type 0 where
  pub asked : IsSetUpWith asked_pages asked_limits core.pool limits
  pub shown : Shows core history
  pub came : CameBy history core
  pub limited : core.limits ≡ limits
  pub counted : events_book.total ≡ length history
  pub cut : (strong_book.left ≡ events_book.left) × (weak_book.left ≡ events_book.left)
  pub strong : CountsHandles (timeline core.pool history) Strong strong_book
  pub weak : CountsHandles (timeline core.pool history) Weak weak_book
