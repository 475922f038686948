-- A state that forgot its first firings goes on as the one that did not: no answer and no change rests on a firing.
use Rattle.core_state.proofs.Common.{Call, Entry, Fired, Follows, Forest, GainsTracker, Handles, In-any, In-filter, In-list_any, Leads}
use Rattle.core_state.proofs.Common.{List, Makes, NodeKey, None, Option, Reply, Some, State, TrackerTable, Waiting, Work, Worked, World}
use Rattle.core_state.proofs.Common.{[], ap, append_assoc, firings, forgetting, is_unfired, recalling, refl, swept, sym, work_of, ℕ, ◌++◌}
use Rattle.core_state.proofs.Common.{◌==◌, ◌∙◌, ◌∷◌, ◌≡◌}
use Rattle.std.proofs.Common.{append-nil}
use Rattle.core_state.specs.Shown.{ShowsBut}
use Rattle.core_state.proofs.theorem.GoesOn.{goes_on}

-- the trackers with these firings before their own
abbrev pub behind : List Fired → TrackerTable → TrackerTable
behind gone t = record t { fired = gone ++ t.fired }

-- ---- one event

-- what an event changes of nodes and buffers does not rest on firings
pub work_recalls : (gone : List Fired) (s : State) (client : ℕ) (call : Call) (reply : Reply) →
    work_of (recalling gone s) client call reply ≡ work_of s client call reply
work_recalls gone s client Call.OpenRoot (Reply.Token key collection) = refl
work_recalls gone s client (Call.Duplicate above) (Reply.Token key collection) = refl
work_recalls gone s client (Call.AttachToken above) (Reply.Token key collection) = refl
work_recalls gone s client (Call.Close key) Reply.Done = refl
work_recalls gone s client (Call.DropHandle buffer strength) Reply.Done = refl
work_recalls gone s client call reply = refl

-- nor does the forest after it
pub worked_recalls : (gone : List Fired) (s : State) (handles : Handles) (work : Option Work) (key : Option NodeKey) (after : Forest) →
    Worked s handles work key after → Worked (recalling gone s) handles work key after
worked_recalls gone s handles None key after worked = worked
worked_recalls gone s handles (Some work) key after worked = worked

-- a tracker is attached beside these firings
pub gains_recall : (gone : List Fired) (old new : TrackerTable) (gained : Option Waiting) → GainsTracker old gained new →
    GainsTracker (behind gone old) gained (behind gone new)
gains_recall gone old new None same = ap (behind gone) same
gains_recall gone old new (Some tracker) gains = record { name = gains.name; next = ap (behind gone) gains.next }

-- and those that are due fire behind them
sweeps_recall : (gone : List Fired) (w : World) (event : ℕ) (t : TrackerTable) →
    behind gone (swept w event t) ≡ swept w event (behind gone t)
sweeps_recall gone w event t = ap (λ (l : List Fired). record (swept w event t) { fired = l }) (sym (append_assoc gone t.fired
    (firings w event t.unfired)))

module _ (gone : List Fired) (old new : State) (client : ℕ) (call : Call) (reply : Reply) where
  -- the next state follows
  pub follows_recalls : Follows old new client call reply → Follows (recalling gone old) (recalling gone new) client call reply
  follows_recalls f = record {
    pool = f.pool;
    limits = f.limits;
    events = f.events;
    clients = f.clients;
    handles = f.handles;
    worked = f.worked;
    work = rw (work_recalls gone old client call reply) (worked_recalls gone old _ _ _ f.worked f.work);
    collections = f.collections;
    keys = f.keys;
    attached = behind gone f.attached;
    gains = gains_recall gone old.trackers f.attached _ f.gains;
    trackers = ap (behind gone) f.trackers ∙ sweeps_recall gone _ _ f.attached;
  }

  -- so each history that the old state shows but for these firings goes on
  pub goes_on_but : Makes old new (client, call, reply) → (history : List Entry) → ShowsBut gone old history →
      ShowsBut gone new (history ++ (client, call, reply) ∷ [])
  goes_on_but makes = goes_on (recalling gone old) (recalling gone new) client call reply makes.answer
      (follows_recalls makes.after) makes.room

-- ---- several events

-- by induction on the entries: each event keeps it, whatever is left out
pub leads_on_but : (gone : List Fired) (old : State) (entries : List Entry) (new : State) → Leads old entries new →
    (history : List Entry) → ShowsBut gone old history → ShowsBut gone new (history ++ entries)
leads_on_but gone old [] new same history shows = rw (append-nil history, same) shows
leads_on_but gone old (entry ∷ more) new leads history shows =
    rw (← append_assoc history (entry ∷ []) more) (leads_on_but gone leads.0 more new leads.2 (history ++ entry ∷ [])
    (goes_on_but gone old leads.0 entry.0 entry.1 entry.2 leads.1 history shows))

-- ---- to forget

-- no history tells which firings were forgotten
pub forgetting_shows : (gone : List Fired) (s : State) (history : List Entry) → ShowsBut gone s history →
    ShowsBut (gone ++ s.trackers.fired) (forgetting s) history
forgetting_shows gone s history shows = record {
  legal = shows.legal;
  shown = record {
    events = shows.shown.events;
    clients = shows.shown.clients;
    collections = shows.shown.collections;
    given = shows.shown.given;
    handles = shows.shown.handles;
    trackers = record {
      fired = append-nil (gone ++ s.trackers.fired) ∙ shows.shown.trackers.fired;
      waiting = shows.shown.trackers.waiting;
      untaken = λ id on.
          let left = In-list_any (λ i. i == id) _ on in
          let was = In-filter (is_unfired s.trackers.unfired) s.trackers.untaken left.0 left.1 in
          shows.shown.trackers.untaken id (In-any (λ i. i == id) s.trackers.untaken left.0 was.0 left.2);
    };
  };
}
