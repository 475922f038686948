-- Where the core under the lock made an event, so did the one that is it but for taken readers.
use Rattle.service_lock.proofs.Common.{Bound, Call, Called, Entry, List, NodeKey, None, Option, Reply, Shows, Some, SomeCoreCame, State}
use Rattle.service_lock.proofs.Common.{Strength, [], ap, length, refl, subst, sym, ℕ, ◌++◌, ◌∙◌, ◌∷◌, ◌≡◌}
use Rattle.std.proofs.Common.{not, if◌then◌else◌, nat_le}
use Rattle.std.specs.List.{filter}
use Rattle.std.specs.Option.{option_and_then, option_map_or}
use Rattle.sm_names.specs.Answers.{IsAnswer, Readings, new_key}
use Rattle.sm_names.specs.Handles.{is_doomed}
use Rattle.sm_names.specs.Members.{some_strong_live}
use Rattle.sm_names.specs.Trackers.{World}
use Rattle.buffer_holds.specs.Counts.{Counts, total}
use Rattle.trackers.specs.declared.waiting.Waiting.{Waiting}
use Rattle.trackers.specs.Table.{TrackerTable, firings, still_waiting}
use Rattle.forest_store.specs.declared.change.Change.{Change}
use Rattle.forest_store.specs.declared.node.Node.{Node}
use Rattle.forest_store.specs.Forest.{Collection, Forest, collection_at, node_at}
use Rattle.forest_store.specs.Nodes.{is_spent, members_of}
use Rattle.forest_store.specs.Settling.{Handles, buffer_names}
use Rattle.core_state.specs.Reads.{open_end_of, readings_of, world_in}
use Rattle.core_state.specs.State.{IsSame, counts_of}
use Rattle.core_state.specs.Steps.{Follows, GainsTracker, Work, Worked, at_collection, birth_by, done_to, handles_by, swept, tracker_by}
use Rattle.core_state.specs.Steps.{work_of}
use Rattle.core_state.specs.Theorem.{Makes}
use Rattle.core_state.proofs.theorem.Leads.{leads_limits, leads_on, leads_pool}
use Rattle.service_lock.specs.Comings.{CameBy, IsButTaken}

-- ---- one event

module _ (s : State) (holds : Counts) (trackers : TrackerTable) (counts : counts_of holds ≡ counts_of s.holds)
    (limit : trackers.limit ≡ s.trackers.limit) (unfired : trackers.unfired ≡ s.trackers.unfired)
    (fired : trackers.fired ≡ s.trackers.fired) where
  -- the other core
  abbrev other : State
  other = record s { holds = holds; trackers = trackers }

  -- answers read the same of both
  reads-same : readings_of other ≡ readings_of s
  reads-same = λ i. record (readings_of s) {
    end_of = λ key. option_and_then
        (λ (n : Node). if is_spent n.end then None else Some (record (open_end_of s n) {
          to_open = if n.allocated then option_map_or
              (λ (c : Collection).
              filter (λ b. not (is_doomed ((counts i).total b Strength.Strong) (some_strong_live (members_of c.nodes)))) (buffer_names c))
              (collection_at s.forest n.collection) [] else [];
        }))
        (node_at s.forest key);
    open_of = (counts i).of;
    open_total = (counts i).total;
    unfired = length (unfired i);
  }

  -- a call makes the same birth
  birth-same : (client : ℕ) (call : Call) (collection : ℕ) → birth_by other client call collection ≡ birth_by s client call collection
  birth-same client Call.OpenRoot collection = refl
  birth-same client (Call.Duplicate above) collection = refl
  birth-same client (Call.AttachToken above) collection = refl
  birth-same client _ collection = refl

  -- what is done changes the same
  done-same : (call : Call) → done_to other call ≡ done_to s call
  done-same (Call.DropHandle buffer strength) =
      ap (λ (n : ℕ). if nat_le 2 n then None else at_collection s.forest buffer.collection Change.Nothing)
      (λ i. (counts i).total buffer strength)
  done-same _ = refl

  -- so the event changes the same
  work-same : (client : ℕ) (call : Call) (reply : Reply) → work_of other client call reply ≡ work_of s client call reply
  work-same client call (Reply.Token key collection) = birth-same client call collection
  work-same client call Reply.Done = done-same call
  work-same client call _ = refl

  -- and leads to the same forest
  worked-same : (handles : Handles) (o : Option Work) (key : Option NodeKey) (after : Forest) → Worked other handles o key after →
      Worked s handles o key after
  worked-same handles None key after so = so
  worked-same handles (Some work) key after so = so

  -- the trackers that both have then
  record HasGained (o : Option Waiting) (gained : TrackerTable) : Type 0 where
    again : TrackerTable
    gains : GainsTracker s.trackers o again
    limited : gained.limit ≡ again.limit
    waiting : gained.unfired ≡ again.unfired
    told : gained.fired ≡ again.fired

  -- by whether one is made
  gains-too : (o : Option Waiting) (gained : TrackerTable) → GainsTracker trackers o gained → HasGained o gained
  gains-too None gained same = record {
    again = s.trackers;
    gains = refl;
    limited = ap (λ (t : TrackerTable). t.limit) same ∙ limit;
    waiting = ap (λ (t : TrackerTable). t.unfired) same ∙ unfired;
    told = ap (λ (t : TrackerTable). t.fired) same ∙ fired;
  }
  gains-too (Some tracker) gained attaches = record {
    again = record s.trackers {
      cells = s.trackers.cells ++ record { id = tracker.id; name = attaches.name } ∷ [];
      unfired = s.trackers.unfired ++ tracker ∷ [];
      untaken = s.trackers.untaken ++ tracker.id ∷ [];
    };
    gains = record { name = attaches.name; next = refl };
    limited = ap (λ (t : TrackerTable). t.limit) attaches.next ∙ limit;
    waiting = ap (λ (t : TrackerTable). t.unfired) attaches.next ∙ ap (λ (l : List Waiting). l ++ tracker ∷ []) unfired;
    told = ap (λ (t : TrackerTable). t.fired) attaches.next ∙ fired;
  }

  -- the event leads to a core that is the other one then, but for taken readers
  event-too : (new : State) (client : ℕ) (call : Call) (reply : Reply) → Makes other new (client, call, reply) →
      (last : State) × Makes s last (client, call, reply) × IsButTaken last new
  event-too new client call reply makes =
      let f : Follows other new client call reply = makes.after in
      let g : HasGained (tracker_by s.forest call reply) f.attached =
      gains-too (tracker_by s.forest call reply) f.attached f.gains in
      let world : World = world_in f.worked (total new.holds) in
      let last : State = record new { trackers = swept world new.events g.again } in
      let after : Follows s last client call reply = record {
        pool = f.pool;
        limits = f.limits;
        events = f.events;
        clients = f.clients;
        handles = f.handles ∙ ap (handles_by (Called client reply call)) counts;
        worked = f.worked;
        work = worked-same (total new.holds) (work_of s client call reply) (new_key reply) f.worked
            (subst (λ (o : Option Work). Worked other (total new.holds) o (new_key reply) f.worked) (work-same client call reply) f.work);
        collections = f.collections;
        keys = f.keys;
        attached = g.again;
        gains = g.gains;
        trackers = refl;
      } in
      let answer : IsAnswer s.limits (readings_of s) client call reply =
      subst (λ (r : Readings). IsAnswer s.limits r client call reply) reads-same makes.answer in (
        last,
        (record { room = makes.room; answer = answer; after = after }),
        (record {
          rest = refl;
          counts = refl;
          limit = ap (λ (t : TrackerTable). t.limit) f.trackers ∙ g.limited;
          unfired = ap (λ (t : TrackerTable). t.unfired) f.trackers ∙ ap (still_waiting world) g.waiting;
          fired = ap (λ (t : TrackerTable). t.fired) f.trackers ∙ (λ i. g.told i ++ firings world new.events (g.waiting i));
        }),
      )

-- an event that the one core made leads to another that is it then, but for taken readers
makes-too : (last core new : State) (client : ℕ) (call : Call) (reply : Reply) → IsButTaken last core →
    Makes core new (client, call, reply) → (next : State) × Makes last next (client, call, reply) × IsButTaken next new
makes-too last core new client call reply same makes =
    event-too last core.holds core.trackers same.counts same.limit same.unfired same.fired new client call reply
    (subst (λ (s : State). Makes s new (client, call, reply)) same.rest makes)

-- ---- several events

-- the core made one event more
pub came_on : (history : List Entry) (core new : State) (client : ℕ) (call : Call) (reply : Reply) → CameBy history core →
    Makes core new (client, call, reply) → CameBy (history ++ (client, call, reply) ∷ []) new
came_on history core new client call reply came makes =
    let on = makes-too came.last core new client call reply came.same makes in
    record {
      first = came.first;
      blank = came.blank;
      last = on.0;
      leads = leads_on came.first came.last on.0 history (client, call, reply) came.leads on.1;
      same = on.2;
    }

-- a core that is the same, but for taken readers and the order of rows, came so too
came-same : (history : List Entry) (core new : State) → CameBy history core →
    new ≡ record core { holds = new.holds; trackers = new.trackers } → counts_of new.holds ≡ counts_of core.holds →
    new.trackers.limit ≡ core.trackers.limit → new.trackers.unfired ≡ core.trackers.unfired →
    new.trackers.fired ≡ core.trackers.fired → CameBy history new
came-same history core new came rest counts limit unfired fired = record {
  first = came.first;
  blank = came.blank;
  last = came.last;
  leads = came.leads;
  same = record {
    rest = rest ∙ ap (λ (s : State). record s { holds = new.holds; trackers = new.trackers }) came.same.rest;
    counts = counts ∙ came.same.counts;
    limit = limit ∙ came.same.limit;
    unfired = unfired ∙ came.same.unfired;
    fired = fired ∙ came.same.fired;
  };
}

-- one that refused a call
pub came_refused : (history : List Entry) (core new : State) → IsSame core new → CameBy history core → CameBy history new
came_refused history core new same came = came-same history core new came
    (ap (λ (s : State). record s { holds = new.holds; trackers = new.trackers }) same.rest)
    same.counts (ap (λ (s : State). s.trackers.limit) same.rest) (ap (λ (s : State). s.trackers.unfired) same.rest)
    (ap (λ (s : State). s.trackers.fired) same.rest)

-- one of which a reader was taken
pub came_taken : (history : List Entry) (core new : State) (untaken : List ℕ) →
    new ≡ record core { trackers = record core.trackers { untaken = untaken } } → CameBy history core → CameBy history new
came_taken history core new untaken is came = came-same history core new came
    (ap (λ (s : State). record s { holds = new.holds; trackers = new.trackers }) is)
    (ap (λ (s : State). counts_of s.holds) is) (ap (λ (s : State). s.trackers.limit) is) (ap (λ (s : State). s.trackers.unfired) is)
    (ap (λ (s : State). s.trackers.fired) is)

-- a core that shows no event came by none
pub came_first : (core : State) → Shows core [] → CameBy [] core
came_first core shows = record {
  first = core;
  blank = shows;
  last = core;
  leads = refl;
  same = record { rest = refl; counts = refl; limit = refl; unfired = refl; fired = refl };
}

-- so some core came by the history
pub some_core_came : (history : List Entry) (core : State) (pool : ℕ) (limits : Bound) → CameBy history core →
    core.pool ≡ pool → core.limits ≡ limits → SomeCoreCame pool limits history
some_core_came history core pool limits came pool_is limits_is = record {
  first = came.first;
  blank = came.blank;
  pool_is = sym (leads_pool came.first came.last history came.leads)
      ∙ (sym (ap (λ (s : State). s.pool) came.same.rest) ∙ pool_is);
  limits_is = sym (leads_limits came.first came.last history came.leads)
      ∙ (sym (ap (λ (s : State). s.limits) came.same.rest) ∙ limits_is);
  last = came.last;
  leads = came.leads;
}
