-- How a play's position goes on.
use Rattle.actor_plays.proofs.Common.{AreJoining, AreStages, Call, Err, Fell, GoneNode, HasRest, HavePassed, IfOk, IfSome, IsLeave}
use Rattle.actor_plays.proofs.Common.{IsOfSetup, IsPlay, IsTurn, List, Makes, Ok, Option, PassOn, Plan, Play, ReachedBy, Reply, Result}
use Rattle.actor_plays.proofs.Common.{Setup, Shows, Some, Stage, State, StepFault, Turn, Turned, [], add-one, ap, false, first_stage}
use Rattle.actor_plays.proofs.Common.{is_wait, joins, leaves_by, left, length, map, next_step, option_and_then, option_map_or}
use Rattle.actor_plays.proofs.Common.{position_at, position_of, refl, slice_get, slice_set, stage_after, stages_of, step_call, subst, suc}
use Rattle.actor_plays.proofs.Common.{sym, true, zero, ℕ, ◌++◌, ◌+◌, ◌∙◌, ◌∷◌, ◌≡◌, ◌≤◌}
use Rattle.std.proofs.Common.{◌↔◌, ◌&&◌, length-append}
use Rattle.std.proofs.Math.Nat.{lt_of_not-le}
use Rattle.sm_names.specs.Answers.{IsAnswer, answer, key_told}
use Rattle.sm_names.proofs.SamenessLaws.{and_right, and_then-Some}
use Rattle.core_state.specs.Reads.{readings_of}
use Rattle.core_state.specs.Steps.{Follows}
use Rattle.forest_store.specs.Settling.{no_key}
use Rattle.actor_plays.specs.declared.play.Asked.{Asked}
use Rattle.actor_plays.specs.Moves.{HasCome, HasComeTo, LeavesBetween, TakesLeave, TakesLeaveUntold, TakesTurn, TakesTurnUntold}
use Rattle.actor_plays.specs.Moves.{TurnsBetween, may_go_at}
use Rattle.actor_plays.specs.Plays.{Asks as AsksFor, AsksNothing, first_clients}
use Rattle.actor_plays.specs.Positions.{Asks, Begins, may_go}
use Rattle.actor_plays.proofs.FallLaws.{fell_untold}
use Rattle.actor_plays.proofs.PassLaws.{same_falls, setup_on, setup_stays}
use Rattle.actor_plays.proofs.PositionLaws.{by_turns_on, further, pass_on_at, rests_at}

-- ---- calls

-- A call that is answered is made: there was room for it.
pub call_makes : (old new : State) (client : ℕ) (call : Call) (reply : Reply) (r : Result Reply StepFault) → r ≡ Ok reply →
    IsAnswer old.limits (readings_of old) client call reply → Follows old new client call reply →
    ((r ≡ Err StepFault.HistoryFull) ↔ (old.limits.events ≤ old.events)) → Makes old new (client, call, reply)
call_makes old new client call reply r is answer after full = record {
  room = lt_of_not-le (λ less. let none : Ok reply ≡ Err StepFault.HistoryFull = sym is ∙ full.1 less in cc);
  answer = answer;
  after = after;
}

-- ---- turns

-- Whoever asks for something has a stage.
stage_asks : (plans : List Plan) (p : Play) (actor : ℕ) (asks : Asked) → AsksFor plans p actor asks →
    (stage : Stage) × (slice_get (stages_of p) actor ≡ Some stage) × (next_step plans actor stage ≡ Some asks.next)
    × (step_call p.clients.items stage.known asks.next.step ≡ Some asks.asked)
stage_asks plans p actor asks so =
    let there = and_then-Some (next_step plans actor) (slice_get (stages_of p) actor) asks.next so.step in (
      there.0,
      there.1,
      there.2,
      sym (ap (option_and_then (λ (stage : Stage). step_call p.clients.items stage.known asks.next.step)) there.1) ∙ so.call,
    )

-- So it asks for the same at the play's position, whatever fell.
abbrev pub asks_at : (setup : Setup) (plans : List Plan) (p : Play) (falls : List GoneNode) (actor : ℕ) (asks : Asked) →
    IsOfSetup setup plans p → (stage : Stage) → slice_get (stages_of p) actor ≡ Some stage →
    next_step plans actor stage ≡ Some asks.next → step_call p.clients.items stage.known asks.next.step ≡ Some asks.asked →
    slice_get p.clients.items actor ≡ Some asks.client → Asks setup actor (position_at falls p)
asks_at setup plans p falls actor asks is stage at step call caller = record {
  stage = stage;
  next = asks.next;
  asked = asks.asked;
  client = asks.client;
  at = at;
  step = ap (λ (ps : List Plan). next_step ps actor stage) is.plans_are ∙ step;
  call = ap (λ (cs : List ℕ). step_call cs stage.known asks.next.step) (sym is.clients) ∙ call;
  caller = ap (λ (cs : List ℕ). slice_get cs actor) (sym is.clients) ∙ caller;
}

-- Who asks for nothing does so at the play's position, whatever fell.
asks_none_at : (setup : Setup) (plans : List Plan) (p : Play) (falls : List GoneNode) (actor : ℕ) → IsOfSetup setup plans p →
    AsksNothing plans p actor → Asks setup actor (position_at falls p) → ⊥
asks_none_at setup plans p falls actor is nothing a = nothing (record { next = a.next; asked = a.asked; client = a.client }) (record {
  step = ap (option_and_then (next_step plans actor)) a.at
      ∙ (ap (λ (ps : List Plan). next_step ps actor a.stage) (sym is.plans_are) ∙ a.step);
  call = ap (option_and_then (λ (stage : Stage). step_call p.clients.items stage.known a.next.step)) a.at
      ∙ (ap (λ (cs : List ℕ). step_call cs a.stage.known a.next.step) is.clients ∙ a.call);
  caller = ap (λ (cs : List ℕ). slice_get cs actor) is.clients ∙ a.caller;
})

-- the actor makes the call that it asks for
module _ (plans : List Plan) (old mid new : Play) (actor : ℕ) (asks : Asked) (reply : Reply) (so : AsksFor plans old actor asks)
    (makes : Makes old.core mid.core (asks.client, asks.asked.call, reply)) where
  -- It is answered, where these nodes fell before and those by its end.
  turns_made : asks.next.waits && is_wait reply ≡ false →
      mid ≡ record old { core = mid.core; entries = mid.entries; falls = mid.falls } →
      IfSome (slice_get (stages_of mid) actor)
      (λ stage. stages_of new ≡ slice_set (stages_of mid) actor (stage_after stage asks.next asks.asked reply)) →
      new ≡ record mid { actors = new.actors; turns = new.turns } → (before after : List GoneNode) →
      Fell (position_at before old) (position_at after mid) asks.client asks.asked.call reply →
      TurnsBetween plans old new actor Turned.Made before after
  turns_made waits same stages rest before after fell setup is =
      let there = stage_asks plans old actor asks so in
      let kept : stages_of mid ≡ stages_of old = ap stages_of same in
      let core : new.core ≡ mid.core = ap (λ (p : Play). p.core) rest in
      let on : IfSome (Some there.0)
      (λ stage. stages_of new ≡ slice_set (stages_of old) actor (stage_after stage asks.next asks.asked reply)) =
      subst (λ (o : Option Stage). IfSome o
      (λ stage. stages_of new ≡ slice_set (stages_of old) actor (stage_after stage asks.next asks.asked reply))) there.1
      (subst (λ (ss : List Stage). IfSome (slice_get ss actor)
      (λ stage. stages_of new ≡ slice_set ss actor (stage_after stage asks.next asks.asked reply))) kept stages) in
      record {
        setup_is = setup_stays setup plans old new is
            (ap (λ (p : Play). p.clients.items) rest ∙ ap (λ (p : Play). p.clients.items) same)
            (ap (λ (s : State). s.pool) core ∙ makes.after.pool) (ap (λ (s : State). s.limits) core ∙ makes.after.limits);
        mid = position_at before old;
        passes = PassOn.Stays (position_at before old);
        comes = record {
          asks = asks_at setup plans old before actor asks is there.0 there.1 there.2 there.3 so.caller;
          reply = reply;
          made = subst (λ (s : State). Makes old.core s (asks.client, asks.asked.call, reply)) (sym core) makes;
          waits = waits;
          stages = on;
          fell = record {
            marks = fell.marks;
            are = subst (λ (s : State). AreStages old.core s asks.client asks.asked.call reply fell.marks) (sym core) fell.are;
            falls = fell.falls;
          };
        };
      }

  -- The same where the play tells.
  pub takes_made : asks.next.waits && is_wait reply ≡ false →
      mid ≡ record old { core = mid.core; entries = mid.entries; falls = mid.falls } →
      IfSome (slice_get (stages_of mid) actor)
      (λ stage. stages_of new ≡ slice_set (stages_of mid) actor (stage_after stage asks.next asks.asked reply)) →
      new ≡ record mid { actors = new.actors; turns = new.turns } →
      Fell (position_of old) (position_of mid) asks.client asks.asked.call reply → TakesTurn plans old new actor Turned.Made
  takes_made waits same stages rest fell =
      subst (TurnsBetween plans old new actor Turned.Made old.falls.items) (sym (ap (λ (p : Play). p.falls.items) rest))
      (turns_made waits same stages rest old.falls.items mid.falls.items fell)

  -- And where it need not.
  pub takes_made_untold : asks.next.waits && is_wait reply ≡ false →
      mid ≡ record old { core = mid.core; entries = mid.entries; falls = mid.falls } →
      IfSome (slice_get (stages_of mid) actor)
      (λ stage. stages_of new ≡ slice_set (stages_of mid) actor (stage_after stage asks.next asks.asked reply)) →
      new ≡ record mid { actors = new.actors; turns = new.turns } → TakesTurnUntold plans old new actor Turned.Made
  takes_made_untold waits same stages rest before =
      let then = fell_untold old mid asks.client asks.asked.call reply makes before in
      (then.0, turns_made waits same stages rest before then.0 then.1)

  -- A reply that makes a step wait names no new node.
  wait_key : (r : Reply) → is_wait r ≡ true → key_told r ≡ no_key
  wait_key Reply.Empty is = refl
  wait_key Reply.Pending is = refl
  wait_key _ is = cc

  -- It has to wait, whatever fell before or by its end.
  turns_wait : asks.next.waits && is_wait reply ≡ true →
      mid ≡ record old { core = mid.core; entries = mid.entries; falls = mid.falls } → (before after : List GoneNode) →
      TurnsBetween plans old mid actor Turned.Waits before after
  turns_wait waits same before after setup is =
      let there = stage_asks plans old actor asks so in
      let empty : is_wait reply ≡ true = and_right asks.next.waits (is_wait reply) waits in
      let told : reply ≡ answer old.core.limits (readings_of old.core) asks.client no_key asks.asked.call =
      makes.answer.told
      ∙ ap (λ k. answer old.core.limits (readings_of old.core) asks.client k asks.asked.call) (wait_key reply empty) in
      record {
        setup_is = setup_stays setup plans old mid is (ap (λ (p : Play). p.clients.items) same) makes.after.pool makes.after.limits;
        mid = position_at before old;
        passes = PassOn.Stays (position_at before old);
        comes = (
          asks_at setup plans old before actor asks is there.0 there.1 there.2 there.3 so.caller,
          ap (λ (r : Reply). asks.next.waits && is_wait r) (sym told) ∙ waits,
        );
      }

  -- The same where the play tells.
  pub takes_waits : asks.next.waits && is_wait reply ≡ true →
      mid ≡ record old { core = mid.core; entries = mid.entries; falls = mid.falls } → TakesTurn plans old mid actor Turned.Waits
  takes_waits waits same = turns_wait waits same old.falls.items mid.falls.items

  -- And where it need not.
  pub takes_waits_untold : asks.next.waits && is_wait reply ≡ true →
      mid ≡ record old { core = mid.core; entries = mid.entries; falls = mid.falls } → TakesTurnUntold plans old mid actor Turned.Waits
  takes_waits_untold waits same before = (before, turns_wait waits same before before)

-- The actor passed what it could, and asks for nothing, whatever fell.
turns_rest : (plans : List Plan) (old new : Play) (actor : ℕ) → HavePassed plans old new → new ≡ record old { actors = new.actors } →
    HasRest plans new actor → AsksNothing plans new actor → (falls : List GoneNode) →
    TurnsBetween plans old new actor Turned.Rests falls falls
turns_rest plans old new actor passes same rests nothing falls setup is =
    let here : IsOfSetup setup plans new = setup_on setup plans old new is same in
    record {
      setup_is = here;
      mid = position_at falls new;
      passes = pass_on_at setup falls (position_of old) (position_of new) (passes setup is);
      comes = (refl, rests_at setup falls (position_of new) actor (rests setup here), asks_none_at setup plans new falls actor here nothing);
    }

-- The same where the play tells.
pub takes_rest : (plans : List Plan) (old new : Play) (actor : ℕ) → HavePassed plans old new → new ≡ record old { actors = new.actors } →
    HasRest plans new actor → AsksNothing plans new actor → TakesTurn plans old new actor Turned.Rests
takes_rest plans old new actor passes same rests nothing =
    subst (TurnsBetween plans old new actor Turned.Rests old.falls.items) (sym (same_falls old new same))
    (turns_rest plans old new actor passes same rests nothing old.falls.items)

-- And where it need not.
pub takes_rest_untold : (plans : List Plan) (old new : Play) (actor : ℕ) → HavePassed plans old new →
    new ≡ record old { actors = new.actors } → HasRest plans new actor → AsksNothing plans new actor →
    TakesTurnUntold plans old new actor Turned.Rests
takes_rest_untold plans old new actor passes same rests nothing before =
    (before, turns_rest plans old new actor passes same rests nothing before)

-- Steps were passed before the turn, and nothing fell by these.
turns_behind : (plans : List Plan) (old mid new : Play) (actor : ℕ) (turned : Turned) → HavePassed plans old mid →
    mid ≡ record old { actors = mid.actors } → (before after : List GoneNode) →
    TurnsBetween plans mid new actor turned before after → TurnsBetween plans old new actor turned before after
turns_behind plans old mid new actor turned passes same before after takes setup is =
    let turn = takes setup (setup_on setup plans old mid is same) in
    record {
      setup_is = turn.setup_is;
      mid = turn.mid;
      passes = further setup (position_at before old) (position_at before mid) turn.mid
          (pass_on_at setup before (position_of old) (position_of mid) (passes setup is)) turn.passes;
      comes = turn.comes;
    }

-- The same of each result, where the play tells.
pub takes_behind_ok : (plans : List Plan) (old mid new : Play) (actor : ℕ) (r : Result Turned StepFault) → HavePassed plans old mid →
    mid ≡ record old { actors = mid.actors } → IfOk r (TakesTurn plans mid new actor) → IfOk r (TakesTurn plans old new actor)
takes_behind_ok plans old mid new actor (Ok turned) passes same takes =
    turns_behind plans old mid new actor turned passes same old.falls.items new.falls.items
    (subst (λ (falls : List GoneNode). TurnsBetween plans mid new actor turned falls new.falls.items) (same_falls old mid same) takes)
takes_behind_ok plans old mid new actor (Err fault) passes same takes = tt

-- And where it need not.
pub untold_behind_ok : (plans : List Plan) (old mid new : Play) (actor : ℕ) (r : Result Turned StepFault) → HavePassed plans old mid →
    mid ≡ record old { actors = mid.actors } → IfOk r (TakesTurnUntold plans mid new actor) →
    IfOk r (TakesTurnUntold plans old new actor)
untold_behind_ok plans old mid new actor (Ok turned) passes same takes = λ before.
    let then = takes before in (then.0, turns_behind plans old mid new actor turned passes same before then.0 then.1)
untold_behind_ok plans old mid new actor (Err fault) passes same takes = tt

-- ---- leaves

-- the actor makes the call by which it leaves, or goes on to
module _ (plans : List Plan) (old mid new : Play) (actor client : ℕ) (call : Call) (reply : Reply)
    (leaves : option_and_then leaves_by (slice_get (stages_of old) actor) ≡ Some call) (caller : slice_get old.clients.items actor ≡ Some client)
    (makes : Makes old.core mid.core (client, call, reply))
    (same : mid ≡ record old { core = mid.core; entries = mid.entries; falls = mid.falls })
    (stages : IfSome (slice_get (stages_of mid) actor) (λ stage. stages_of new ≡ slice_set (stages_of mid) actor (left stage reply)))
    (rest : new ≡ record mid { actors = new.actors; turns = new.turns }) where
  -- These nodes fell before, and those by its end.
  leaves_between : (before after : List GoneNode) → Fell (position_at before old) (position_at after mid) client call reply →
      LeavesBetween plans old new actor true before after
  leaves_between before after fell setup is =
      let there = and_then-Some leaves_by (slice_get (stages_of old) actor) call leaves in
      let kept : stages_of mid ≡ stages_of old = ap stages_of same in
      let core : new.core ≡ mid.core = ap (λ (p : Play). p.core) rest in
      let on : IfSome (Some there.0) (λ stage. stages_of new ≡ slice_set (stages_of old) actor (left stage reply)) =
      subst (λ (o : Option Stage). IfSome o (λ stage. stages_of new ≡ slice_set (stages_of old) actor (left stage reply))) there.1
      (subst (λ (ss : List Stage). IfSome (slice_get ss actor) (λ stage. stages_of new ≡ slice_set ss actor (left stage reply))) kept
      stages) in (
        setup_stays setup plans old new is (ap (λ (p : Play). p.clients.items) rest ∙ ap (λ (p : Play). p.clients.items) same)
            (ap (λ (s : State). s.pool) core ∙ makes.after.pool) (ap (λ (s : State). s.limits) core ∙ makes.after.limits),
        λ may rests. record {
          goes = record {
            stage = there.0;
            call = call;
            client = client;
            at = there.1;
            by = there.2;
            caller = ap (λ (cs : List ℕ). slice_get cs actor) (sym is.clients) ∙ caller;
            may = sym (ap (λ o. option_map_or (may_go setup (position_at before old) actor) o false) there.1) ∙ may;
            rests = rests;
          };
          reply = reply;
          made = subst (λ (s : State). Makes old.core s (client, call, reply)) (sym core) makes;
          stages = on;
          fell = record {
            marks = fell.marks;
            are = subst (λ (s : State). AreStages old.core s client call reply fell.marks) (sym core) fell.are;
            falls = fell.falls;
          };
        },
      )

  -- The same where the play tells.
  pub takes_leave : Fell (position_of old) (position_of mid) client call reply → TakesLeave plans old new actor true
  takes_leave fell = subst (LeavesBetween plans old new actor true old.falls.items) (sym (ap (λ (p : Play). p.falls.items) rest))
      (leaves_between old.falls.items mid.falls.items fell)

  -- And where it need not.
  pub takes_leave_untold : TakesLeaveUntold plans old new actor true
  takes_leave_untold before =
      let then = fell_untold old mid client call reply makes before in (then.0, leaves_between before then.0 then.1)

-- ---- the start

-- So many clients are so many.
pub count_first : (count : ℕ) → length (first_clients count) ≡ count
count_first zero = refl
count_first (suc count) = length-append (first_clients count) ((count + 1) ∷ [])
    ∙ (ap (λ n. n + 1) (count_first count) ∙ add-one count)

-- The clients that joined are the first ones.
pub first_joined : (p : Play) (count : ℕ) → AreJoining p → length p.clients.items ≡ count → p.clients.items ≡ first_clients count
first_joined p count are all = are.clients
    ∙ ap first_clients (sym (count_first p.core.events) ∙ (sym (ap length are.clients) ∙ all))

-- A play in which only clients joined begins.
pub begins_at : (plans : List Plan) (p : Play) → AreJoining p → length p.clients.items ≡ length plans → (setup : Setup) →
    IsOfSetup setup plans p → Begins setup (position_of p)
begins_at plans p are count setup is = record {
  pool = is.pool;
  limits = is.limits;
  shows = subst (λ (cs : List ℕ). Shows p.core (joins cs)) is.clients
      (subst (λ entries. Shows p.core entries) are.entries are.shows);
  count = ap length (sym is.clients) ∙ (count ∙ sym (ap length is.plans_are));
  stages = are.stages ∙ ap (map (λ (client : ℕ). first_stage)) is.clients;
  falls = are.falls;
}

-- the client that a reply tells of
abbrev joined_told : Reply → ℕ
joined_told (Reply.Joined client) = client
joined_told _ = 0

-- The next client that joins is numbered by its event.
pub next_joined : (old new : State) (client : ℕ) → Makes old new (0, Call.Join, Reply.Joined client) → client ≡ old.events + 1
next_joined old new client makes = ap joined_told makes.answer.told

-- So it is the next of the first ones.
pub one_joined : (old new : State) (client : ℕ) (before after : List ℕ) → Makes old new (0, Call.Join, Reply.Joined client) →
    before ≡ first_clients old.events → after ≡ before ++ client ∷ [] → after ≡ first_clients new.events
one_joined old new client before after makes were all =
    all ∙ (ap (λ (cs : List ℕ). cs ++ client ∷ []) were
    ∙ (ap (λ (c : ℕ). first_clients old.events ++ c ∷ []) (next_joined old new client makes)
    ∙ ap first_clients (sym (add-one old.events) ∙ sym makes.after.events)))

-- ---- how a play comes to where it is

-- All clients have joined.
pub come_start : (setup : Setup) (plans : List Plan) (p : Play) → IsPlay plans p → p.turns.items ≡ [] → IsOfSetup setup plans p →
    Begins setup (position_of p) → HasCome setup plans p
come_start setup plans p plays none is begins = record {
  plays = plays;
  setup_is = is;
  reached = subst (λ (ts : List Turn). ReachedBy setup ts (position_of p)) (sym none) (ReachedBy.Starts (position_of p) begins);
}

-- Actors passed steps: nothing fell by these.
pub come_on_to : (setup : Setup) (plans : List Plan) (old new : Play) (falls : List GoneNode) → HasComeTo setup plans old falls →
    IsPlay plans new → HavePassed plans old new → new ≡ record old { actors = new.actors } → HasComeTo setup plans new falls
come_on_to setup plans old new falls come plays passes same = record {
  plays = plays;
  setup_is = setup_on setup plans old new come.setup_is same;
  reached = subst (λ (ts : List Turn). ReachedBy setup ts (position_at falls new)) (sym (ap (λ (p : Play). p.turns.items) same))
      (by_turns_on setup old.turns.items (position_at falls old) (position_at falls new)
      (pass_on_at setup falls (position_of old) (position_of new) (passes setup come.setup_is)) come.reached);
}

-- The same where the play tells.
pub come_on : (setup : Setup) (plans : List Plan) (old new : Play) → HasCome setup plans old → IsPlay plans new →
    HavePassed plans old new → new ≡ record old { actors = new.actors } → HasCome setup plans new
come_on setup plans old new come plays passes same = subst (HasComeTo setup plans new) (sym (same_falls old new same))
    (come_on_to setup plans old new old.falls.items come plays passes same)

-- A turn was made.
pub come_turn_to : (setup : Setup) (plans : List Plan) (old new : Play) (actor : ℕ) (before after : List GoneNode) →
    HasComeTo setup plans old before → IsTurn plans old new actor Turned.Made →
    TurnsBetween plans old new actor Turned.Made before after → HasComeTo setup plans new after
come_turn_to setup plans old new actor before after come made takes =
    let turn = takes setup come.setup_is in
    record {
      plays = made.0;
      setup_is = turn.setup_is;
      reached = subst (λ (ts : List Turn). ReachedBy setup ts (position_at after new)) (sym made.1)
          (ReachedBy.ByCall actor old.turns.items turn.mid (position_at after new)
          (by_turns_on setup old.turns.items (position_at before old) turn.mid turn.passes come.reached) turn.comes);
    }

-- The same where the play tells.
pub come_turn : (setup : Setup) (plans : List Plan) (old new : Play) (actor : ℕ) → HasCome setup plans old →
    IsTurn plans old new actor Turned.Made → TakesTurn plans old new actor Turned.Made → HasCome setup plans new
come_turn setup plans old new actor come made takes =
    come_turn_to setup plans old new actor old.falls.items new.falls.items come made takes

-- An actor left, or went on to.
pub come_leave_to : (setup : Setup) (plans : List Plan) (old new : Play) (actor : ℕ) (before after : List GoneNode) →
    HasComeTo setup plans old before → IsLeave plans old new actor true → LeavesBetween plans old new actor true before after →
    may_go_at setup (position_of old) actor ≡ true → HasRest plans old actor → HasComeTo setup plans new after
come_leave_to setup plans old new actor before after come made takes may rests =
    let leave = takes setup come.setup_is in
    record {
      plays = made.0;
      setup_is = leave.0;
      reached = subst (λ (ts : List Turn). ReachedBy setup ts (position_at after new)) (sym made.1)
          (ReachedBy.ByLeave actor old.turns.items (position_at before old) (position_at after new) come.reached
          (leave.1 may (rests_at setup before (position_of old) actor (rests setup come.setup_is))));
    }

-- The same where the play tells.
pub come_leave : (setup : Setup) (plans : List Plan) (old new : Play) (actor : ℕ) → HasCome setup plans old →
    IsLeave plans old new actor true → TakesLeave plans old new actor true → may_go_at setup (position_of old) actor ≡ true →
    HasRest plans old actor → HasCome setup plans new
come_leave setup plans old new actor come made takes may rests =
    come_leave_to setup plans old new actor old.falls.items new.falls.items come made takes may rests
