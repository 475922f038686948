-- The events of a record, each a turn of its actor, are a play.
use Rattle.thread_runs.proofs.Common.{Begins, Bool, Call, Entry, IsPlayOf, List, Makes, None, Option, Planned, Position, Reply, Setup}
use Rattle.thread_runs.proofs.Common.{Shows, Some, Stage, State, StepCall, [], ap, done_rests, false, if◌then◌else◌, is_some, joins}
use Rattle.thread_runs.proofs.Common.{leaves_by, left, map, next_step, option_and_then, passed, refl, shows_on, slice_get, stage_after}
use Rattle.thread_runs.proofs.Common.{step_call, subst, sym, true, ℕ, ◌&&◌, ◌++◌, ◌+◌, ◌<◌, ◌==◌, ◌||◌, ◌∙◌, ◌∷◌, ◌≡◌}
use Rattle.std.proofs.Common.{slice_set}
use Rattle.std.specs.List.{flat_map}
use Rattle.explore_model.specs.declared.found.Turn.{Turn}
use Rattle.actor_plays.specs.Fates.{AreFalls, falls_at}
use Rattle.actor_plays.specs.Plays.{Plays, is_silent, is_wait}
use Rattle.actor_plays.specs.Positions.{Calls, Leaves, Passes, Reached, left_at}
use Rattle.actor_plays.proofs.PositionLaws.{get-other, get-set}
use Rattle.thread_runs.proofs.Comings.{ComesThrough}
use Rattle.actor_plays.proofs.FallLaws.{stages_there}
use Rattle.alike_plays.proofs.Reaching.{falls_on}

-- the calls that this client made in the record, with their replies
abbrev pub calls_by : ℕ → List Entry → List (Call × Reply)
calls_by client [] = []
calls_by client (e ∷ es) = let later = calls_by client es in if e.0 == client then (e.1, e.2) ∷ later else later

-- each event of the record is of an actor among so many, whose client has the next number
abbrev pub AreOf : ℕ → List Entry → Type 0
AreOf count [] = Unit {0}
AreOf count (e ∷ es) = ((actor : ℕ) × (actor < count) × (e.0 ≡ actor + 1)) × AreOf count es

module _ (setup : Setup) where
  -- at the start the history is that of the joins
  pub starts-at : (p : Position) → Begins setup p → IsPlayOf setup (joins setup.clients) p
  starts-at p b = record {
    turns = [];
    reached = Reached.Starts p b;
    plays = subst (Plays setup.plans setup.clients [] (joins setup.clients)) (sym b.stages) (Plays.Starts b.count);
    shows = b.shows;
    fell = subst (AreFalls (joins setup.clients)) (sym b.falls) (AreFalls.Starts setup.clients);
  }

  -- a pass is no event
  passes-at : (history : List Entry) (actor : ℕ) (old new : Position) → IsPlayOf setup history old → Passes setup actor old new →
      IsPlayOf setup history new
  passes-at history actor old new play pass = record {
    turns = play.turns;
    reached = Reached.ByPass actor old new play.reached pass;
    plays = subst (λ (q : Position). Plays setup.plans setup.clients play.turns history q.stages) (sym pass.after)
        (Plays.Passes play.turns history old.stages actor pass.stage pass.next old.core play.plays pass.at pass.step pass.silent play.shows
        pass.looks);
    shows = subst (λ (q : Position). Shows q.core history) (sym pass.after) play.shows;
    fell = subst (λ (q : Position). AreFalls history q.falls) (sym pass.after) play.fell;
  }

  -- a call is one
  calls-at : (history : List Entry) (actor : ℕ) (old new : Position) → IsPlayOf setup history old → (c : Calls setup actor old new) →
      IsPlayOf setup (history ++ (c.asks.client, c.asks.asked.call, c.reply) ∷ []) new
  calls-at history actor old new play c = record {
    turns = play.turns ++ Turn.Step actor ∷ [];
    reached = Reached.ByCall actor old new play.reached c;
    plays = subst (Plays setup.plans setup.clients (play.turns ++ Turn.Step actor ∷ [])
        (history ++ (c.asks.client, c.asks.asked.call, c.reply) ∷ [])) (sym c.stages)
        (Plays.Calls play.turns history old.stages actor c.asks.client c.asks.stage c.asks.next c.asks.asked c.reply play.plays c.asks.at
        c.asks.step c.asks.call c.asks.caller c.waits);
    shows = shows_on old.core new.core history c.asks.client c.asks.asked.call c.reply play.shows c.made;
    fell = falls_on old new history c.asks.client c.asks.asked.call c.reply play.shows c.made c.fell play.fell;
  }

  -- and so is a leave
  leaves-at : (history : List Entry) (actor : ℕ) (old new : Position) → IsPlayOf setup history old → (l : Leaves setup actor old new) →
      IsPlayOf setup (history ++ (l.goes.client, l.goes.call, l.reply) ∷ []) new
  leaves-at history actor old new play l = record {
    turns = play.turns ++ Turn.Leave actor ∷ [];
    reached = Reached.ByLeave actor old new play.reached l;
    plays = subst (Plays setup.plans setup.clients (play.turns ++ Turn.Leave actor ∷ [])
        (history ++ (l.goes.client, l.goes.call, l.reply) ∷ [])) (sym l.stages)
        (Plays.Leaves play.turns history old.stages actor l.goes.client l.goes.stage l.goes.call l.reply play.plays l.goes.at l.goes.by
        l.goes.caller);
    shows = shows_on old.core new.core history l.goes.client l.goes.call l.reply play.shows l.made;
    fell = falls_on old new history l.goes.client l.goes.call l.reply play.shows l.made l.fell play.fell;
  }

  -- by this event of the actor its play went on to this core: the actor comes through by these calls, and the others stay where they are
  pub record HasGoneOn (history : List Entry) (entry : Entry) (old : Position) (actor : ℕ) (core : State) (told : List (Call × Reply))
      : Type 0 where
    pub new : Position
    pub after : Stage
    pub play : IsPlayOf setup (history ++ entry ∷ []) new
    pub core_is : new.core ≡ core
    pub at : slice_get new.stages actor ≡ Some after
    pub others : (other : ℕ) → (actor ≡ other → ⊥) → slice_get new.stages other ≡ slice_get old.stages other
    pub on : ComesThrough setup actor after told

  module _ (actor client : ℕ) (caller : slice_get setup.clients actor ≡ Some client) where
    -- from wherever the actor is at this stage, it goes on by the first of these calls, if there is one
    abbrev pub GoesOnBy : Stage → List (Call × Reply) → Type 0
    GoesOnBy stage [] = Unit {0}
    GoesOnBy stage (made ∷ told) = (history : List Entry) (old : Position) → IsPlayOf setup history old →
        slice_get old.stages actor ≡ Some stage → (core : State) → Makes old.core core (client, made.0, made.1) →
        HasGoneOn history (client, made.0, made.1) old actor core told

    -- it passes a step before that
    skips-on : (stage : Stage) (next : Planned) → next_step setup.plans actor stage ≡ Some next →
        step_call setup.clients stage.known next.step ≡ None → next.waits ≡ false → (told : List (Call × Reply)) →
        GoesOnBy (passed stage) told → GoesOnBy stage told
    skips-on stage next step silent waits [] on = tt
    skips-on stage next step silent waits (made ∷ told) on = λ history old play at core makes.
        let mid : Position = record old { stages = slice_set old.stages actor (passed stage) } in
        let pass : Passes setup actor old mid = record {
          stage = stage;
          next = next;
          at = at;
          step = step;
          silent = silent;
          looks = ap (λ (b : Bool). b && is_silent old.core.trackers.fired stage.known next.step) waits;
          after = refl;
        } in
        let later =
        on history mid (passes-at history actor old mid play pass) (get-set old.stages actor stage (passed stage) at) core makes in
        record {
          new = later.new;
          after = later.after;
          play = later.play;
          core_is = later.core_is;
          at = later.at;
          others = λ other apart. later.others other apart ∙ get-other old.stages actor other (passed stage) apart;
          on = later.on;
        }

    -- it makes the call of its step
    asks-on : (stage : Stage) (next : Planned) (asked : StepCall) (reply : Reply) (told : List (Call × Reply)) →
        next_step setup.plans actor stage ≡ Some next → step_call setup.clients stage.known next.step ≡ Some asked →
        next.waits ≡ false → ComesThrough setup actor (stage_after stage next asked reply) told →
        GoesOnBy stage ((asked.call, reply) ∷ told)
    asks-on stage next asked reply told step call waits on = λ history old play at core makes.
        let marks = stages_there old.core core client asked.call reply makes in
        let after : Stage = stage_after stage next asked reply in
        let new : Position =
        record { core = core; stages = slice_set old.stages actor after; falls = old.falls ++ flat_map falls_at marks.0 } in
        let c : Calls setup actor old new = record {
          asks = record { stage = stage; next = next; asked = asked; client = client; at = at; step = step; call = call; caller = caller };
          reply = reply;
          made = makes;
          waits = ap (λ (b : Bool). b && is_wait reply) waits;
          stages = refl;
          fell = record { marks = marks.0; are = marks.1; falls = refl };
        } in
        record {
          new = new;
          after = after;
          play = calls-at history actor old new play c;
          core_is = refl;
          at = get-set old.stages actor stage after at;
          others = λ other apart. get-other old.stages actor other after apart;
          on = on;
        }

    -- it makes the call by which it leaves
    leaves-on : (stage : Stage) (call : Call) (reply : Reply) (told : List (Call × Reply)) → next_step setup.plans actor stage ≡ None →
        leaves_by stage ≡ Some call → ((begun : List (Option ℕ)) → (is_some stage.vanish || setup.may_leave begun actor stage.at) ≡ true) →
        ComesThrough setup actor (left stage reply) told → GoesOnBy stage ((call, reply) ∷ told)
    leaves-on stage call reply told none by may on = λ history old play at core makes.
        let marks = stages_there old.core core client call reply makes in
        let after : Stage = left stage reply in
        let new : Position =
        record { core = core; stages = slice_set old.stages actor after; falls = old.falls ++ flat_map falls_at marks.0 } in
        let l : Leaves setup actor old new = record {
          goes = record {
            stage = stage;
            call = call;
            client = client;
            at = at;
            by = by;
            caller = caller;
            may = may (map left_at old.stages);
            rests = done_rests setup old actor (ap (option_and_then (next_step setup.plans actor)) at ∙ none);
          };
          reply = reply;
          made = makes;
          stages = refl;
          fell = record { marks = marks.0; are = marks.1; falls = refl };
        } in
        record {
          new = new;
          after = after;
          play = leaves-at history actor old new play l;
          core_is = refl;
          at = get-set old.stages actor stage after at;
          others = λ other apart. get-other old.stages actor other after apart;
          on = on;
        }

    -- so it goes on, by induction on how it comes through
    pub goes-on-by : (stage : Stage) (told : List (Call × Reply)) → ComesThrough setup actor stage told → GoesOnBy stage told
    goes-on-by _ _ (ComesThrough.Skips stage next told step silent waits on) =
        skips-on stage next step silent waits told (goes-on-by (passed stage) told on)
    goes-on-by _ _ (ComesThrough.Asks stage next asked reply told step call waits on) =
        asks-on stage next asked reply told step call waits on
    goes-on-by _ _ (ComesThrough.Leaves stage call reply told none by may on) = leaves-on stage call reply told none by may on
    goes-on-by _ _ (ComesThrough.IsGone stage leaves none) = tt
