-- How a play goes on.
use Rattle.actor_plays.proofs.Common.{Actor, AreFalls, AreJoining, AreStages, AreTold, Bool, Call, Err, Global, GoneNode, IfOk, IfSome}
use Rattle.actor_plays.proofs.Common.{IsLeave, IsPlay, IsTurn, List, Makes, Moment, None, Ok, Option, Plan, Planned, Play, Reply, Result}
use Rattle.actor_plays.proofs.Common.{Shows, Some, Stage, State, StepFault, Turn, Turned, Vec, [], ap, falls_at, false, first_stage}
use Rattle.actor_plays.proofs.Common.{flat_map, is_wait, joins, leaves_by, left, length, map, map-append, next_step, option_and_then}
use Rattle.actor_plays.proofs.Common.{option_map_or, passed, polls, refl, slice_get, slice_set, stage_after, stage_of, stages_of}
use Rattle.actor_plays.proofs.Common.{step_call, subst, suc, sym, true, zero, ℕ, ◌++◌, ◌∙◌, ◌∷◌, ◌≡◌}
use Rattle.std.proofs.Common.{slice_index_or}
use Rattle.std.specs.Prelude.{◌&&◌}
use Rattle.sm_names.specs.Marks.{Entry}
use Rattle.actor_scripts.specs.declared.object.StepCall.{StepCall}
use Rattle.forced_marks.specs.Marks.{Stage as MarkStage}
use Rattle.forced_marks.specs.Moments.{stage_of as stage_told}
use Rattle.actor_plays.specs.Plays.{IsLeftWaiting, Plays}
use Rattle.actor_plays.proofs.MoveLaws.{one_joined}

-- two changes of the actors are one
pub only_actors : (a b c : Play) → b ≡ record a { actors = b.actors } → c ≡ record b { actors = c.actors } →
    c ≡ record a { actors = c.actors }
only_actors a b c one other = other ∙ ap (λ (p : Play). record p { actors = c.actors }) one

-- once all clients have joined, there is a play without a turn
pub begins : (plans : List Plan) (p : Play) → AreJoining p → length p.clients.items ≡ length plans → IsPlay plans p
begins plans p are count = record {
  shows = are.shows;
  plays = subst (λ turns. Plays plans p.clients.items turns p.entries.items (stages_of p)) (sym are.turns)
      (subst (λ entries. Plays plans p.clients.items [] entries (stages_of p)) (sym are.entries)
      (subst (λ stages. Plays plans p.clients.items [] (joins p.clients.items) stages) (sym are.stages) (Plays.Starts count)));
}

-- and no node fell
pub none_fell : (p : Play) → AreJoining p → AreFalls p.entries.items p.falls.items
none_fell p are = subst (λ falls. AreFalls p.entries.items falls) (sym are.falls)
    (subst (λ entries. AreFalls entries []) (sym are.entries) (AreFalls.Starts p.clients.items))

-- one more client joins
pub joined : (old mid new : Play) (client : ℕ) → AreJoining old → Shows mid.core mid.entries.items →
    Makes old.core mid.core (0, Call.Join, Reply.Joined client) →
    mid.entries.items ≡ old.entries.items ++ (0, Call.Join, Reply.Joined client) ∷ [] →
    mid ≡ record old { core = mid.core; entries = mid.entries } →
    new.clients.items ≡ mid.clients.items ++ client ∷ [] → stages_of new ≡ stages_of mid ++ first_stage ∷ [] →
    new ≡ record mid { clients = new.clients; actors = new.actors } → AreJoining new
joined old mid new client are shows makes entries same clients stages rest =
    let before : mid.clients.items ≡ old.clients.items = ap (λ (p : Play). p.clients.items) same in
    let all : new.clients.items ≡ old.clients.items ++ client ∷ [] = clients ∙ ap (λ cs. cs ++ client ∷ []) before in
    record {
      shows = subst (λ (p : Play). Shows p.core p.entries.items) (sym rest) shows;
      entries = ap (λ (p : Play). p.entries.items) rest ∙ (entries ∙ (ap (λ es. es ++ (0, Call.Join, Reply.Joined client) ∷ []) are.entries
          ∙ (sym (map-append (λ c. (0, Call.Join, Reply.Joined c)) old.clients.items (client ∷ [])) ∙ ap joins (sym all))));
      clients = one_joined old.core new.core client old.clients.items new.clients.items
          (subst (λ (s : State). Makes old.core s (0, Call.Join, Reply.Joined client)) (sym (ap (λ (p : Play). p.core) rest)) makes)
          are.clients all;
      turns = ap (λ (p : Play). p.turns.items) rest ∙ (ap (λ (p : Play). p.turns.items) same ∙ are.turns);
      falls = ap (λ (p : Play). p.falls.items) rest ∙ (ap (λ (p : Play). p.falls.items) same ∙ are.falls);
      stages = stages ∙ (ap (λ (p : Play). stages_of p ++ first_stage ∷ []) same ∙ (ap (λ ss. ss ++ first_stage ∷ []) are.stages
          ∙ (sym (map-append (λ c. first_stage) old.clients.items (client ∷ [])) ∙ ap (map (λ c. first_stage)) (sym all))));
    }

module _ (plans : List Plan) (old new : Play) (actor : ℕ) (next : Planned) (is : IsPlay plans old) where
  -- the actor passes its next step
  passes_at : (stage : Stage) → slice_get (stages_of old) actor ≡ Some stage → next_step plans actor stage ≡ Some next →
      step_call old.clients.items stage.known next.step ≡ None → polls old.core.trackers.fired stage.known next ≡ false →
      stages_of new ≡ slice_set (stages_of old) actor (passed stage) → new ≡ record old { actors = new.actors } → IsPlay plans new
  passes_at stage at step none quiet stages same = record {
    shows = subst (λ (p : Play). Shows p.core p.entries.items) (sym same) is.shows;
    plays = subst (λ (p : Play). Plays plans p.clients.items p.turns.items p.entries.items (stages_of new)) (sym same)
        (subst (λ ss. Plays plans old.clients.items old.turns.items old.entries.items ss) (sym stages)
        (Plays.Passes old.turns.items old.entries.items (stages_of old) actor stage next old.core is.plays at step none is.shows quiet));
  }

  -- the same, by what is read of it
  passes : (o : Option Stage) → slice_get (stages_of old) actor ≡ o → option_and_then (next_step plans actor) o ≡ Some next →
      option_and_then (λ (stage : Stage). step_call old.clients.items stage.known next.step) o ≡ None →
      option_map_or (λ (stage : Stage). polls old.core.trackers.fired stage.known next) o false ≡ false →
      IfSome o (λ stage. stages_of new ≡ slice_set (stages_of old) actor (passed stage)) → new ≡ record old { actors = new.actors } →
      IsPlay plans new
  passes None at step none quiet stages same = cc
  passes (Some stage) at step none quiet stages same = passes_at stage at step none quiet stages same

  -- the actor passes its next step, or can't
  pub stepped_on : (b : Bool) → option_and_then (next_step plans actor) (slice_get (stages_of old) actor) ≡ Some next →
      option_and_then (λ (stage : Stage). step_call old.clients.items stage.known next.step) (slice_get (stages_of old) actor) ≡ None →
      option_map_or (λ (stage : Stage). polls old.core.trackers.fired stage.known next) (slice_get (stages_of old) actor) false ≡ false →
      (b ≡ true → IfSome (slice_get (stages_of old) actor)
      (λ stage. stages_of new ≡ slice_set (stages_of old) actor (passed stage))) →
      (b ≡ false → stages_of new ≡ stages_of old) → new ≡ record old { actors = new.actors } → IsPlay plans new
  stepped_on true step none quiet stages kept same = passes (slice_get (stages_of old) actor) refl step none quiet (stages refl) same
  stepped_on false step none quiet stages kept same = record {
    shows = subst (λ (p : Play). Shows p.core p.entries.items) (sym same) is.shows;
    plays = subst (λ (p : Play). Plays plans p.clients.items p.turns.items p.entries.items (stages_of new)) (sym same)
        (subst (λ ss. Plays plans old.clients.items old.turns.items old.entries.items ss) (sym (kept refl)) is.plays);
  }

-- the actor makes the call of its next step
module _ (plans : List Plan) (old mid new : Play) (actor client : ℕ) (next : Planned) (asked : StepCall) (reply : Reply)
    (is : IsPlay plans old) where
  -- the play has one turn more, whose call and reply are those of the step
  called_at : (stage : Stage) → slice_get (stages_of old) actor ≡ Some stage → next_step plans actor stage ≡ Some next →
      step_call old.clients.items stage.known next.step ≡ Some asked → slice_get old.clients.items actor ≡ Some client →
      next.waits && is_wait reply ≡ false → Shows mid.core mid.entries.items →
      mid.entries.items ≡ old.entries.items ++ (client, asked.call, reply) ∷ [] →
      mid ≡ record old { core = mid.core; entries = mid.entries; falls = mid.falls } →
      stages_of new ≡ slice_set (stages_of old) actor (stage_after stage next asked reply) →
      new.turns.items ≡ mid.turns.items ++ Turn.Step actor ∷ [] →
      new ≡ record mid { actors = new.actors; turns = new.turns } → IsPlay plans new
  called_at stage at step call caller waits shows entries same stages turns rest =
      let turned : new.turns.items ≡ old.turns.items ++ Turn.Step actor ∷ [] =
      turns ∙ ap (λ (p : Play). p.turns.items ++ Turn.Step actor ∷ []) same in
      let clients : new.clients.items ≡ old.clients.items =
      ap (λ (p : Play). p.clients.items) rest ∙ ap (λ (p : Play). p.clients.items) same in
      let noted : new.entries.items ≡ old.entries.items ++ (client, asked.call, reply) ∷ [] =
      ap (λ (p : Play). p.entries.items) rest ∙ entries in
      record {
        shows = subst (λ (p : Play). Shows p.core p.entries.items) (sym rest) shows;
        plays = subst (λ cs. Plays plans cs new.turns.items new.entries.items (stages_of new)) (sym clients)
            (subst (λ ts. Plays plans old.clients.items ts new.entries.items (stages_of new)) (sym turned)
            (subst (λ es. Plays plans old.clients.items (old.turns.items ++ Turn.Step actor ∷ []) es (stages_of new)) (sym noted)
            (subst (λ ss. Plays plans old.clients.items (old.turns.items ++ Turn.Step actor ∷ [])
            (old.entries.items ++ (client, asked.call, reply) ∷ []) ss) (sym stages)
            (Plays.Calls old.turns.items old.entries.items (stages_of old) actor client stage next asked reply is.plays at step call caller
            waits))));
      }

  -- by cases on the stage: an actor without one has no next step
  called_by : (o : Option Stage) → slice_get (stages_of old) actor ≡ o → option_and_then (next_step plans actor) o ≡ Some next →
      option_and_then (λ (stage : Stage). step_call old.clients.items stage.known next.step) o ≡ Some asked →
      slice_get old.clients.items actor ≡ Some client →
      next.waits && is_wait reply ≡ false → Shows mid.core mid.entries.items →
      mid.entries.items ≡ old.entries.items ++ (client, asked.call, reply) ∷ [] →
      mid ≡ record old { core = mid.core; entries = mid.entries; falls = mid.falls } →
      IfSome o (λ stage. stages_of new ≡ slice_set (stages_of old) actor (stage_after stage next asked reply)) →
      new.turns.items ≡ mid.turns.items ++ Turn.Step actor ∷ [] →
      new ≡ record mid { actors = new.actors; turns = new.turns } → IsPlay plans new
  called_by None at step call caller waits shows entries same stages turns rest = cc
  called_by (Some stage) at step call caller waits shows entries same stages turns rest =
      called_at stage at step call caller waits shows entries same stages turns rest

  -- and it is answered
  pub called : option_and_then (next_step plans actor) (slice_get (stages_of old) actor) ≡ Some next →
      option_and_then (λ (stage : Stage). step_call old.clients.items stage.known next.step) (slice_get (stages_of old) actor)
      ≡ Some asked → slice_get old.clients.items actor ≡ Some client →
      next.waits && is_wait reply ≡ false → Shows mid.core mid.entries.items →
      mid.entries.items ≡ old.entries.items ++ (client, asked.call, reply) ∷ [] →
      mid ≡ record old { core = mid.core; entries = mid.entries; falls = mid.falls } →
      IfSome (slice_get (stages_of mid) actor)
      (λ stage. stages_of new ≡ slice_set (stages_of mid) actor (stage_after stage next asked reply)) →
      new.turns.items ≡ mid.turns.items ++ Turn.Step actor ∷ [] →
      new ≡ record mid { actors = new.actors; turns = new.turns } → IsPlay plans new
  called step call caller waits shows entries same stages turns rest =
      let kept : stages_of mid ≡ stages_of old = ap stages_of same in
      called_by (slice_get (stages_of old) actor) refl step call caller waits shows entries same
      (subst (λ (ss : List Stage). IfSome (slice_get ss actor)
      (λ stage. stages_of new ≡ slice_set ss actor (stage_after stage next asked reply))) kept stages) turns rest

-- the actor makes the call by which it leaves, or goes on to leave
module _ (plans : List Plan) (old mid new : Play) (actor client : ℕ) (call : Call) (reply : Reply) (is : IsPlay plans old) where
  -- the play has one turn more, whose call and reply are those
  left_at : (stage : Stage) → slice_get (stages_of old) actor ≡ Some stage → leaves_by stage ≡ Some call →
      slice_get old.clients.items actor ≡ Some client → Shows mid.core mid.entries.items →
      mid.entries.items ≡ old.entries.items ++ (client, call, reply) ∷ [] →
      mid ≡ record old { core = mid.core; entries = mid.entries; falls = mid.falls } →
      stages_of new ≡ slice_set (stages_of old) actor (left stage reply) →
      new.turns.items ≡ mid.turns.items ++ Turn.Leave actor ∷ [] →
      new ≡ record mid { actors = new.actors; turns = new.turns } → IsPlay plans new
  left_at stage at leaves caller shows entries same stages turns rest =
      let turned : new.turns.items ≡ old.turns.items ++ Turn.Leave actor ∷ [] =
      turns ∙ ap (λ (p : Play). p.turns.items ++ Turn.Leave actor ∷ []) same in
      let clients : new.clients.items ≡ old.clients.items =
      ap (λ (p : Play). p.clients.items) rest ∙ ap (λ (p : Play). p.clients.items) same in
      let noted : new.entries.items ≡ old.entries.items ++ (client, call, reply) ∷ [] =
      ap (λ (p : Play). p.entries.items) rest ∙ entries in
      record {
        shows = subst (λ (p : Play). Shows p.core p.entries.items) (sym rest) shows;
        plays = subst (λ cs. Plays plans cs new.turns.items new.entries.items (stages_of new)) (sym clients)
            (subst (λ ts. Plays plans old.clients.items ts new.entries.items (stages_of new)) (sym turned)
            (subst (λ es. Plays plans old.clients.items (old.turns.items ++ Turn.Leave actor ∷ []) es (stages_of new)) (sym noted)
            (subst (λ ss. Plays plans old.clients.items (old.turns.items ++ Turn.Leave actor ∷ [])
            (old.entries.items ++ (client, call, reply) ∷ []) ss) (sym stages)
            (Plays.Leaves old.turns.items old.entries.items (stages_of old) actor client stage call reply is.plays at leaves caller))));
      }

  -- by cases on the stage: an actor without one does not leave
  left_by : (o : Option Stage) → slice_get (stages_of old) actor ≡ o → option_and_then leaves_by o ≡ Some call →
      slice_get old.clients.items actor ≡ Some client → Shows mid.core mid.entries.items →
      mid.entries.items ≡ old.entries.items ++ (client, call, reply) ∷ [] →
      mid ≡ record old { core = mid.core; entries = mid.entries; falls = mid.falls } →
      IfSome o (λ stage. stages_of new ≡ slice_set (stages_of old) actor (left stage reply)) →
      new.turns.items ≡ mid.turns.items ++ Turn.Leave actor ∷ [] →
      new ≡ record mid { actors = new.actors; turns = new.turns } → IsPlay plans new
  left_by None at leaves caller shows entries same stages turns rest = cc
  left_by (Some stage) at leaves caller shows entries same stages turns rest =
      left_at stage at leaves caller shows entries same stages turns rest

  -- and it is answered
  pub has_left : option_and_then leaves_by (slice_get (stages_of old) actor) ≡ Some call →
      slice_get old.clients.items actor ≡ Some client → Shows mid.core mid.entries.items →
      mid.entries.items ≡ old.entries.items ++ (client, call, reply) ∷ [] →
      mid ≡ record old { core = mid.core; entries = mid.entries; falls = mid.falls } →
      IfSome (slice_get (stages_of mid) actor) (λ stage. stages_of new ≡ slice_set (stages_of mid) actor (left stage reply)) →
      new.turns.items ≡ mid.turns.items ++ Turn.Leave actor ∷ [] →
      new ≡ record mid { actors = new.actors; turns = new.turns } → IsLeave plans old new actor true
  has_left leaves caller shows entries same stages turns rest =
      let kept : stages_of mid ≡ stages_of old = ap stages_of same in (
        left_by (slice_get (stages_of old) actor) refl leaves caller shows entries same
            (subst (λ (ss : List Stage). IfSome (slice_get ss actor)
            (λ stage. stages_of new ≡ slice_set ss actor (left stage reply))) kept stages) turns rest,
        turns ∙ ap (λ (p : Play). p.turns.items ++ Turn.Leave actor ∷ []) same,
      )

-- the actor waits, after it passed what it could
module _ (plans : List Plan) (first old new : Play) (actor client : ℕ) (next : Planned) (asked : StepCall) (reply : Reply)
    (is : IsPlay plans old) where
  -- by cases on the stage: an actor without one has no next step
  waits_by : (o : Option Stage) → slice_get (stages_of old) actor ≡ o → option_and_then (next_step plans actor) o ≡ Some next →
      option_and_then (λ (stage : Stage). step_call old.clients.items stage.known next.step) o ≡ Some asked →
      slice_get old.clients.items actor ≡ Some client → next.waits && is_wait reply ≡ true → Shows new.core new.entries.items →
      new.entries.items ≡ old.entries.items ++ (client, asked.call, reply) ∷ [] →
      new ≡ record old { core = new.core; entries = new.entries; falls = new.falls } →
      old ≡ record first { actors = old.actors } → IsLeftWaiting plans first new actor
  waits_by None at step call caller waits shows entries same passed = cc
  waits_by (Some stage) at step call caller waits shows entries same passed =
      let clients : new.clients.items ≡ old.clients.items = ap (λ (p : Play). p.clients.items) same in
      let stages : stages_of new ≡ stages_of old = ap stages_of same in
      record {
        stage = stage;
        next = next;
        asked = asked;
        client = client;
        reply = reply;
        at = ap (λ ss. slice_get ss actor) stages ∙ at;
        step = step;
        call = ap (λ cs. step_call cs stage.known next.step) clients ∙ call;
        caller = ap (λ cs. slice_get cs actor) clients ∙ caller;
        waits = waits;
        entries = entries ∙ ap (λ (p : Play). p.entries.items ++ (client, asked.call, reply) ∷ []) passed;
        shows = shows;
        before = subst (λ ss. Plays plans first.clients.items first.turns.items first.entries.items ss) (sym stages)
            (subst (λ (p : Play). Plays plans p.clients.items p.turns.items p.entries.items (stages_of old)) passed is.plays);
      }

  -- by the lemma above, for the stage of this actor
  pub left_waiting : option_and_then (next_step plans actor) (slice_get (stages_of old) actor) ≡ Some next →
      option_and_then (λ (stage : Stage). step_call old.clients.items stage.known next.step) (slice_get (stages_of old) actor)
      ≡ Some asked →
      slice_get old.clients.items actor ≡ Some client → next.waits && is_wait reply ≡ true → Shows new.core new.entries.items →
      new.entries.items ≡ old.entries.items ++ (client, asked.call, reply) ∷ [] →
      new ≡ record old { core = new.core; entries = new.entries; falls = new.falls } →
      old ≡ record first { actors = old.actors } → IsLeftWaiting plans first new actor
  left_waiting step call caller waits shows entries same passed =
      waits_by (slice_get (stages_of old) actor) refl step call caller waits shows entries same passed

-- the actor of this place is replaced
pub set_there : (xs : List Actor) (i : ℕ) (old new : Actor) (g : Stage → Stage) → old ≡ slice_index_or xs i old →
    stage_of new ≡ g (stage_of old) →
    IfSome (slice_get (map stage_of xs) i) (λ s. map stage_of (slice_set xs i new) ≡ slice_set (map stage_of xs) i (g s))
set_there [] i old new g is to = tt
set_there (x ∷ xs) zero old new g is to = ap (λ (s : Stage). s ∷ map stage_of xs) (to ∙ ap (λ a. g (stage_of a)) is)
set_there (x ∷ xs) (suc i) old new g is to = from (slice_get (map stage_of xs) i) (set_there xs i old new g is to)
  where
    -- by cases: the place is past the end, or one further on
    from : (o : Option Stage) → IfSome o (λ s. map stage_of (slice_set xs i new) ≡ slice_set (map stage_of xs) i (g s)) →
        IfSome o (λ s. stage_of x ∷ map stage_of (slice_set xs i new) ≡ stage_of x ∷ slice_set (map stage_of xs) i (g s))
    from None so = tt
    from (Some s) so = ap (λ (ss : List Stage). stage_of x ∷ ss) so

-- it is replaced by itself
pub set_same : (xs : List Actor) (i : ℕ) (old : Actor) → old ≡ slice_index_or xs i old → slice_set xs i old ≡ xs
set_same [] i old is = refl
set_same (x ∷ xs) zero old is = ap (λ a. a ∷ xs) is
set_same (x ∷ xs) (suc i) old is = ap (λ others. x ∷ others) (set_same xs i old is)

-- one more actor comes last
pub one_more : (xs ys : List Actor) (a : Actor) → ys ≡ xs ++ a ∷ [] → stage_of a ≡ first_stage →
    map stage_of ys ≡ map stage_of xs ++ first_stage ∷ []
one_more xs ys a e first = ap (map stage_of) e ∙ (map-append stage_of xs (a ∷ []) ∙ ap (λ (s : Stage). map stage_of xs ++ s ∷ []) first)

-- what came of a turn after the actor passed what it could
pub turned : (plans : List Plan) (old mid new : Play) (actor : ℕ) (t : Turned) → mid ≡ record old { actors = mid.actors } →
    IsTurn plans mid new actor t → IsTurn plans old new actor t
turned plans old mid new actor Turned.Made same so = (so.0, so.1 ∙ ap (λ (p : Play). p.turns.items ++ Turn.Step actor ∷ []) same)
turned plans old mid new actor Turned.Waits same so = record {
  stage = so.stage;
  next = so.next;
  asked = so.asked;
  client = so.client;
  reply = so.reply;
  at = so.at;
  step = so.step;
  call = so.call;
  caller = so.caller;
  waits = so.waits;
  entries = so.entries ∙ ap (λ (p : Play). p.entries.items ++ (so.client, so.asked.call, so.reply) ∷ []) same;
  shows = so.shows;
  before = subst (λ (p : Play). Plays plans p.clients.items p.turns.items p.entries.items (stages_of new)) same so.before;
}
turned plans old mid new actor Turned.Rests same so = (so.0, only_actors old mid new same so.1, so.2)

-- the same of its result
pub turned_ok : (plans : List Plan) (old mid new : Play) (actor : ℕ) (r : Result Turned StepFault) →
    mid ≡ record old { actors = mid.actors } → IfOk r (IsTurn plans mid new actor) → IfOk r (IsTurn plans old new actor)
turned_ok plans old mid new actor (Ok t) same so = turned plans old mid new actor t same so
turned_ok plans old mid new actor (Err e) same so = tt

-- what fell before is the same once the actor passed what it could
pub fallen_before : (old mid : Play) (X : Type 0) → mid ≡ record old { actors = mid.actors } →
    (AreFalls mid.entries.items mid.falls.items → X) → AreFalls old.entries.items old.falls.items → X
fallen_before old mid X same so are = so (subst (λ (p : Play). AreFalls p.entries.items p.falls.items) (sym same) are)

-- one more call was told
tells : (history later : List Entry) (falls more : List GoneNode) (old new : State) (client : ℕ) (call : Call) (reply : Reply)
    (stages : List MarkStage) → Shows old history → Shows new (history ++ (client, call, reply) ∷ []) →
    AreStages old new client call reply stages → later ≡ history ++ (client, call, reply) ∷ [] →
    more ≡ falls ++ flat_map falls_at stages → AreFalls history falls → AreFalls later more
tells history later falls more old new client call reply stages before after are on further fell =
    subst (λ fs. AreFalls later fs) (sym further)
    (subst (λ es. AreFalls es (falls ++ flat_map falls_at stages)) (sym on)
    (AreFalls.Tells history falls old new client call reply stages fell before after are))

-- the same, by the marks that are told
pub told_by : (history later : List Entry) (falls more : List GoneNode) (old new : State) (client : ℕ) (call : Call) (reply : Reply)
    (moments : Option (Vec Moment Global)) → Shows old history → Shows new (history ++ (client, call, reply) ∷ []) →
    IfSome moments (λ ms. AreStages old new client call reply (map stage_told ms.items)) → later ≡ history ++ (client, call, reply) ∷ [] →
    AreTold moments falls more → AreFalls history falls → AreFalls later more
told_by history later falls more old new client call reply None before after are on further fell = absurd further
told_by history later falls more old new client call reply (Some ms) before after are on further fell =
    tells history later falls more old new client call reply (map stage_told ms.items) before after are on further fell
