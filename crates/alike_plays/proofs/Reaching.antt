-- What holds wherever a play comes.
use Rattle.alike_plays.proofs.Common.{Asks, Begins, Call, Calls, Entry, Fell, Goes, GoneNode, In, In-append, In-map, KnownCall, KnownGone}
use Rattle.alike_plays.proofs.Common.{KnownReply, KnownStage, Leaves, List, Makes, NodeKey, Passes, Position, Reached, Reply, Setup}
use Rattle.alike_plays.proofs.Common.{Shows, Stage, State, Turn, [], falls_at, first_stage, flat_map, given, inl, inr, joins, keys_stay}
use Rattle.alike_plays.proofs.Common.{left, passed, slice_set, stage_after, subst, sym, true, ℕ, ◌++◌, ◌∷◌, ◌≡◌, ◌≤◌}
use Rattle.core_state.proofs.theorem.GoesOn.{goes_on}
use Rattle.actor_plays.specs.Fates.{AreFalls}
use Rattle.actor_plays.specs.Plays.{Plays}
use Rattle.alike_cores.proofs.Learning.{events_stay, reply_known}
use Rattle.alike_cores.proofs.Told.{Tells}
use Rattle.alike_plays.proofs.EventFalls.{event_known}
use Rattle.alike_plays.proofs.Names.{at_in, step_known}
use Rattle.alike_plays.proofs.NamesAfter.{In-set}
use Rattle.alike_plays.proofs.Stages.{called_known, first_known, vanish_known, left_known, passed_known, stage_later}

-- the names that the actor knows are known to the core
abbrev pub IsKnown : State → Stage → Type 0
IsKnown s stage = KnownStage (λ key. given s.forest key ≡ true) (λ i. i ≤ s.events) (λ n. n ≤ s.events) stage

-- the core shows a history, and knows the names that actors know, and those of nodes that fell
pub record IsSeen (p : Position) : Type 0 where
  pub history : List Entry
  pub shows : Shows p.core history
  pub known : (stage : Stage) → In stage p.stages → IsKnown p.core stage
  pub fell : (g : GoneNode) → In g p.falls → KnownGone (λ key. given p.core.forest key ≡ true) g

-- and this history is a play by these turns, in which these nodes fell
pub record IsPlayed (setup : Setup) (p : Position) : Type 0 where
  pub turns : List Turn
  pub seen : IsSeen p
  pub plays : Plays setup.plans setup.clients turns seen.history p.stages
  pub fell : AreFalls seen.history p.falls

-- A core that answers a call shows the history with it.
pub shows_on : (s later : State) (history : List Entry) (client : ℕ) (call : Call) (reply : Reply) → Shows s history →
    Makes s later (client, call, reply) → Shows later (history ++ (client, call, reply) ∷ [])
shows_on s later history client call reply shows makes =
    goes_on s later client call reply makes.answer makes.after makes.room history shows

-- The same names.
told_known : (Key : NodeKey → Type 0) (Id Num : ℕ → Type 0) (r : Reply) → Tells Key Key Id Num r → KnownReply Key Id Num r
told_known Key Id Num (Reply.Token key collection) told = told
told_known Key Id Num _ told = told

-- What was known is known.
pub grown : (s later : State) (client : ℕ) (call : Call) (reply : Reply) → Makes s later (client, call, reply) → (stage : Stage) →
    IsKnown s stage → IsKnown later stage
grown s later client call reply makes = stage_later (λ key. given s.forest key ≡ true) (λ key. given later.forest key ≡ true)
    (λ i. i ≤ s.events) (λ i. i ≤ later.events) (λ i. i ≤ s.events) (λ i. i ≤ later.events)
    (keys_stay s later client call reply makes) (events_stay s later client call reply makes) (events_stay s later client call reply makes)

-- Behind a call all actors know names that the core knows, if the caller does.
stages_known : (s later : State) (history : List Entry) (client : ℕ) (call : Call) (reply : Reply) → Shows s history →
    Makes s later (client, call, reply) → (stages : List Stage) → ((stage : Stage) → In stage stages → IsKnown s stage) →
    (actor : ℕ) (new : Stage) →
    (KnownReply (λ key. given later.forest key ≡ true) (λ i. i ≤ later.events) (λ n. n ≤ later.events) reply → IsKnown later new) →
    (stage : Stage) → In stage (slice_set stages actor new) → IsKnown later stage
stages_known s later history client call reply shows makes stages known actor new knows stage there =
    elim (In-set stages actor new stage there) [
      | inl is ↦ subst (IsKnown later) (sym is) (knows (told_known (λ key. given later.forest key ≡ true) (λ i. i ≤ later.events)
          (λ n. n ≤ later.events) reply (reply_known s later client call reply makes history shows)))
      | inr old ↦ grown s later client call reply makes stage (known stage old)
    ]

-- The nodes that fell before are known, and those that fall now.
fell_known : (old new : Position) → IsSeen old → (client : ℕ) (call : Call) (reply : Reply) →
    Makes old.core new.core (client, call, reply) → Fell old new client call reply → (g : GoneNode) → In g new.falls →
    KnownGone (λ key. given new.core.forest key ≡ true) g
fell_known old new seen client call reply makes fell g there =
    elim (In-append old.falls (flat_map falls_at fell.marks) g (subst (In g) fell.falls there)) [
      | inl before ↦
          let k = seen.fell g before in
          record {
            key = keys_stay old.core new.core client call reply makes g.key k.key;
            origin = λ f is. keys_stay old.core new.core client call reply makes f.origin (k.origin f is);
          }
      | inr now ↦ event_known old.core new.core seen.history seen.shows client call reply makes fell.marks fell.are g now
    ]

-- They fell in the history.
pub falls_on : (old new : Position) (history : List Entry) (client : ℕ) (call : Call) (reply : Reply) → Shows old.core history →
    Makes old.core new.core (client, call, reply) → Fell old new client call reply → AreFalls history old.falls →
    AreFalls (history ++ (client, call, reply) ∷ []) new.falls
falls_on old new history client call reply shows makes fell before =
    subst (AreFalls (history ++ (client, call, reply) ∷ [])) (sym fell.falls)
    (AreFalls.Tells history old.falls old.core new.core client call reply fell.marks before shows
    (shows_on old.core new.core history client call reply shows makes) fell.are)

module _ (setup : Setup) where
  -- the step names only what its actor knows
  pub asks_known : (p : Position) → IsSeen p → (actor : ℕ) (a : Asks setup actor p) →
      KnownCall (λ key. given p.core.forest key ≡ true) (λ i. i ≤ p.core.events) a.asked.call
  asks_known p seen actor a = step_known (λ key. given p.core.forest key ≡ true) (λ i. i ≤ p.core.events) (λ n. n ≤ p.core.events)
      a.stage.known (seen.known a.stage (at_in p.stages actor a.stage a.at)).known setup.clients a.next.step a.asked a.call

  -- and so does the call by which an actor leaves
  pub goes_known : (p : Position) → IsSeen p → (actor : ℕ) (g : Goes setup actor p) →
      KnownCall (λ key. given p.core.forest key ≡ true) (λ i. i ≤ p.core.events) g.call
  goes_known p seen actor g = vanish_known (λ key. given p.core.forest key ≡ true) (λ i. i ≤ p.core.events) (λ n. n ≤ p.core.events)
      g.stage (seen.known g.stage (at_in p.stages actor g.stage g.at)) g.call g.by

  -- At the start no actor knows a name.
  begins_played : (p : Position) → Begins setup p → IsPlayed setup p
  begins_played p b = record {
    turns = [];
    seen = record {
      history = joins setup.clients;
      shows = b.shows;
      known = λ stage there.
          let c = In-map (λ (client : ℕ). first_stage) setup.clients stage (subst (In stage) b.stages there) in
          subst (IsKnown p.core) (sym c.2)
          (first_known (λ key. given p.core.forest key ≡ true) (λ i. i ≤ p.core.events) (λ n. n ≤ p.core.events));
      fell = λ g there. absurd (subst (In g) b.falls there);
    };
    plays = subst (Plays setup.plans setup.clients [] (joins setup.clients)) (sym b.stages) (Plays.Starts b.count);
    fell = subst (AreFalls (joins setup.clients)) (sym b.falls) (AreFalls.Starts setup.clients);
  }

  -- A pass changes no name.
  pass_played : (actor : ℕ) (old new : Position) → IsPlayed setup old → Passes setup actor old new → IsPlayed setup new
  pass_played actor old new played pass = subst (IsPlayed setup) (sym pass.after) (record {
    turns = played.turns;
    seen = record {
      history = played.seen.history;
      shows = played.seen.shows;
      known = λ stage there. elim (In-set old.stages actor (passed pass.stage) stage there) [
        | inl is ↦ subst (IsKnown old.core) (sym is)
            (passed_known (λ key. given old.core.forest key ≡ true) (λ i. i ≤ old.core.events) (λ n. n ≤ old.core.events) pass.stage
            (played.seen.known pass.stage (at_in old.stages actor pass.stage pass.at)))
        | inr other ↦ played.seen.known stage other
      ];
      fell = played.seen.fell;
    };
    plays = Plays.Passes played.turns played.seen.history old.stages actor pass.stage pass.next old.core played.plays pass.at pass.step
        pass.silent played.seen.shows pass.looks;
    fell = played.fell;
  })

  -- By the reply.
  call_seen : (actor : ℕ) (old new : Position) → IsSeen old → Calls setup actor old new → IsSeen new
  call_seen actor old new seen c = record {
    history = seen.history ++ (c.asks.client, c.asks.asked.call, c.reply) ∷ [];
    shows = shows_on old.core new.core seen.history c.asks.client c.asks.asked.call c.reply seen.shows c.made;
    known = λ stage there. stages_known old.core new.core seen.history c.asks.client c.asks.asked.call c.reply seen.shows c.made old.stages
        seen.known actor (stage_after c.asks.stage c.asks.next c.asks.asked c.reply)
        (called_known (λ key. given new.core.forest key ≡ true) (λ i. i ≤ new.core.events) (λ n. n ≤ new.core.events) c.asks.stage
        c.asks.next c.asks.asked c.reply
        (grown old.core new.core c.asks.client c.asks.asked.call c.reply c.made c.asks.stage
        (seen.known c.asks.stage (at_in old.stages actor c.asks.stage c.asks.at)))
        (call_grown (asks_known old seen actor c.asks)))
        stage (subst (In stage) c.stages there);
    fell = fell_known old new seen c.asks.client c.asks.asked.call c.reply c.made c.fell;
  }
    where
      -- what the call names is known
      call_grown : KnownCall (λ key. given old.core.forest key ≡ true) (λ i. i ≤ old.core.events) c.asks.asked.call →
          KnownCall (λ key. given new.core.forest key ≡ true) (λ i. i ≤ new.core.events) c.asks.asked.call
      call_grown known = (
        λ key is. keys_stay old.core new.core c.asks.client c.asks.asked.call c.reply c.made key (known.0 key is),
        λ b is. events_stay old.core new.core c.asks.client c.asks.asked.call c.reply c.made b.collection (known.1 b is),
      )

  -- And so is the play.
  call_played : (actor : ℕ) (old new : Position) → IsPlayed setup old → Calls setup actor old new → IsPlayed setup new
  unfolding call_seen
  call_played actor old new played c = record {
    turns = played.turns ++ Turn.Step actor ∷ [];
    seen = call_seen actor old new played.seen c;
    plays = subst (Plays setup.plans setup.clients (played.turns ++ Turn.Step actor ∷ [])
        (played.seen.history ++ (c.asks.client, c.asks.asked.call, c.reply) ∷ [])) (sym c.stages)
        (Plays.Calls played.turns played.seen.history old.stages actor c.asks.client c.asks.stage c.asks.next c.asks.asked c.reply
        played.plays c.asks.at c.asks.step c.asks.call c.asks.caller c.waits);
    fell = falls_on old new played.seen.history c.asks.client c.asks.asked.call c.reply played.seen.shows c.made c.fell played.fell;
  }

  -- By the reply.
  leave_seen : (actor : ℕ) (old new : Position) → IsSeen old → Leaves setup actor old new → IsSeen new
  leave_seen actor old new seen l = record {
    history = seen.history ++ (l.goes.client, l.goes.call, l.reply) ∷ [];
    shows = shows_on old.core new.core seen.history l.goes.client l.goes.call l.reply seen.shows l.made;
    known = λ stage there. stages_known old.core new.core seen.history l.goes.client l.goes.call l.reply seen.shows l.made old.stages
        seen.known actor (left l.goes.stage l.reply)
        (left_known (λ key. given new.core.forest key ≡ true) (λ i. i ≤ new.core.events) (λ n. n ≤ new.core.events) l.goes.stage l.reply
        (grown old.core new.core l.goes.client l.goes.call l.reply l.made l.goes.stage
        (seen.known l.goes.stage (at_in old.stages actor l.goes.stage l.goes.at))))
        stage (subst (In stage) l.stages there);
    fell = fell_known old new seen l.goes.client l.goes.call l.reply l.made l.fell;
  }

  -- And so is the play.
  leave_played : (actor : ℕ) (old new : Position) → IsPlayed setup old → Leaves setup actor old new → IsPlayed setup new
  unfolding leave_seen
  leave_played actor old new played l = record {
    turns = played.turns ++ Turn.Leave actor ∷ [];
    seen = leave_seen actor old new played.seen l;
    plays = subst (Plays setup.plans setup.clients (played.turns ++ Turn.Leave actor ∷ [])
        (played.seen.history ++ (l.goes.client, l.goes.call, l.reply) ∷ [])) (sym l.stages)
        (Plays.Leaves played.turns played.seen.history old.stages actor l.goes.client l.goes.stage l.goes.call l.reply played.plays
        l.goes.at l.goes.by l.goes.caller);
    fell = falls_on old new played.seen.history l.goes.client l.goes.call l.reply played.seen.shows l.made l.fell played.fell;
  }

  -- By induction on the turns.
  pub reached_played : (p : Position) → Reached setup p → IsPlayed setup p
  reached_played _ (Reached.Starts p begins) = begins_played p begins
  reached_played _ (Reached.ByPass actor old new before pass) = pass_played actor old new (reached_played old before) pass
  reached_played _ (Reached.ByCall actor old new before call) = call_played actor old new (reached_played old before) call
  reached_played _ (Reached.ByLeave actor old new before leave) = leave_played actor old new (reached_played old before) leave

  -- So the core shows a history.
  pub reached_seen : (p : Position) → Reached setup p → IsSeen p
  reached_seen p reached = (reached_played p reached).seen
