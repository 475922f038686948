-- How an actor runs its steps, and what it leaves.
use Rattle.client_actors.proofs.Common.{Actor, ActorInvariant, All, AllHeldBy, Err, HasFaltered, HasRunSome, HasRunTo, HasStepped}
use Rattle.client_actors.proofs.Common.{HasTaken, IsAware, Known, List, Made, MakesCall, None, Ok, Option, ParcelContent, Reply, Result}
use Rattle.client_actors.proofs.Common.{RunsPatiently, Seen, SlotHeldBy, Some, Step, StepCall, [], ap, append-nil, append_assoc, false}
use Rattle.client_actors.proofs.Common.{flat_map, inl, inr, is_err, known, last_reply, lies, objects_in_slots, pairs_of, part_of, refl}
use Rattle.client_actors.proofs.Common.{sorted, state_after, subst, sym, ℕ, ◌++◌, ◌∙◌, ◌∷◌, ◌≡◌}
use Rattle.std.specs.Prelude.{OnErr, OnOk}
use Rattle.client_vanish.specs.Vanishings.{Holds, IsBroken, IsGone, Remains}
use Rattle.actor_scripts.specs.ActorStates.{step_call, nothing_known, objects_after}
use Rattle.actor_scripts.proofs.TableLaws.{objects_noted}
use Rattle.client_actors.specs.ActorSteps.{Falters, HasMade, HasFinished, HasStopped, holds_by_state}
use Rattle.client_actors.proofs.ActorStepLaws.{last_is, pairs_more, parts_left}

-- what is ensured of a success
pub on_ok : {A B : Type 0} (r : Result A B) (P : Type 0) → is_err r ≡ false → OnOk r P → P
on_ok (Ok a) P fine so = so
on_ok (Err b) P fine so = cc

-- what is ensured of a fault
pub on_err : {A B : Type 0} (r : Result A B) (P : Type 0) → P → OnErr r P
on_err (Ok a) P so = tt
on_err (Err b) P so = so

-- a client that a fault stopped as it vanished is the same one
pub broken_id : (old new : Seen) (held back : Holds) → IsBroken old new held back → new.id ≡ old.id
broken_id old new held back (inl same) = ap (λ (c : Seen). c.id) same.0
broken_id old new held back (inr goes) = goes.made.id

-- the call of a step, and what the actor then knows
pub has_made : {E S W : Type 0} (step : Step) (asked : StepCall) (reply : Reply) (old new : Actor E S W)
    (mid : List (Option (ParcelContent E S W))) →
    MakesCall old.client new.client asked (lies mid) (lies new.slots.items) →
    mid ≡ old.slots.items → Some reply ≡ last_reply new.client.own → known new.state ≡ state_after (known old.state) step asked reply →
    (known new.state).objects ≡ objects_after (known old.state).objects asked reply → HasMade step asked reply old new
has_made step asked reply old new mid a same last knows objects =
    let some : Some a.reply ≡ Some reply = sym (last_is old.client new.client asked.call a.reply a.made) ∙ sym last in
    let told : a.reply ≡ reply = cc in
    record {
      made = subst (Made old.client new.client asked.call) told a.made;
      knows = knows;
      objects = objects;
      slots = a.objects ∙ (ap (λ r. objects_after (lies mid) asked r) told ∙ ap (λ m. objects_after (lies m) asked reply) same);
    }

-- no step yet
pub runs_none : {E S W : Type 0} (clients : List ℕ) (most : ℕ) (actor : Actor E S W) → actor.client.own ≡ [] →
    known actor.state ≡ nothing_known → RunsPatiently clients most [] (pairs_of actor.client.own) (known actor.state)
runs_none clients most actor own state =
    subst (λ o. RunsPatiently clients most [] (pairs_of o) (known actor.state)) (sym own)
    (subst (RunsPatiently clients most [] []) (sym state) RunsPatiently.Starts)

module _ {E S W : Type 0} (clients : List ℕ) where
  -- a step that makes a call
  pub stepped : (step : Step) (asked : StepCall) (reply : Reply) (old new : Actor E S W) →
      step_call clients (known old.state) step ≡ Some asked → HasMade step asked reply old new →
      IsAware old → HasStepped clients step (Some reply) old new
  stepped step asked reply old new is made aware = record {
    answer = record {
      asked = asked;
      is_asked = is;
      made = pairs_more old.client new.client asked.call reply made.made;
      knows = made.knows;
    };
    skips = λ e. absurd (some-none reply e);
    aware = made.slots ∙ (ap (λ l. objects_after l asked reply) aware ∙ sym made.objects);
  }
    where
      -- a reply is none
      some-none : (r : Reply) → Some r ≡ None → ⊥
      some-none r e = cc

  -- a step that is skipped
  pub skipped : (step : Step) (actor : Actor E S W) → step_call clients (known actor.state) step ≡ None → IsAware actor →
      HasStepped clients step None actor actor
  skipped step actor none aware = record { answer = (refl, refl); skips = λ e. none; aware = aware }

  -- a step whose call came to a fault
  pub faltered : (step : Step) (asked : StepCall) (old new : Actor E S W) → step_call clients (known old.state) step ≡ Some asked →
      Falters old.client new.client asked (lies old.slots.items) (lies new.slots.items) → IsAware old →
      HasFaltered clients step old new
  faltered step asked old new is (inl same) aware = record {
    reply = None;
    state = known old.state;
    answer = (ap (λ (c : Seen). pairs_of c.own) same.0, refl);
    has = same.1 ∙ aware;
  }
  faltered step asked old new is (inr a) aware = record {
    reply = Some a.reply;
    state = state_after (known old.state) step asked a.reply;
    answer = record {
      asked = asked;
      is_asked = is;
      made = pairs_more old.client new.client asked.call a.reply a.made;
      knows = refl;
    };
    has = a.objects ∙ (ap (λ l. objects_after l asked a.reply) aware ∙ sym (objects_noted (known old.state) step asked a.reply));
  }

module _ {E S W : Type 0} (clients : List ℕ) (most : ℕ) where
  -- one more
  pub ran_more : (steps rest more : List Step) (step : Step) (old new : Actor E S W) → HasRunTo clients most steps rest old →
      rest ≡ step ∷ more → HasTaken clients most step old new → HasRunTo clients most steps more new
  ran_more steps rest more step old new so is one = record {
    done = so.done ++ step ∷ [];
    split = so.split ∙ (ap (λ l. so.done ++ l) is ∙ sym (append_assoc so.done (step ∷ []) more));
    runs = one.runs so.done so.runs;
  }

  -- what an actor holds that knows what it has
  holds : (client : ℕ) (state : Known) (slots : List (Option (ParcelContent E S W))) (held : Holds) → lies slots ≡ state.objects →
      All (SlotHeldBy client) slots → held ≡ sorted (objects_in_slots slots) → held ≡ holds_by_state client state
  holds client state slots held has owned is =
      is ∙ ap sorted (sym (parts_left client slots owned) ∙ ap (λ t. flat_map (part_of client) t) has)

  -- an actor that a fault stopped before it made all steps
  pub has_stopped : (steps : List Step) (actor : Actor E S W) (client : Seen) (held : Holds) → client ≡ actor.client →
      HasRunSome clients most steps actor.client (lies actor.slots.items) → ActorInvariant actor →
      held ≡ sorted (objects_in_slots actor.slots.items) → AllHeldBy client.id held → HasStopped clients most steps client held
  has_stopped steps actor client held same some sound is owned = record {
    before = actor.client;
    state = some.state;
    runs = some.runs;
    broken = inl (same, holds actor.client.id some.state actor.slots.items held some.has sound.owned is);
    turn = inl same;
    owned = owned;
  }

  -- one that it stopped as it vanished
  pub has_broken : (steps : List Step) (actor : Actor E S W) (client left : Seen) (held back : Holds) → client ≡ actor.client →
      RunsPatiently clients most steps (pairs_of actor.client.own) (known actor.state) → IsAware actor → ActorInvariant actor →
      held ≡ sorted (objects_in_slots actor.slots.items) → IsBroken client left held back →
      AllHeldBy left.id back → HasStopped clients most steps left back
  has_broken steps actor client left held back same runs aware sound is broken owned = record {
    before = actor.client;
    state = known actor.state;
    runs = record {
      done = steps;
      left = [];
      split = sym (append-nil steps);
      before = known actor.state;
      ran = pairs_of actor.client.own;
      tried = [];
      runs = runs;
      tries = (refl, refl);
      made_are = sym (append-nil (pairs_of actor.client.own));
    };
    broken = subst (λ h. IsBroken actor.client left h back) (holds actor.client.id (known actor.state) actor.slots.items held aware
        sound.owned is) (subst (λ c. IsBroken c left held back) same broken);
    turn = inr refl;
    owned = owned;
  }

  -- an actor that made all its steps and is gone
  pub has_finished : (steps : List Step) (actor : Actor E S W) (client : Seen) (left : Remains) (held : Holds) → client ≡ actor.client →
      RunsPatiently clients most steps (pairs_of actor.client.own) (known actor.state) → IsAware actor → ActorInvariant actor →
      held ≡ sorted (objects_in_slots actor.slots.items) → IsGone client left.client held left.refused → HasFinished clients most steps left
  has_finished steps actor client left held same runs aware sound is gone = record {
    before = actor.client;
    state = known actor.state;
    runs = runs;
    gone = subst (λ h. IsGone actor.client left.client h left.refused) (holds actor.client.id (known actor.state) actor.slots.items held
        aware sound.owned is)
        (subst (λ c. IsGone c left.client held left.refused) same gone);
  }
