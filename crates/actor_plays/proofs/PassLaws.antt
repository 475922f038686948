-- How actors of a play pass steps.
use Rattle.actor_plays.proofs.Common.{HasRest, HavePassed, IfSome, IsOfSetup, List, None, Option, PassOn, Passes, Plan, Planned, Play}
use Rattle.actor_plays.proofs.Common.{Position, Setup, Some, Stage, add-one, ap, arith, false, length, next_step, option_and_then}
use Rattle.actor_plays.proofs.Common.{option_map_or, passed, polls, position_of, refl, slice_get, slice_set, stages_of, step_call}
use Rattle.actor_plays.proofs.Common.{steps_of, subst, sym, true, ℕ, ◌+◌, ◌<◌, ◌∙◌, ◌≡◌, ◌≤◌}
use Rattle.std.proofs.Common.{◌⊎◌, inl, inr, le_of_suc-le-suc}
use Rattle.std.proofs.lemmas.Option.{slice_get_within}
use Rattle.std.proofs.Math.Nat.{eq-or-lt_of_le}
use Rattle.actor_plays.specs.Moves.{HasPassed}
use Rattle.actor_plays.proofs.PositionLaws.{done_rests, further, get-set, no_next, rests_on}

-- ---- setups

-- The play has a setup.
abbrev pub own_setup : List Plan → Play → Setup
own_setup plans p = record {
  pool = p.core.pool;
  limits = p.core.limits;
  plans = plans;
  clients = p.clients.items;
  may_leave = λ begun actor at. true;
}

-- It is one of the play.
pub own_is : (plans : List Plan) (p : Play) → IsOfSetup (own_setup plans p) plans p
own_is plans p = record { plans_are = refl; clients = refl; pool = refl; limits = refl }

-- A play with the same clients, pages and limits has the same setups.
pub setup_stays : (setup : Setup) (plans : List Plan) (old new : Play) → IsOfSetup setup plans old → new.clients.items ≡ old.clients.items →
    new.core.pool ≡ old.core.pool → new.core.limits ≡ old.core.limits → IsOfSetup setup plans new
setup_stays setup plans old new is clients pool limits = record {
  plans_are = is.plans_are;
  clients = clients ∙ is.clients;
  pool = pool ∙ is.pool;
  limits = limits ∙ is.limits;
}

-- So has one of which only the actors changed.
pub setup_on : (setup : Setup) (plans : List Plan) (old new : Play) → IsOfSetup setup plans old → new ≡ record old { actors = new.actors } →
    IsOfSetup setup plans new
setup_on setup plans old new is same = subst (λ (p : Play). IsOfSetup setup plans p) (sym same) (record {
  plans_are = is.plans_are;
  clients = is.clients;
  pool = is.pool;
  limits = is.limits;
})

-- And the other way round.
pub setup_back : (setup : Setup) (plans : List Plan) (old new : Play) → IsOfSetup setup plans new → new ≡ record old { actors = new.actors } →
    IsOfSetup setup plans old
setup_back setup plans old new is same = record {
  plans_are = is.plans_are;
  clients = sym (ap (λ (p : Play). p.clients.items) same) ∙ is.clients;
  pool = sym (ap (λ (p : Play). p.core.pool) same) ∙ is.pool;
  limits = sym (ap (λ (p : Play). p.core.limits) same) ∙ is.limits;
}

-- ---- passes

module _ (plans : List Plan) (old new : Play) (actor : ℕ) (next : Planned) where
  -- The actor passes its next step, by what is read of its stage.
  passed_by : (o : Option Stage) → slice_get (stages_of old) actor ≡ o → option_and_then (next_step plans actor) o ≡ Some next →
      option_and_then (λ (stage : Stage). step_call old.clients.items stage.known next.step) o ≡ None →
      option_map_or (λ (stage : Stage). polls old.core.trackers.fired stage.known next) o false ≡ false →
      IfSome o (λ stage. stages_of new ≡ slice_set (stages_of old) actor (passed stage)) → new ≡ record old { actors = new.actors } →
      HasPassed plans old new actor
  passed_by None at step none quiet stages same setup is = cc
  passed_by (Some stage) at step none quiet stages same setup is = record {
    stage = stage;
    next = next;
    at = at;
    step = ap (λ (ps : List Plan). next_step ps actor stage) is.plans_are ∙ step;
    silent = ap (λ (cs : List ℕ). step_call cs stage.known next.step) (sym is.clients) ∙ none;
    looks = quiet;
    after = λ i. record { core = (same i).core; stages = stages i; falls = (same i).falls.items };
  }

  -- The same for the stage that it has.
  pub has_passed : option_and_then (next_step plans actor) (slice_get (stages_of old) actor) ≡ Some next →
      option_and_then (λ (stage : Stage). step_call old.clients.items stage.known next.step) (slice_get (stages_of old) actor) ≡ None →
      option_map_or (λ (stage : Stage). polls old.core.trackers.fired stage.known next) (slice_get (stages_of old) actor) false ≡ false →
      IfSome (slice_get (stages_of old) actor) (λ stage. stages_of new ≡ slice_set (stages_of old) actor (passed stage)) →
      new ≡ record old { actors = new.actors } → HasPassed plans old new actor
  has_passed step none quiet stages same = passed_by (slice_get (stages_of old) actor) refl step none quiet stages same

-- Where the stages stay, the position does.
pub same_position : (old new : Play) → stages_of new ≡ stages_of old → new ≡ record old { actors = new.actors } →
    position_of new ≡ position_of old
same_position old new stages same = λ i. record { core = (same i).core; stages = stages i; falls = (same i).falls.items }

-- An actor without a next step rests.
pub rests_done : (plans : List Plan) (p : Play) (actor : ℕ) →
    option_and_then (next_step plans actor) (slice_get (stages_of p) actor) ≡ None → HasRest plans p actor
rests_done plans p actor none setup is = done_rests setup (position_of p) actor
    (ap (λ (ps : List Plan). option_and_then (next_step ps actor) (slice_get (stages_of p) actor)) is.plans_are ∙ none)

-- An actor beyond the plans rests.
pub rests_beyond : (plans : List Plan) (p : Play) (actor : ℕ) → slice_get plans actor ≡ None → HasRest plans p actor
rests_beyond plans p actor none = rests_done plans p actor (by (slice_get (stages_of p) actor))
  where
    -- by whether there is such an actor
    by : (o : Option Stage) → option_and_then (next_step plans actor) o ≡ None
    by None = refl
    by (Some stage) = no_next plans actor stage
        (subst (λ (q : Option Plan). option_map_or (λ (plan : Plan). length (steps_of plan)) q 0 ≤ stage.at) (sym none) (omega arith))

-- Nothing was passed so far.
pub none_passed : (plans : List Plan) (p : Play) → HavePassed plans p p
none_passed plans p setup is = PassOn.Stays (position_of p)

-- One step more was passed.
pub one_further : (plans : List Plan) (old mid new : Play) (actor : ℕ) → HavePassed plans old mid → mid ≡ record old { actors = mid.actors } →
    HasPassed plans mid new actor → HavePassed plans old new
one_further plans old mid new actor before same pass setup is =
    further setup (position_of old) (position_of mid) (position_of new) (before setup is)
    (PassOn.Further actor (position_of mid) (position_of new) (position_of new) (pass setup (setup_on setup plans old mid is same))
    (PassOn.Stays (position_of new)))

-- More steps were passed.
pub more_further : (plans : List Plan) (old mid new : Play) → HavePassed plans old mid → mid ≡ record old { actors = mid.actors } →
    HavePassed plans mid new → HavePassed plans old new
more_further plans old mid new before same more setup is =
    further setup (position_of old) (position_of mid) (position_of new) (before setup is) (more setup (setup_on setup plans old mid is same))

-- Who rests does so while others pass.
pub rests_further : (plans : List Plan) (old new : Play) (actor : ℕ) → HavePassed plans old new → new ≡ record old { actors = new.actors } →
    HasRest plans old actor → HasRest plans new actor
rests_further plans old new actor passes same rests setup is =
    let before : IsOfSetup setup plans old = setup_back setup plans old new is same in
    (rests_on setup (position_of old) (position_of new) (passes setup before) actor (rests setup before)).1

-- One actor more rests: it is that one, or one before it, which rests while that one passes.
pub one_more_rests : (plans : List Plan) (old new : Play) (count : ℕ) → HavePassed plans old new → new ≡ record old { actors = new.actors } →
    HasRest plans new count → ((k : ℕ) → k < count → HasRest plans old k) → (k : ℕ) → k < count + 1 → HasRest plans new k
one_more_rests plans old new count passes same here before k less =
    by (eq-or-lt_of_le (le_of_suc-le-suc (subst (λ (n : ℕ). k < n) (add-one count) less)))
  where
    -- by which it is
    by : (k ≡ count) ⊎ (k < count) → HasRest plans new k
    by (inl is) = subst (HasRest plans new) (sym is) here
    by (inr first) = rests_further plans old new k passes same (before k first)

-- Where those of all plans rest, all rest.
pub all_rests : (plans : List Plan) (p : Play) (count : ℕ) → length plans ≤ count → ((k : ℕ) → k < count → HasRest plans p k) →
    (actor : ℕ) → HasRest plans p actor
all_rests plans p count all rests actor = by (slice_get plans actor) refl
  where
    -- by whether there is a plan
    by : (o : Option Plan) → slice_get plans actor ≡ o → HasRest plans p actor
    by None none = rests_beyond plans p actor none
    by (Some plan) there =
        let within : actor < length plans = slice_get_within plans actor plan there in rests actor (omega (arith, within, all))

-- Nothing need be behind an actor at first.
pub none_behind : (o : Option Stage) → IfSome o (λ stage. 0 ≤ stage.at)
none_behind None = tt
none_behind (Some stage) = omega arith

-- One step more is behind an actor that passed one.
pub one_behind : (plans : List Plan) (old new : Play) (actor count : ℕ) → HasPassed plans old new actor →
    IfSome (slice_get (stages_of old) actor) (λ stage. count ≤ stage.at) →
    IfSome (slice_get (stages_of new) actor) (λ stage. count + 1 ≤ stage.at)
one_behind plans old new actor count passes =
    subst (λ (o : Option Stage). IfSome (slice_get (stages_of old) actor) (λ stage. count ≤ stage.at) →
    IfSome o (λ stage. count + 1 ≤ stage.at)) (sym there)
    (subst (λ (o : Option Stage). IfSome o (λ stage. count ≤ stage.at) → count + 1 ≤ pass.stage.at + 1) (sym pass.at)
    (λ before. omega (arith, before)))
  where
    -- how it passed it
    pass : Passes (own_setup plans old) actor (position_of old) (position_of new)
    pass = passes (own_setup plans old) (own_is plans old)

    -- where it is
    there : slice_get (stages_of new) actor ≡ Some (passed pass.stage)
    there = ap (λ (p : Position). slice_get p.stages actor) pass.after
        ∙ get-set (stages_of old) actor pass.stage (passed pass.stage) pass.at

-- Where all steps are behind it, it rests.
pub rests_behind : (plans : List Plan) (p : Play) (actor count : ℕ) →
    option_map_or (λ (plan : Plan). length (steps_of plan)) (slice_get plans actor) 0 ≤ count →
    IfSome (slice_get (stages_of p) actor) (λ stage. count ≤ stage.at) → HasRest plans p actor
rests_behind plans p actor count all behind = rests_done plans p actor (by (slice_get (stages_of p) actor) behind)
  where
    -- by whether there is such an actor
    by : (o : Option Stage) → IfSome o (λ stage. count ≤ stage.at) → option_and_then (next_step plans actor) o ≡ None
    by None so = refl
    by (Some stage) so = no_next plans actor stage (omega (arith, all, so))

-- The same nodes fell where only the actors changed.
pub same_falls : (old new : Play) → new ≡ record old { actors = new.actors } → new.falls.items ≡ old.falls.items
same_falls old new same = ap (λ (p : Play). p.falls.items) same
