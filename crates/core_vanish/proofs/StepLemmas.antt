-- What a step makes of a core, as a vanishing needs it.
use Rattle.core_vanish.proofs.Common.{AdvancesBy, Call, Err, IfOk, IsAnswer, None, Ok, OnErr, Option, Reply, Result, ShowsBut, State}
use Rattle.core_vanish.proofs.Common.{StepFault, [], ap, append-nil, arith, both_ways, cons_option, false, readings_of, refl, subst, sym}
use Rattle.core_vanish.proofs.Common.{true, ℕ, ◌++◌, ◌+◌, ◌∙◌, ◌∷◌, ◌≡◌, ◌≤◌}
use Rattle.std.proofs.Common.{◌↔◌}
use Rattle.sm_names.specs.Answers.{makes_tracker}
use Rattle.core_state.specs.Kinds.{fits_call}
use Rattle.core_state.specs.State.{IsSame}
use Rattle.core_state.specs.Steps.{Follows}
use Rattle.core_state.specs.Theorem.{tracker_told}
use Rattle.core_state.proofs.answers.Kinds.{tracker-made}
use Rattle.core_state.proofs.theorem.Leads.{makes}
use Rattle.core_state.proofs.theorem.Recalling.{goes_on_but}
use Rattle.core_vanish.specs.Vanishing.{GoesOnBut, StaysBut}

-- a call that makes no tracker is told of none
no_tracker : (call : Call) (reply : Reply) → makes_tracker call ≡ false → fits_call call reply ≡ true → tracker_told reply ≡ None
no_tracker call (Reply.Tracker id) none fits = both_ways (makes_tracker call) (sym (tracker-made call) ∙ fits) none
no_tracker call _ none fits = refl

-- a state that is the same, but for the order of the rows of handles, shows the same, whatever is left out
pub same_stays : (old new : State) → IsSame old new → StaysBut old new
same_stays old new same gone history shows =
    let there : ShowsBut gone (record old { holds = new.holds }) history =
    record {
      legal = shows.legal;
      shown = record {
        events = shows.shown.events;
        clients = shows.shown.clients;
        collections = shows.shown.collections;
        given = shows.shown.given;
        handles = same.counts ∙ shows.shown.handles;
        trackers = shows.shown.trackers;
      };
    } in
    subst (λ (s : State). ShowsBut gone s history) (sym same.rest) there

-- an event that was made found room, and so each history goes on by it, whatever is left out
pub step_goes_on : (old new : State) (client : ℕ) (call : Call) (r : Result Reply StepFault) →
    IfOk r (λ reply. IsAnswer old.limits (readings_of old) client call reply) → IfOk r (λ reply. Follows old new client call reply) →
    ((r ≡ Err StepFault.HistoryFull) ↔ (old.limits.events ≤ old.events)) →
    IfOk r (λ reply. GoesOnBut old new ((client, call, reply) ∷ []))
step_goes_on old new client call (Ok reply) answer follows full = λ gone.
    goes_on_but gone old new client call reply (makes old new client call reply (Ok reply) refl full answer follows)
step_goes_on old new client call (Err fault) answer follows full = tt

-- the core advances by an event
pub step_made : (old new : State) (client : ℕ) (call : Call) (r : Result Reply StepFault) → makes_tracker call ≡ false →
    IfOk r (λ reply. fits_call call reply ≡ true) → IfOk r (λ reply. Follows old new client call reply) →
    IfOk r (λ reply. GoesOnBut old new ((client, call, reply) ∷ [])) →
    IfOk r (λ reply. new.trackers.untaken ≡ old.trackers.untaken ++ cons_option (tracker_told reply) []) →
    IfOk r (λ reply. AdvancesBy old new ((client, call, reply) ∷ []))
step_made old new client call (Ok reply) none fits follows goes_on untaken = record {
  pool = follows.pool;
  limits = follows.limits;
  counted = follows.events;
  untaken = untaken
      ∙ (ap (λ (o : Option ℕ). old.trackers.untaken ++ cons_option o []) (no_tracker call reply none fits)
      ∙ append-nil old.trackers.untaken);
  goes_on = goes_on;
}
step_made old new client call (Err fault) none fits follows goes_on untaken = tt

-- or by none
pub step_none : (old new : State) (r : Result Reply StepFault) → OnErr r (IsSame old new) →
    OnErr r (AdvancesBy old new [])
step_none old new (Ok reply) same = tt
step_none old new (Err fault) same = record {
  pool = ap (λ (s : State). s.pool) same.rest;
  limits = ap (λ (s : State). s.limits) same.rest;
  counted = ap (λ (s : State). s.events) same.rest ∙ plus_none old.events;
  untaken = ap (λ (s : State). s.trackers.untaken) same.rest;
  goes_on = λ gone history shows. subst (ShowsBut gone new) (sym (append-nil history)) (same_stays old new same gone history shows);
}
  where
    -- by arithmetic
    plus_none : (n : ℕ) → n ≡ n + 0
    plus_none n = omega arith

-- as many events were made as may be
pub step_full : (old new : State) (r : Result Reply StepFault) → (r ≡ Err StepFault.HistoryFull → new ≡ old) →
    ((r ≡ Err StepFault.HistoryFull) ↔ (old.limits.events ≤ old.events)) → r ≡ Err StepFault.HistoryFull → new.limits.events ≤ new.events
step_full old new r same full is = subst (λ (s : State). s.limits.events ≤ s.events) (sym (same is)) (full.0 is)
