-- How an actor of a play comes through its steps and leaves.
use Rattle.thread_runs.proofs.Common.{Call, Known, List, None, Option, Plan, Planned, Reply, Setup, Some, Stage, Step, StepCall, Waiting}
use Rattle.thread_runs.proofs.Common.{[], ap, append_assoc, false, first_stage, is_some, leaves_by, left, length, length-append}
use Rattle.thread_runs.proofs.Common.{next_step, option_and_then, passed, planned, refl, slice_get, stage_after, step_call, steps_of}
use Rattle.thread_runs.proofs.Common.{subst, sym, true, ℕ, ◌++◌, ◌+◌, ◌||◌, ◌∙◌, ◌∷◌, ◌≡◌}
use Rattle.actor_scripts.specs.ActorStates.{state_after}
use Rattle.actor_scripts.specs.ScriptRuns.{RunsScript}
use Rattle.thread_runs.proofs.OncePlanLaws.{get-behind, get-end, once, planned-at-once, planned-length}

-- from this stage the actor comes to its end by these calls on these replies: it passes steps that make no call and makes the calls of
-- the others, of which none waits; it begins to leave where it has no next step and may, and it is gone where it has no call left
pub data ComesThrough (setup : Setup) (actor : ℕ) : Stage → List (Call × Reply) → Type 0 where
  Skips : (stage : Stage) (next : Planned) (told : List (Call × Reply)) → next_step setup.plans actor stage ≡ Some next →
      step_call setup.clients stage.known next.step ≡ None → next.waits ≡ false → ComesThrough setup actor (passed stage) told →
      ComesThrough setup actor stage told
  Asks : (stage : Stage) (next : Planned) (asked : StepCall) (reply : Reply) (told : List (Call × Reply)) →
      next_step setup.plans actor stage ≡ Some next → step_call setup.clients stage.known next.step ≡ Some asked → next.waits ≡ false →
      ComesThrough setup actor (stage_after stage next asked reply) told → ComesThrough setup actor stage ((asked.call, reply) ∷ told)
  Leaves : (stage : Stage) (call : Call) (reply : Reply) (told : List (Call × Reply)) → next_step setup.plans actor stage ≡ None →
      leaves_by stage ≡ Some call → ((begun : List (Option ℕ)) → (is_some stage.vanish || setup.may_leave begun actor stage.at) ≡ true) →
      ComesThrough setup actor (left stage reply) told → ComesThrough setup actor stage ((call, reply) ∷ told)
  IsGone : (stage : Stage) → is_some stage.vanish ≡ true → leaves_by stage ≡ None → ComesThrough setup actor stage []

-- an actor that made steps so far, knows this, got these replies, and does not leave
abbrev pub staying : ℕ → Known → List (ℕ × Reply) → Stage
staying at known made = record { at = at; known = known; made = made; vanish = None }

module _ (setup : Setup) (actor : ℕ) (plan : Plan) (there : slice_get setup.plans actor ≡ Some plan) (steps : List Step)
    (plan_is : steps_of plan ≡ planned Waiting.Never steps) where
  -- what stands in its plan at a place
  at-plan : (at : ℕ) (known : Known) (made : List (ℕ × Reply)) →
      next_step setup.plans actor (staying at known made) ≡ slice_get (planned Waiting.Never steps) at
  at-plan at known made = ap (option_and_then (λ (p : Plan). slice_get (steps_of p) at)) there
      ∙ ap (λ (l : List Planned). slice_get l at) plan_is

  -- behind the first of its steps stands the next one
  pub next-is : (done later : List Step) (step : Step) → steps ≡ done ++ step ∷ later → (known : Known) (made : List (ℕ × Reply)) →
      next_step setup.plans actor (staying (length done) known made) ≡ Some (once (length done) step)
  next-is done later step split known made = at-plan (length done) known made
      ∙ planned-at-once steps (length done) step
      (ap (λ (l : List Step). slice_get l (length done)) split ∙ get-behind done later step)

  -- behind all steps stands none
  pub none-next : (known : Known) (made : List (ℕ × Reply)) → next_step setup.plans actor (staying (length steps) known made) ≡ None
  none-next known made = at-plan (length steps) known made
      ∙ (ap (slice_get (planned Waiting.Never steps)) (sym (planned-length steps)) ∙ get-end (planned Waiting.Never steps))

  -- an actor that ran the first of its steps by these calls comes through by them and by all that it does then
  pub record RunsThrough (done : List Step) (made : List (Call × Reply)) (state : Known) : Type 0 where
    pub told : List (ℕ × Reply)
    pub on : (rest : List (Call × Reply)) → ComesThrough setup actor (staying (length done) state told) rest →
        ComesThrough setup actor first_stage (made ++ rest)

  -- one more step is behind it
  one-more : (done : List Step) (step : Step) (state : Known) (told : List (ℕ × Reply)) (rest : List (Call × Reply)) →
      ComesThrough setup actor (staying (length (done ++ step ∷ [])) state told) rest →
      ComesThrough setup actor (staying (length done + 1) state told) rest
  one-more done step state told rest on = subst (λ (n : ℕ). ComesThrough setup actor (staying n state told) rest)
      (length-append done (step ∷ [])) on

  -- it has, by induction on the run
  pub runs-through : (done : List Step) (made : List (Call × Reply)) (state : Known) → RunsScript setup.clients done made state →
      (later : List Step) → steps ≡ done ++ later → RunsThrough done made state
  runs-through _ _ _ RunsScript.Starts later split = record { told = []; on = λ rest on. on }
  runs-through _ _ _ (RunsScript.Skips done made state step run none) later split =
      let split_on : steps ≡ done ++ step ∷ later = split ∙ append_assoc done (step ∷ []) later in
      let before = runs-through done made state run (step ∷ later) split_on in
      record {
        told = before.told;
        on = λ rest on. before.on rest (ComesThrough.Skips (staying (length done) state before.told) (once (length done) step) rest
            (next-is done later step split_on state before.told) none refl (one-more done step state before.told rest on));
      }
  runs-through _ _ _ (RunsScript.Makes done made state step asked reply run call) later split =
      let split_on : steps ≡ done ++ step ∷ later = split ∙ append_assoc done (step ∷ []) later in
      let before = runs-through done made state run (step ∷ later) split_on in
      let told : List (ℕ × Reply) = before.told ++ (length done, reply) ∷ [] in
      record {
        told = told;
        on = λ rest on. subst (ComesThrough setup actor first_stage) (sym (append_assoc made ((asked.call, reply) ∷ []) rest))
            (before.on ((asked.call, reply) ∷ rest) (ComesThrough.Asks (staying (length done) state before.told) (once (length done) step)
            asked reply rest (next-is done later step split_on state before.told) call refl
            (one-more done step (state_after state step asked reply) told rest on)));
      }
