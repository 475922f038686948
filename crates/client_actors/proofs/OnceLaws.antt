-- Runs in which no step is made again.
use Rattle.client_actors.proofs.Common.{Call, FindsNothing, Known, List, Reply, RunsPatiently, Step, [], ap, append-nil, arith, refl}
use Rattle.client_actors.proofs.Common.{state_after, subst, sym, ℕ, ◌++◌, ◌∙◌, ◌∷◌, ◌≡◌, ◌≤◌}
use Rattle.actor_scripts.specs.ScriptRuns.{RunsScript}

-- a step that may not be made again was not tried before
none-tried : (clients : List ℕ) (step : Step) (before state : Known) (tries : ℕ) (tried : List (Call × Reply)) →
    FindsNothing clients step before tries tried state → tries ≤ 0 → (tried ≡ []) × (state ≡ before)
none-tried clients step before state tries tried FindsNothing.Untried few = (refl, refl)
none-tried clients step before state tries tried (FindsNothing.Tried less some mid asked reply nothing is found) few =
    absurd (omega (arith, few))

-- each step is made once, by induction on the run
pub runs-once : (clients : List ℕ) (steps : List Step) (made : List (Call × Reply)) (state : Known) →
    RunsPatiently clients 0 steps made state → RunsScript clients steps made state
runs-once clients steps made state RunsPatiently.Starts = RunsScript.Starts
runs-once clients steps made state (RunsPatiently.Skips done some tried before now step tries so nothing few none) =
    let no = none-tried clients step before now tries tried nothing few in
    subst (λ (l : List (Call × Reply)). RunsScript clients (done ++ step ∷ []) l now)
    (sym (ap (λ (t : List (Call × Reply)). some ++ t) no.0 ∙ append-nil some))
    (RunsScript.Skips done some now step (subst (RunsScript clients done some) (sym no.1) (runs-once clients done some before so)) none)
runs-once clients steps made state (RunsPatiently.Makes done some tried before now step tries asked reply so nothing few is ends) =
    let no = none-tried clients step before now tries tried nothing few in
    subst (λ (l : List (Call × Reply)). RunsScript clients (done ++ step ∷ []) l (state_after now step asked reply))
    (sym (ap (λ (t : List (Call × Reply)). some ++ (t ++ (asked.call, reply) ∷ [])) no.0))
    (RunsScript.Makes done some now step asked reply
    (subst (RunsScript clients done some) (sym no.1) (runs-once clients done some before so))
    is)
