-- How positions of plays go on.
use Rattle.actor_plays.proofs.Common.{Bool, GoneNode, List, None, Option, PassOn, Passes, Plan, Position, ReachedBy, Setup, Some, Stage}
use Rattle.actor_plays.proofs.Common.{State, Turn, [], ap, false, length, next_step, option_and_then, option_map_or, passed, polls, refl}
use Rattle.actor_plays.proofs.Common.{slice_get, slice_set, steps_of, subst, suc, sym, true, zero, ℕ, ◌∙◌, ◌∷◌, ◌≡◌, ◌≤◌}
use Rattle.std.proofs.Common.{cond, is_some}
use Rattle.std.proofs.lemmas.Option.{slice_get_past}
use Rattle.actor_plays.specs.Positions.{Reached, Rests}

-- At another place it stays.
pub get-other : {A : Type 0} (xs : List A) (i j : ℕ) (y : A) → (i ≡ j → ⊥) → slice_get (slice_set xs i y) j ≡ slice_get xs j
get-other [] i j y apart = refl
get-other (x ∷ xs) zero zero y apart = absurd (apart refl)
get-other (x ∷ xs) zero (suc j) y apart = refl
get-other (x ∷ xs) (suc i) zero y apart = refl
get-other (x ∷ xs) (suc i) (suc j) y apart = get-other xs i j y (λ is. apart (ap suc is))

-- At its place it is there.
pub get-set : {A : Type 0} (xs : List A) (i : ℕ) (x y : A) → slice_get xs i ≡ Some x → slice_get (slice_set xs i y) i ≡ Some y
get-set [] i x y at = cc
get-set (z ∷ zs) zero x y at = refl
get-set (z ∷ zs) (suc i) x y at = get-set zs i x y at

module _ (setup : Setup) where
  -- One after another.
  pub further : (p q r : Position) → PassOn setup p q → PassOn setup q r → PassOn setup p r
  further _ _ r (PassOn.Stays p) on = on
  further _ _ r (PassOn.Further actor p mid q first then) on = PassOn.Further actor p mid r first (further mid q r then on)

  -- A step is passed so too where others fell.
  pub passes_at : (falls : List GoneNode) (actor : ℕ) (p q : Position) → Passes setup actor p q →
      Passes setup actor (record p { falls = falls }) (record q { falls = falls })
  passes_at falls actor p q pass = record {
    stage = pass.stage;
    next = pass.next;
    at = pass.at;
    step = pass.step;
    silent = pass.silent;
    looks = pass.looks;
    after = ap (λ (x : Position). record x { falls = falls }) pass.after;
  }

  -- And so are several.
  pub pass_on_at : (falls : List GoneNode) (p r : Position) → PassOn setup p r →
      PassOn setup (record p { falls = falls }) (record r { falls = falls })
  pass_on_at falls _ _ (PassOn.Stays p) = PassOn.Stays (record p { falls = falls })
  pass_on_at falls _ _ (PassOn.Further actor p mid r first on) =
      PassOn.Further actor (record p { falls = falls }) (record mid { falls = falls }) (record r { falls = falls })
      (passes_at falls actor p mid first) (pass_on_at falls mid r on)

  -- Who rests does so too where others fell.
  pub rests_at : (falls : List GoneNode) (p : Position) (actor : ℕ) → Rests setup p actor → Rests setup (record p { falls = falls }) actor
  rests_at falls p actor rests new pass =
      rests (record new { falls = p.falls }) (passes_at p.falls actor (record p { falls = falls }) new pass)

  -- A play comes there.
  pub reached_on : (p r : Position) → PassOn setup p r → Reached setup p → Reached setup r
  reached_on _ _ (PassOn.Stays p) reached = reached
  reached_on _ _ (PassOn.Further actor p mid r first on) reached = reached_on mid r on (Reached.ByPass actor p mid reached first)

  -- The same by turns.
  pub by_turns_on : (turns : List Turn) (p r : Position) → PassOn setup p r → ReachedBy setup turns p → ReachedBy setup turns r
  by_turns_on turns _ _ (PassOn.Stays p) reached = reached
  by_turns_on turns _ _ (PassOn.Further actor p mid r first on) reached =
      by_turns_on turns mid r on (ReachedBy.ByPass actor turns p mid reached first)

  -- What is reached by turns is reached.
  pub by_turns : (turns : List Turn) (p : Position) → ReachedBy setup turns p → Reached setup p
  by_turns _ _ (ReachedBy.Starts p begins) = Reached.Starts p begins
  by_turns _ _ (ReachedBy.ByPass actor turns old new before pass) = Reached.ByPass actor old new (by_turns turns old before) pass
  by_turns _ _ (ReachedBy.ByCall actor turns old new before call) = Reached.ByCall actor old new (by_turns turns old before) call
  by_turns _ _ (ReachedBy.ByLeave actor turns old new before leave) = Reached.ByLeave actor old new (by_turns turns old before) leave

  -- Where all rest, nobody passes on.
  pub all_rest : (p r : Position) → PassOn setup p r → ((actor : ℕ) → Rests setup p actor) → r ≡ p
  all_rest _ _ (PassOn.Stays p) rest = refl
  all_rest _ _ (PassOn.Further actor p mid r first on) rest = absurd (rest actor mid first)

  -- An actor that rests stays where it is while others pass.
  pub rests_stay : (p mid : Position) (j actor : ℕ) → Passes setup j p mid → Rests setup p actor →
      (actor ≡ j → ⊥) × (slice_get mid.stages actor ≡ slice_get p.stages actor) × Rests setup mid actor
  rests_stay p mid j actor first rests = (
    apart,
    same,
    λ new pass. rests (record p { stages = slice_set p.stages actor (passed pass.stage) }) (record {
      stage = pass.stage;
      next = pass.next;
      at = sym same ∙ pass.at;
      step = pass.step;
      silent = pass.silent;
      looks = subst (λ (s : State). polls s.trackers.fired pass.stage.known pass.next ≡ false) (ap (λ (x : Position). x.core) first.after)
          pass.looks;
      after = refl;
    }),
  )
    where
      -- it is another one
      apart : actor ≡ j → ⊥
      apart is = rests mid (subst (λ (k : ℕ). Passes setup k p mid) (sym is) first)

      -- so it stays
      same : slice_get mid.stages actor ≡ slice_get p.stages actor
      same = ap (λ (x : Position). slice_get x.stages actor) first.after
          ∙ get-other p.stages j actor (passed first.stage) (λ is. apart (sym is))

  -- By induction on the passes.
  pub rests_on : (p r : Position) → PassOn setup p r → (actor : ℕ) → Rests setup p actor →
      (slice_get r.stages actor ≡ slice_get p.stages actor) × Rests setup r actor
  rests_on _ _ (PassOn.Stays p) actor rests = (refl, rests)
  rests_on _ _ (PassOn.Further j p mid r first on) actor rests =
      let here = rests_stay p mid j actor first rests in
      let more = rests_on mid r on actor here.2 in
      (more.0 ∙ here.1, more.1)

  -- An actor without a next step rests.
  pub done_rests : (p : Position) (actor : ℕ) → option_and_then (next_step setup.plans actor) (slice_get p.stages actor) ≡ None →
      Rests setup p actor
  done_rests p actor none new pass =
      let there : Some pass.next ≡ None =
      sym pass.step ∙ (sym (ap (option_and_then (next_step setup.plans actor)) pass.at) ∙ none) in
      cc

-- A stage that has all steps of the plan behind it has no next one: nor has one of no plan.
pub no_next : (plans : List Plan) (actor : ℕ) (stage : Stage) →
    option_map_or (λ (plan : Plan). length (steps_of plan)) (slice_get plans actor) 0 ≤ stage.at → next_step plans actor stage ≡ None
no_next plans actor stage = by (slice_get plans actor) (is_some stage.vanish)
  where
    -- by whether there is a plan, and whether it leaves
    by : (o : Option Plan) (b : Bool) → option_map_or (λ (plan : Plan). length (steps_of plan)) o 0 ≤ stage.at →
        cond b None (option_and_then (λ (plan : Plan). slice_get (steps_of plan) stage.at) o) ≡ None
    by o true past = refl
    by None false past = refl
    by (Some plan) false past = slice_get_past (steps_of plan) stage.at past
