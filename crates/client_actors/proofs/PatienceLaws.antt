-- A step that is made again while nothing is there for it.
use Rattle.client_actors.proofs.Common.{Actor, Bool, Call, FindsNothing, HasFaltered, HasRunSome, HasStepped, HasTaken, IsWaiting, Known}
use Rattle.client_actors.proofs.Common.{List, None, Option, Reply, RunsPatiently, Some, Step, [], ap, append-nil, append_assoc, arith}
use Rattle.client_actors.proofs.Common.{false, inl, inr, known, lies, pairs_of, refl, subst, sym, true, ℕ, ◌++◌, ◌+◌, ◌==◌, ◌∙◌, ◌∷◌, ◌≡◌}
use Rattle.client_actors.proofs.Common.{◌≤◌}
use Rattle.std.proofs.Common.{◌⊎◌}
use Rattle.std.proofs.lemmas.Bool.{eqb-true, eqb-false}
use Rattle.std.specs.Option.{option_map_or}
use Rattle.client_actors.specs.ActorSteps.{HasAnswer, HasCalled, HasGivenUp}
use Rattle.client_actors.specs.PatientRuns.{IsTried, finds_nothing}

-- the step that is left was not tried
untried : (clients : List ℕ) (most : ℕ) (left : List Step) (state : Known) → IsTried clients most left state [] state
untried clients most [] state = (refl, refl)
untried clients most (step ∷ left) state = (0, omega arith, FindsNothing.Untried)

module _ {E S W : Type 0} (clients : List ℕ) (step : Step) (first : Actor E S W) where
  -- the step was not made yet
  pub waiting-none : IsWaiting clients step 0 first first
  waiting-none = record { tried = []; nothing = FindsNothing.Untried; made = sym (append-nil (pairs_of first.client.own)) }

  module _ (tries : ℕ) (now : Actor E S W) (waits : IsWaiting clients step tries first now) where
    -- the calls of one try more
    more-pairs : (reply : Reply) (after : List (Call × Reply)) (next : Known)
        (one : HasCalled clients step reply (pairs_of now.client.own) after (known now.state) next) →
        after ≡ pairs_of first.client.own ++ (waits.tried ++ (one.asked.call, reply) ∷ [])
    more-pairs reply after next one =
        one.made
        ∙ (ap (λ (l : List (Call × Reply)). l ++ (one.asked.call, reply) ∷ []) waits.made
        ∙ append_assoc (pairs_of first.client.own) waits.tried ((one.asked.call, reply) ∷ []))

    -- one try more, for which nothing was there either
    more-nothing : (reply : Reply) (after : List (Call × Reply)) (next : Known)
        (one : HasCalled clients step reply (pairs_of now.client.own) after (known now.state) next) → finds_nothing reply ≡ true →
        FindsNothing clients step (known first.state) (tries + 1) (waits.tried ++ (one.asked.call, reply) ∷ []) next
    more-nothing reply after next one found =
        subst (FindsNothing clients step (known first.state) (tries + 1) (waits.tried ++ (one.asked.call, reply) ∷ [])) (sym one.knows)
        (FindsNothing.Tried tries waits.tried (known now.state) one.asked reply waits.nothing one.is_asked found)

    -- the actor waits on
    pub waiting-more : (new : Actor E S W) (reply : Option Reply) → HasStepped clients step reply now new →
        option_map_or finds_nothing reply false ≡ true → IsWaiting clients step (tries + 1) first new
    waiting-more new None one found = absurd (cc)
    waiting-more new (Some reply) one found = record {
      tried = waits.tried ++ (one.answer.asked.call, reply) ∷ [];
      nothing = more-nothing reply (pairs_of new.client.own) (known new.state) one.answer found;
      made = more-pairs reply (pairs_of new.client.own) (known new.state) one.answer;
    }

    module _ (most : ℕ) (few : tries ≤ most) where
      -- one try more is the last
      last-try : (reply : Reply) (after : List (Call × Reply)) (next : Known)
          (one : HasCalled clients step reply (pairs_of now.client.own) after (known now.state) next) →
          (finds_nothing reply ≡ false) ⊎ (tries ≡ most) → (steps : List Step) →
          RunsPatiently clients most steps (pairs_of first.client.own) (known first.state) →
          RunsPatiently clients most (steps ++ step ∷ []) after next
      last-try reply after next one ends steps so =
          subst (λ (l : List (Call × Reply)). RunsPatiently clients most (steps ++ step ∷ []) l next)
          (sym (more-pairs reply after next one))
          (subst (RunsPatiently clients most (steps ++ step ∷ [])
          (pairs_of first.client.own ++ (waits.tried ++ (one.asked.call, reply) ∷ []))) (sym one.knows)
          (RunsPatiently.Makes steps (pairs_of first.client.own) waits.tried (known first.state)
          (known now.state) step tries one.asked reply
          so waits.nothing few one.is_asked ends))

      -- the step is made, or skipped
      pub waiting-taken : (new : Actor E S W) (reply : Option Reply) → HasStepped clients step reply now new →
          (option_map_or finds_nothing reply false ≡ false) ⊎ (tries ≡ most) → HasTaken clients most step first new
      waiting-taken new None one ends = record {
        runs = λ steps so. subst (λ (l : List (Call × Reply)). RunsPatiently clients most (steps ++ step ∷ []) l (known new.state))
            (sym (one.answer.0 ∙ waits.made))
            (subst (RunsPatiently clients most (steps ++ step ∷ []) (pairs_of first.client.own ++ waits.tried)) (sym one.answer.1)
            (RunsPatiently.Skips steps (pairs_of first.client.own) waits.tried (known first.state) (known now.state) step tries so
            waits.nothing few (one.skips refl)));
        aware = one.aware;
      }
      waiting-taken new (Some reply) one ends = record {
        runs = λ steps so. last-try reply (pairs_of new.client.own) (known new.state) one.answer ends steps so;
        aware = one.aware;
      }

      module _ (new : Actor E S W) (state : Known) (has : lies new.slots.items ≡ state.objects) (steps done left : List Step)
          (split : steps ≡ done ++ step ∷ left)
          (so : RunsPatiently clients most done (pairs_of first.client.own) (known first.state)) where
        -- the step is still tried
        still-tried : (tries_now : ℕ) (tried : List (Call × Reply)) → tries_now ≤ most →
            FindsNothing clients step (known first.state) tries_now tried state →
            pairs_of new.client.own ≡ pairs_of first.client.own ++ tried → HasRunSome clients most steps new.client (lies new.slots.items)
        still-tried tries_now tried within nothing made = record {
          state = state;
          runs = record {
            done = done;
            left = step ∷ left;
            split = split;
            before = known first.state;
            ran = pairs_of first.client.own;
            tried = tried;
            runs = so;
            tries = (tries_now, within, nothing);
            made_are = made;
          };
          has = has;
        }

        -- the step was made
        was-made : RunsPatiently clients most (done ++ step ∷ []) (pairs_of new.client.own) state →
            HasRunSome clients most steps new.client (lies new.slots.items)
        was-made runs = record {
          state = state;
          runs = record {
            done = done ++ step ∷ [];
            left = left;
            split = split ∙ sym (append_assoc done (step ∷ []) left);
            before = state;
            ran = pairs_of new.client.own;
            tried = [];
            runs = runs;
            tries = untried clients most left state;
            made_are = sym (append-nil (pairs_of new.client.own));
          };
          has = has;
        }

        -- a call came before the fault: the step was made, or is tried further
        after-call : (reply : Reply) →
            HasCalled clients step reply (pairs_of now.client.own) (pairs_of new.client.own) (known now.state) state →
            HasRunSome clients most steps new.client (lies new.slots.items)
        after-call reply one = by (finds_nothing reply) (tries == most) refl refl
          where
            by : (b last : Bool) → finds_nothing reply ≡ b → (tries == most) ≡ last →
                HasRunSome clients most steps new.client (lies new.slots.items)
            by false last found is = was-made (last-try reply (pairs_of new.client.own) state one (inl found) done so)
            by true true found is =
                was-made (last-try reply (pairs_of new.client.own) state one (inr (eqb-true tries most is)) done so)
            by true false found is =
                let other = eqb-false tries most is in
                still-tried (tries + 1) (waits.tried ++ (one.asked.call, reply) ∷ []) (omega (arith, few, other))
                (more-nothing reply (pairs_of new.client.own) state one found) (more-pairs reply (pairs_of new.client.own) state one)

        -- no call came before it
        before-call : pairs_of new.client.own ≡ pairs_of now.client.own → state ≡ known now.state →
            HasRunSome clients most steps new.client (lies new.slots.items)
        before-call same knows =
            still-tried tries waits.tried few
            (subst (FindsNothing clients step (known first.state) tries waits.tried) (sym knows) waits.nothing) (same ∙ waits.made)

        -- either way the actor has made the first of its steps
        some-run : (reply : Option Reply) →
            HasAnswer clients step reply (pairs_of now.client.own) (pairs_of new.client.own) (known now.state) state →
            HasRunSome clients most steps new.client (lies new.slots.items)
        some-run None answer = before-call answer.0 answer.1
        some-run (Some reply) answer = after-call reply answer

      -- a fault came: the actor has still made the first of its steps
      pub waiting-given : (new : Actor E S W) → HasFaltered clients step now new → HasGivenUp clients most step first new
      waiting-given new fault = record {
        runs = λ steps done left split so. some-run new fault.state fault.has steps done left split so fault.reply fault.answer;
      }
