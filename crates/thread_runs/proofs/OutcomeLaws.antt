-- A run of actors in threads ends as one of the outcomes of their plays.
use Rattle.thread_runs.proofs.Common.{AllZip, AllZip-long, Begins, Bool, Bound, Entry, HasFinished, IsPlayOf, IsPlayed, JoinsFirst, Leads}
use Rattle.thread_runs.proofs.Common.{List, Option, Plan, Position, Setup, Shows, Some, SomeCoreCame, State, Step, Waiting, [], ap, arith}
use Rattle.thread_runs.proofs.Common.{count_first, first_clients, first_stage, if◌then◌else◌, is_some, joined, joins, leaves_by, length}
use Rattle.thread_runs.proofs.Common.{length-map, map, nat_le, nat_lt, option_map, option_map_or, pairs_of, part, planned, refl}
use Rattle.thread_runs.proofs.Common.{slice_get, slice_get-map, some-injective, steps_of, subst, suc, sym, true, zero, ℕ, ◌&&◌, ◌+◌, ◌<◌}
use Rattle.thread_runs.proofs.Common.{◌||◌, ◌∙◌, ◌∷◌, ◌≡◌, ◌≤◌}
use Rattle.std.proofs.lemmas.Bool.{le-leb}
use Rattle.core_state.proofs.theorem.Leads.{leads_limits, leads_pool}
use Rattle.alike_plays.specs.Ahead.{count_early}
use Rattle.explore_model.specs.declared.found.Found.{Found}
use Rattle.play_search.specs.declared.replay.Setting.{Setting}
use Rattle.explore_model.specs.declared.found.Vanishing.{Vanishing}
use Rattle.play_search.specs.Ends.{EndsAsOne, NoneIsMissing}
use Rattle.play_search.specs.Searches.{setup_of}
use Rattle.play_search.specs.Vanishings.{began_early, is_done, may_vanish}
use Rattle.thread_runs.proofs.Comings.{ComesThrough}
use Rattle.thread_runs.proofs.JoinLaws.{calls-of-part, first-at, first-there, just-first, leads-shows, leads-split, none-beyond}
use Rattle.thread_runs.proofs.JoinLaws.{theirs-are}
use Rattle.thread_runs.proofs.LeavingTurns.{comes-through}
use Rattle.thread_runs.proofs.OncePlanLaws.{planned-length, there}
use Rattle.thread_runs.proofs.RecordPlays.{AllComeThrough, HasPlayed, all-gone, all-rest, none-asks, plays-on}
use Rattle.thread_runs.proofs.RunPlays.{starts-at}

-- ---- the play of a record

module _ (setup : Setup) (count : ℕ) (clients_are : setup.clients ≡ first_clients count) (many : length setup.clients ≡ length setup.plans)
    (history : List Entry) (first : JoinsFirst count history) (came : SomeCoreCame setup.pool setup.limits history) where
  -- the joins
  abbrev joining : List Entry
  joining = joins (first_clients count)

  -- the core made them, and then all other events
  split-there : (mid : State) × Leads came.first joining mid × Leads mid first.rest came.last
  split-there = leads-split joining first.rest came.first came.last
      (subst (λ (h : List Entry). Leads came.first h came.last) first.split came.leads)

  -- where the play begins
  start : (mid : State) → Position
  start mid = record { core = mid; stages = map (λ (client : ℕ). first_stage) (first_clients count); falls = [] }

  -- there all clients joined, and nothing else happened
  begins-there : (mid : State) → Leads came.first joining mid → Begins setup (start mid)
  unfolding start
  begins-there mid leads = record {
    pool = leads_pool came.first mid joining leads ∙ came.pool_is;
    limits = leads_limits came.first mid joining leads ∙ came.limits_is;
    shows = subst (λ (cs : List ℕ). Shows mid (joins cs)) (sym clients_are) (leads-shows joining [] came.first mid came.blank leads);
    count = many;
    stages = ap (map (λ (client : ℕ). first_stage)) (sym clients_are);
    falls = refl;
  }

  -- so the record is a play, if each actor comes through by its part of it
  pub record-played : ((actor : ℕ) → actor < count → ComesThrough setup actor first_stage (pairs_of (part (actor + 1) history))) →
      HasPlayed setup count history came.last
  unfolding start
  record-played comes =
      let mid = split-there in
      let all : AllComeThrough setup count first.rest (start mid.0) = λ actor less. (
        first_stage,
        first-there count actor less,
        subst (ComesThrough setup actor first_stage)
            (ap (λ (h : List Entry). pairs_of (part (actor + 1) h)) first.split ∙ calls-of-part count actor first.rest less)
            (comes actor less),
      ) in
      subst (λ (h : List Entry). HasPlayed setup count h came.last) (sym first.split)
      (plays-on setup count (λ actor less. ap (λ (cs : List ℕ). slice_get cs actor) clients_are ∙ first-at count actor less)
      first.rest joining (start mid.0) came.last
      (subst (λ (cs : List ℕ). IsPlayOf setup (joins cs) (start mid.0)) clients_are
      (starts-at setup (start mid.0) (begins-there mid.0 mid.1)))
      mid.2 (theirs-are count first.rest first.theirs) all (none-beyond count))

-- ---- its outcome

-- what is said of the elements of two lists, place by place, by induction on the lists
zip-at : {A B : Type 0} (R : A → B → Type 0) (xs : List A) (ys : List B) (at : ℕ) (x : A) (y : B) → AllZip R xs ys →
    slice_get xs at ≡ Some x → slice_get ys at ≡ Some y → R x y
zip-at R [] ys at x y all one other = cc
zip-at R (a ∷ xs) [] at x y all one other = absurd all
zip-at R (a ∷ xs) (b ∷ ys) zero x y all one other =
    subst (λ v. R v y) (some-injective a x one) (subst (R a) (some-injective b y other) all.0)
zip-at R (a ∷ xs) (b ∷ ys) (suc at) x y all one other = zip-at R xs ys at x y all.1 one other

module _ (pages : ℕ) (limits : Bound) (scripts : List (List Step)) (history : List Entry) (came : SomeCoreCame pages limits history)
    (first : JoinsFirst (length scripts) history) (played : AllZip (IsPlayed history (joined history) 0) scripts (joined history))
    (plans : List Plan) (same : map steps_of plans ≡ map (planned Waiting.Never) scripts) (vanishing : Vanishing)
    (ends : vanishing.at_end ≡ true) (setting : Setting) (pages_are : setting.pages ≡ pages) (limits_are : setting.limits ≡ limits) where
  -- what is given for the plays
  abbrev setup : Setup
  setup = setup_of plans vanishing setting

  -- there are as many plans as scripts
  as-many : length plans ≡ length scripts
  as-many = sym (length-map plans steps_of) ∙ (ap length same ∙ length-map scripts (planned Waiting.Never))

  -- so many clients join first
  first-is : JoinsFirst (length plans) history
  first-is = subst (λ (n : ℕ). JoinsFirst n history) (sym as-many) first

  -- and no others
  joined-are : joined history ≡ first_clients (length plans)
  joined-are = subst (λ (h : List Entry). joined h ≡ first_clients (length plans)) (sym first-is.split)
      (just-first (length plans) first-is.rest
      (subst (λ (h : List Entry). length (joined h) ≡ length plans) first-is.split
      (AllZip-long (IsPlayed history (joined history) 0) scripts (joined history) played ∙ sym as-many)))

  -- an actor at its end may leave
  may-leave : (actor : ℕ) (plan : Plan) (steps : List Step) → slice_get plans actor ≡ Some plan →
      steps_of plan ≡ planned Waiting.Never steps → (begun : List (Option ℕ)) → setup.may_leave begun actor (length steps) ≡ true
  may-leave actor plan steps at is begun =
      let few : length (steps_of plan) ≤ length steps = omega (arith, ap length is, planned-length steps) in
      let done : is_done plans actor (length steps) ≡ true =
      ap (λ (o : Option Plan). option_map_or (λ (p : Plan). nat_le (length (steps_of p)) (length steps)) o true) at
      ∙ le-leb (length (steps_of plan)) (length steps) few in
      λ i. (ends i && done i) || (may_vanish vanishing.who.now actor
      && nat_lt (count_early (began_early vanishing.at_end plans) begun) vanishing.most)

  -- each comes through by its part of the record
  all-come : (actor : ℕ) → actor < length plans → ComesThrough setup actor first_stage (pairs_of (part (actor + 1) history))
  all-come actor less =
      let plan = there plans actor less in
      let script = there scripts actor (omega (arith, less, as-many)) in
      let is : steps_of plan.0 ≡ planned Waiting.Never script.0 = some-injective (steps_of plan.0) (planned Waiting.Never script.0)
      (sym (slice_get-map steps_of plans actor ∙ ap (option_map steps_of) plan.1)
      ∙ (ap (λ l. slice_get l actor) same
      ∙ (slice_get-map (planned Waiting.Never) scripts actor ∙ ap (option_map (planned Waiting.Never)) script.1))) in
      let its = zip-at (IsPlayed history (joined history) 0) scripts (joined history) actor script.0 (actor + 1) played script.1
      (ap (λ (cs : List ℕ). slice_get cs actor) joined-are ∙ first-at (length plans) actor less) in
      subst (λ own. ComesThrough setup actor first_stage (pairs_of own)) its.its_part
      (comes-through setup actor plan.0 plan.1 script.0 is (may-leave actor plan.0 script.0 plan.1 is) its.left
      (subst (λ (cs : List ℕ). HasFinished cs 0 script.0 its.left) joined-are its.played))

  -- a core with this pool and these limits came by the record
  came-there : SomeCoreCame setting.pages setting.limits history
  came-there = subst (λ (p : ℕ). SomeCoreCame p setting.limits history) (sym pages_are)
      (subst (λ (b : Bound). SomeCoreCame pages b history) (sym limits_are) came)

  -- so the record is a play, in which all are gone, and it ends as one of the outcomes if none is missing
  pub ends-as-outcome : (outcomes : List Found) → NoneIsMissing vanishing.at_end setup outcomes →
      (end : Position) × IsPlayOf setup history end × EndsAsOne vanishing.at_end plans outcomes end
  ends-as-outcome outcomes none =
      let run = record-played setup (length plans) refl (count_first (length plans)) history first-is came-there all-come in (
        run.end,
        run.play,
        none run.end run.play.reached (all-rest setup (length plans) run.end run.all run.none) (record {
          waits = λ actor asks. absurd (none-asks setup (length plans) run.end run.all run.none actor asks);
          stays = λ actor stage at.
              let left = all-gone setup (length plans) run.end run.all run.none actor stage at in
              ap (λ (b : Bool). if b then is_some (leaves_by stage) else (vanishing.at_end && is_done plans actor stage.at)) left.0
              ∙ ap is_some left.1;
        }),
      )
