-- Passes of several actors, one after another, and turns between them.
use Rattle.alike_plays.proofs.Common.{AreStages, Asks, Bool, Call, Calls, Fell, Fired, GoneNode, Known, Leave, Leaves, List, Makes, None}
use Rattle.alike_plays.proofs.Common.{Option, PassOn, Passes, Plan, Planned, Position, Reply, Rests, Setup, Some, Stage, State, Step, []}
use Rattle.alike_plays.proofs.Common.{ap, both_ways, cond, either_way, eq-eqb, eqb-true, falls_at, false, flat_map, get-other, has_fired}
use Rattle.alike_plays.proofs.Common.{inl, inr, is_silent, is_some, left, left_at, map, next_step, not, option_and_then, option_map}
use Rattle.alike_plays.proofs.Common.{option_map_or, or_left, passed, polls, refl, slice_get, slice_set, some-injective, stage_after}
use Rattle.alike_plays.proofs.Common.{step_call, steps_of, subst, suc, sym, total, true, zero, ℕ, ◌&&◌, ◌++◌, ◌+◌, ◌==◌, ◌||◌, ◌∙◌, ◌∷◌}
use Rattle.alike_plays.proofs.Common.{◌≡◌, ◌⊎◌}
use Rattle.std.proofs.lemmas.List.{set_comm}
use Rattle.std.proofs.lemmas.List.Folds.{list_any-append}
use Rattle.trackers.specs.declared.waiting.Waiting.{Waiting}
use Rattle.trackers.specs.Table.{TrackerTable, firings}
use Rattle.core_state.specs.Reads.{world_in}
use Rattle.core_state.specs.Steps.{GainsTracker, tracker_by}
use Rattle.actor_plays.proofs.PositionLaws.{rests_on, rests_stay}

-- ---- lists

-- What is the same of both elements is that of the list.
pub map-set_same : {A B : Type 0} (f : A → B) (xs : List A) (i : ℕ) (x y : A) → slice_get xs i ≡ Some x → f y ≡ f x →
    map f (slice_set xs i y) ≡ map f xs
map-set_same f [] i x y at same = refl
map-set_same f (z ∷ zs) zero x y at same = λ i. (same ∙ ap f (sym (some-injective z x at))) i ∷ map f zs
map-set_same f (z ∷ zs) (suc i) x y at same = ap (λ more. f z ∷ more) (map-set_same f zs i x y at same)

-- ---- trackers

-- Trackers that fired stay so.
fired_stay : (s later : State) (client : ℕ) (call : Call) (reply : Reply) → Makes s later (client, call, reply) → (n : ℕ) →
    has_fired s.trackers.fired n ≡ true → has_fired later.trackers.fired n ≡ true
fired_stay s later client call reply makes n fired =
    ap (λ (t : TrackerTable). has_fired t.fired n) makes.after.trackers
    ∙ (list_any-append (λ (f : Fired). f.tracker == n) makes.after.attached.fired now
    ∙ or_left (has_fired makes.after.attached.fired n) (has_fired now n)
    (by (tracker_by s.forest call reply) makes.after.attached makes.after.gains))
  where
    -- those that fire now
    now : List Fired
    now = firings (world_in makes.after.worked (total later.holds)) later.events makes.after.attached.unfired

    -- by cases: one is attached, or none
    by : (o : Option Waiting) (t : TrackerTable) → GainsTracker s.trackers o t → has_fired t.fired n ≡ true
    by None t same = ap (λ (x : TrackerTable). has_fired x.fired n) same ∙ fired
    by (Some w) t gains = ap (λ (x : TrackerTable). has_fired x.fired n) gains.next ∙ fired

-- So a step that was passed can be passed later too.
looks_later : (s later : State) → ((n : ℕ) → has_fired s.trackers.fired n ≡ true → has_fired later.trackers.fired n ≡ true) →
    (known : Known) (next : Planned) → polls s.trackers.fired known next ≡ false → polls later.trackers.fired known next ≡ false
looks_later s later stay known next = by next.waits (is_silent s.trackers.fired known next.step)
    (is_silent later.trackers.fired known next.step) (step next.step)
  where
    -- by cases on what the label stands for
    from : (o : Option ℕ) → option_map_or (λ n. not (has_fired s.trackers.fired n)) o false ≡ false →
        option_map_or (λ n. not (has_fired later.trackers.fired n)) o false ≡ false
    from None is = refl
    from (Some n) is = ap not (stay n (back (has_fired s.trackers.fired n) is))
      where
        -- by cases
        back : (b : Bool) → not b ≡ false → b ≡ true
        back true none = refl
        back false none = sym none

    -- by the step
    step : (x : Step) → is_silent s.trackers.fired known x ≡ false → is_silent later.trackers.fired known x ≡ false
    step (Step.Ask r) is = refl
    step (Step.Poll label) is = from (known.trackers label) is

    -- by whether it waits
    by : (waits a b : Bool) → (a ≡ false → b ≡ false) → waits && a ≡ false → waits && b ≡ false
    by true a b on is = on is
    by false a b on is = refl

-- ---- passes

module _ (setup : Setup) where
  -- An actor passes a step in one way.
  one_pass : (actor : ℕ) (old a b : Position) → Passes setup actor old a → Passes setup actor old b → a ≡ b
  one_pass actor old a b p q =
      p.after ∙ (ap (λ (stage : Stage). record old { stages = slice_set old.stages actor (passed stage) })
      (some-injective p.stage q.stage (sym p.at ∙ q.at)) ∙ sym q.after)

  -- Two actors pass in any order.
  two_pass : (i j : ℕ) (old a b : Position) → (i ≡ j → ⊥) → Passes setup i old a → Passes setup j old b →
      (c : Position) × Passes setup j a c × Passes setup i b c
  two_pass i j old a b apart p q = (
    both,
    subst (λ (x : Position). Passes setup j x both) (sym p.after) (record {
      stage = q.stage;
      next = q.next;
      at = get-other old.stages i j (passed p.stage) apart ∙ q.at;
      step = q.step;
      silent = q.silent;
      looks = q.looks;
      after = refl;
    }),
    subst (λ (x : Position). Passes setup i x both) (sym q.after) (record {
      stage = p.stage;
      next = p.next;
      at = get-other old.stages j i (passed q.stage) (λ is. apart (sym is)) ∙ p.at;
      step = p.step;
      silent = p.silent;
      looks = p.looks;
      after = ap (λ (ss : List Stage). record old { stages = ss }) (set_comm old.stages i j (passed p.stage) (passed q.stage) apart);
    }),
  )
    where
      -- both have passed
      both : Position
      both = record old { stages = slice_set (slice_set old.stages i (passed p.stage)) j (passed q.stage) }

  -- By induction on the passes: the actor's own is among them, since it rests then.
  pub past : (p r : Position) → PassOn setup p r → (actor : ℕ) → Rests setup r actor → (next : Position) → Passes setup actor p next →
      PassOn setup next r
  past _ _ (PassOn.Stays p) actor rests next pass = absurd (rests next pass)
  past _ _ (PassOn.Further j p mid r first on) actor rests next pass = by (either_way (actor == j)) (past mid r on actor rests)
    where
      -- by whether it is this one
      by : (actor == j ≡ true) ⊎ (actor == j ≡ false) → ((x : Position) → Passes setup actor mid x → PassOn setup x r) →
          PassOn setup next r
      by (inl same) more = subst (λ (x : Position). PassOn setup x r)
          (one_pass actor p mid next (subst (λ (k : ℕ). Passes setup k p mid) (sym (eqb-true actor j same)) first) pass) on
      by (inr other) more =
          let both = two_pass actor j p next mid (λ is. both_ways (actor == j) (eq-eqb actor j is) other) pass first in
          PassOn.Further j next both.0 r both.1 (more both.0 both.2)

  -- Where an actor passes a step, and actors pass on: the step is among those, or can be passed behind them.
  pub meets : (p r : Position) → PassOn setup p r → (actor : ℕ) (next : Position) → Passes setup actor p next →
      PassOn setup next r ⊎ ((later : Position) × Passes setup actor r later × PassOn setup next later)
  meets _ _ (PassOn.Stays p) actor next pass = inr (next, pass, PassOn.Stays next)
  meets _ _ (PassOn.Further j p mid r first on) actor next pass = by (either_way (actor == j)) (meets mid r on actor)
    where
      -- it is carried over the passes behind the first
      more : (both : Position) → Passes setup j next both →
          PassOn setup both r ⊎ ((later : Position) × Passes setup actor r later × PassOn setup both later) →
          PassOn setup next r ⊎ ((later : Position) × Passes setup actor r later × PassOn setup next later)
      more both step (inl on) = inl (PassOn.Further j next both r step on)
      more both step (inr so) = inr (so.0, so.1, PassOn.Further j next both so.0 step so.2)

      -- by whether it is the first
      by : (actor == j ≡ true) ⊎ (actor == j ≡ false) → ((x : Position) → Passes setup actor mid x →
          PassOn setup x r ⊎ ((later : Position) × Passes setup actor r later × PassOn setup x later)) →
          PassOn setup next r ⊎ ((later : Position) × Passes setup actor r later × PassOn setup next later)
      by (inl same) on_more = inl (subst (λ (x : Position). PassOn setup x r)
          (one_pass actor p mid next (subst (λ (k : ℕ). Passes setup k p mid) (sym (eqb-true actor j same)) first) pass) on)
      by (inr other) on_more =
          let both = two_pass actor j p next mid (λ is. both_ways (actor == j) (eq-eqb actor j is) other) pass first in
          more both.0 both.1 (on_more both.0 both.2)

  -- Passes leave the core.
  pub same_core : (p r : Position) → PassOn setup p r → r.core ≡ p.core
  same_core _ _ (PassOn.Stays p) = refl
  same_core _ _ (PassOn.Further actor p mid r first on) = same_core mid r on ∙ ap (λ (x : Position). x.core) first.after

  -- And the nodes that fell.
  same_falls : (p r : Position) → PassOn setup p r → r.falls ≡ p.falls
  same_falls _ _ (PassOn.Stays p) = refl
  same_falls _ _ (PassOn.Further actor p mid r first on) = same_falls mid r on ∙ ap (λ (x : Position). x.falls) first.after

  -- Behind passes a call takes the same nodes.
  fell_on : (p r new : Position) → PassOn setup p r → (stages : List Stage) (client : ℕ) (call : Call) (reply : Reply) →
      Fell p new client call reply → Fell r (record new { stages = stages }) client call reply
  fell_on p r new on stages client call reply fell = record {
    marks = fell.marks;
    are = subst (λ (s : State). AreStages s new.core client call reply fell.marks) (sym (same_core p r on)) fell.are;
    falls = fell.falls ∙ ap (λ (falls : List GoneNode). falls ++ flat_map falls_at fell.marks) (sym (same_falls p r on));
  }

  -- Who leaves passes nothing, so all that leave began to where they did.
  pub same_left : (p r : Position) → PassOn setup p r → map left_at r.stages ≡ map left_at p.stages
  same_left _ _ (PassOn.Stays p) = refl
  same_left _ _ (PassOn.Further actor p mid r first on) =
      same_left mid r on
      ∙ (ap (λ (x : Position). map left_at x.stages) first.after
      ∙ map-set_same left_at p.stages actor first.stage (passed first.stage) first.at (by first.stage.vanish first.step))
    where
      -- by whether it leaves
      by : (o : Option Leave) →
          cond (is_some o) None (option_and_then (λ (plan : Plan). slice_get (steps_of plan) first.stage.at) (slice_get setup.plans actor))
          ≡ Some first.next → option_map (λ (l : Leave). first.stage.at + 1) o ≡ option_map (λ (l : Leave). first.stage.at) o
      by None step = refl
      by (Some l) step = cc

  -- What others pass before the turn of an actor they can pass behind it.
  carry : (p r : Position) → PassOn setup p r → (actor : ℕ) → Rests setup p actor → (later : State) (new : Stage)
      (fell : List GoneNode) →
      ((n : ℕ) → has_fired p.core.trackers.fired n ≡ true → has_fired later.trackers.fired n ≡ true) →
      PassOn setup (record { core = later; stages = slice_set p.stages actor new; falls = fell })
      (record { core = later; stages = slice_set r.stages actor new; falls = fell })
  carry _ _ (PassOn.Stays p) actor rests later new fell stay =
      PassOn.Stays (record { core = later; stages = slice_set p.stages actor new; falls = fell })
  carry _ _ (PassOn.Further j p mid r first on) actor rests later new fell stay =
      PassOn.Further j (record { core = later; stages = slice_set p.stages actor new; falls = fell })
      (record { core = later; stages = slice_set mid.stages actor new; falls = fell })
      (record { core = later; stages = slice_set r.stages actor new; falls = fell })
      (record {
        stage = first.stage;
        next = first.next;
        at = get-other p.stages actor j new here.0 ∙ first.at;
        step = first.step;
        silent = first.silent;
        looks = looks_later p.core later stay first.stage.known first.next first.looks;
        after = ap (λ (x : Position). record { core = later; stages = slice_set x.stages actor new; falls = fell }) first.after
            ∙ ap (λ (ss : List Stage). record { core = later; stages = ss; falls = fell })
            (sym (set_comm p.stages actor j new (passed first.stage) here.0));
      })
      (carry mid r on actor here.2 later new fell
      (subst (λ (s : State). (n : ℕ) → has_fired s.trackers.fired n ≡ true → has_fired later.trackers.fired n ≡ true)
      (sym (ap (λ (x : Position). x.core) first.after)) stay))
    where
      -- the actor is another one, and rests
      here : (actor ≡ j → ⊥) × (slice_get mid.stages actor ≡ slice_get p.stages actor) × Rests setup mid actor
      here = rests_stay setup p mid j actor first rests

  -- ---- turns

  -- An actor that has a call to make passes nothing.
  call_rests : (p : Position) (actor : ℕ) → Asks setup actor p → Rests setup p actor
  call_rests p actor a new pass =
      let same : a.stage ≡ pass.stage = some-injective a.stage pass.stage (sym a.at ∙ pass.at) in
      let next : a.next ≡ pass.next = some-injective a.next pass.next
      (sym a.step ∙ (ap (next_step setup.plans actor) same ∙ pass.step)) in
      let none : Some a.asked ≡ None = sym a.call ∙ ((λ i. step_call setup.clients (same i).known (next i).step) ∙ pass.silent) in
      cc

  -- The call can be made behind passes of the others, who can pass behind it.
  pub call_on : (p r : Position) → PassOn setup p r → (actor : ℕ) (new : Position) → Calls setup actor p new →
      (later : Position) × Calls setup actor r later × PassOn setup new later
  call_on p r on actor new c = (
    record new { stages = slice_set r.stages actor (stage_after c.asks.stage c.asks.next c.asks.asked c.reply) },
    record {
      asks = record {
        stage = c.asks.stage;
        next = c.asks.next;
        asked = c.asks.asked;
        client = c.asks.client;
        at = (rests_on setup p r on actor (call_rests p actor c.asks)).0 ∙ c.asks.at;
        step = c.asks.step;
        call = c.asks.call;
        caller = c.asks.caller;
      };
      reply = c.reply;
      made = subst (λ (s : State). Makes s new.core (c.asks.client, c.asks.asked.call, c.reply)) (sym (same_core p r on)) c.made;
      waits = c.waits;
      stages = refl;
      fell = fell_on p r new on (slice_set r.stages actor (stage_after c.asks.stage c.asks.next c.asks.asked c.reply)) c.asks.client
          c.asks.asked.call c.reply c.fell;
    },
    subst (λ (ss : List Stage). PassOn setup (record new { stages = ss })
        (record new { stages = slice_set r.stages actor (stage_after c.asks.stage c.asks.next c.asks.asked c.reply) }))
        (sym c.stages)
        (carry p r on actor (call_rests p actor c.asks) new.core (stage_after c.asks.stage c.asks.next c.asks.asked c.reply) new.falls
        (fired_stay p.core new.core c.asks.client c.asks.asked.call c.reply c.made)),
  )

  -- And so can the call by which an actor leaves.
  pub leave_on : (p r : Position) → PassOn setup p r → (actor : ℕ) (new : Position) → Leaves setup actor p new →
      (later : Position) × Leaves setup actor r later × PassOn setup new later
  leave_on p r on actor new l = (
    record new { stages = slice_set r.stages actor (left l.goes.stage l.reply) },
    record {
      goes = record {
        stage = l.goes.stage;
        call = l.goes.call;
        client = l.goes.client;
        at = there.0 ∙ l.goes.at;
        by = l.goes.by;
        caller = l.goes.caller;
        may = ap (λ (begun : List (Option ℕ)). is_some l.goes.stage.vanish || setup.may_leave begun actor l.goes.stage.at)
            (same_left p r on)
            ∙ l.goes.may;
        rests = there.1;
      };
      reply = l.reply;
      made = subst (λ (s : State). Makes s new.core (l.goes.client, l.goes.call, l.reply)) (sym (same_core p r on)) l.made;
      stages = refl;
      fell = fell_on p r new on (slice_set r.stages actor (left l.goes.stage l.reply)) l.goes.client l.goes.call l.reply l.fell;
    },
    subst (λ (ss : List Stage). PassOn setup (record new { stages = ss })
        (record new { stages = slice_set r.stages actor (left l.goes.stage l.reply) })) (sym l.stages)
        (carry p r on actor l.goes.rests new.core (left l.goes.stage l.reply) new.falls
        (fired_stay p.core new.core l.goes.client l.goes.call l.reply l.made)),
  )
    where
      -- the actor is where it was, and rests
      there : (slice_get r.stages actor ≡ slice_get p.stages actor) × Rests setup r actor
      there = rests_on setup p r on actor l.goes.rests
