-- A record of actors that all vanished is a play in which no actor has another turn.
use Rattle.thread_runs.proofs.Common.{Bool, Call, Entry, IsPlayOf, Leads, List, Makes, None, Option, Plan, Planned, Position, Reply}
use Rattle.thread_runs.proofs.Common.{Setup, Some, Stage, State, [], ap, append-nil, append_assoc, arith, done_rests, eq-eqb, eqb-true}
use Rattle.thread_runs.proofs.Common.{false, if◌then◌else◌, inl, inr, is_some, leaves_by, ne_eqb, next_step, option_and_then, refl}
use Rattle.thread_runs.proofs.Common.{slice_get, some-injective, steps_of, subst, sym, true, ℕ, ◌++◌, ◌+◌, ◌<◌, ◌==◌, ◌∙◌, ◌∷◌, ◌≡◌, ◌≤◌}
use Rattle.std.proofs.lemmas.Bool.{cases_lt, eqb-false}
use Rattle.actor_plays.specs.Positions.{Asks, Rests}
use Rattle.thread_runs.proofs.Comings.{ComesThrough}
use Rattle.thread_runs.proofs.RunPlays.{AreOf, HasGoneOn, calls_by, goes-on-by}

-- each of so many actors is there, and comes through by the calls that its client made in the record
abbrev pub AllComeThrough : Setup → ℕ → List Entry → Position → Type 0
AllComeThrough setup count rest p = (actor : ℕ) → actor < count →
    (stage : Stage) × (slice_get p.stages actor ≡ Some stage) × ComesThrough setup actor stage (calls_by (actor + 1) rest)

-- there are no more actors
abbrev pub NoMore : ℕ → Position → Type 0
NoMore count p = (actor : ℕ) → count ≤ actor → slice_get p.stages actor ≡ None

-- a play came by this history to this core, and there each of so many actors is at its end
pub record HasPlayed (setup : Setup) (count : ℕ) (history : List Entry) (last : State) : Type 0 where
  pub end : Position
  pub play : IsPlayOf setup history end
  pub core_is : end.core ≡ last
  pub all : AllComeThrough setup count [] end
  pub none : NoMore count end

-- what a record with one event more has of a client: that event first, if it is its own
its-own : (client : ℕ) (e : Entry) (more : List Entry) → e.0 ≡ client → calls_by client (e ∷ more) ≡ (e.1, e.2) ∷ calls_by client more
its-own client e more is =
    ap (λ (b : Bool). if b then (e.1, e.2) ∷ calls_by client more else calls_by client more) (eq-eqb e.0 client is)

-- what it has of any other
no-own : (client : ℕ) (e : Entry) (more : List Entry) → (e.0 ≡ client → ⊥) → calls_by client (e ∷ more) ≡ calls_by client more
no-own client e more other =
    ap (λ (b : Bool). if b then (e.1, e.2) ∷ calls_by client more else calls_by client more) (ne_eqb e.0 client other)

module _ (setup : Setup) (count : ℕ) (clients_are : (actor : ℕ) → actor < count → slice_get setup.clients actor ≡ Some (actor + 1)) where
  -- behind an event of an actor all come through by what is left of the record
  others-on : (history : List Entry) (e : Entry) (more : List Entry) (p : Position) (actor : ℕ) (core : State) → e.0 ≡ actor + 1 →
      (on : HasGoneOn setup history (actor + 1, e.1, e.2) p actor core (calls_by (actor + 1) more)) →
      AllComeThrough setup count (e ∷ more) p → AllComeThrough setup count more on.new
  others-on history e more p actor core is on all other less = by (actor == other) refl
    where
      -- by whether it is that actor
      by : (t : Bool) → (actor == other) ≡ t →
          (stage : Stage) × (slice_get on.new.stages other ≡ Some stage) × ComesThrough setup other stage (calls_by (other + 1) more)
      by true told = subst (λ (a : ℕ). (stage : Stage) × (slice_get on.new.stages a ≡ Some stage) ×
          ComesThrough setup a stage (calls_by (a + 1) more)) (eqb-true actor other told) (on.after, on.at, on.on)
      by false told =
          let apart : actor ≡ other → ⊥ = eqb-false actor other told in
          let old = all other less in (
            old.0,
            on.others other apart ∙ old.1,
            subst (ComesThrough setup other old.0) (no-own (other + 1) e more (λ same. apart (omega (arith, same, is)))) old.2,
          )

  -- event by event, by induction on the record
  pub plays-on : (rest history : List Entry) (p : Position) (last : State) → IsPlayOf setup history p → Leads p.core rest last →
      AreOf count rest → AllComeThrough setup count rest p → NoMore count p → HasPlayed setup count (history ++ rest) last
  plays-on [] history p last play leads of all none = record {
    end = p;
    play = subst (λ (h : List Entry). IsPlayOf setup h p) (sym (append-nil history)) play;
    core_is = sym leads;
    all = all;
    none = none;
  }
  plays-on (e ∷ more) history p last play leads of all none =
      subst (λ (h : List Entry). HasPlayed setup count h last) whole
      (plays-on more (history ++ (actor + 1, e.1, e.2) ∷ []) on.new last on.play
      (subst (λ (s : State). Leads s more last) (sym on.core_is) leads.2)
      of.1
      (others-on history e more p actor leads.0 is on all)
      (λ other past. on.others other (λ same. absurd (omega (arith, same, past, of.0.1))) ∙ none other past))
    where
      -- its actor
      actor : ℕ
      actor = of.0.0

      -- has the next client
      is : e.0 ≡ actor + 1
      is = of.0.2

      -- the core makes the call
      makes : Makes p.core leads.0 (actor + 1, e.1, e.2)
      makes = subst (λ (c : ℕ). Makes p.core leads.0 (c, e.1, e.2)) is leads.1

      -- so the actor's play goes on
      on : HasGoneOn setup history (actor + 1, e.1, e.2) p actor leads.0 (calls_by (actor + 1) more)
      on = goes-on-by setup actor (actor + 1) (clients_are actor of.0.1) (all actor of.0.1).0 ((e.1, e.2) ∷ calls_by (actor + 1) more)
          (subst (ComesThrough setup actor (all actor of.0.1).0) (its-own (actor + 1) e more is) (all actor of.0.1).2)
          history p play (all actor of.0.1).1 leads.0 makes

      -- the event stands behind the history
      whole : (history ++ (actor + 1, e.1, e.2) ∷ []) ++ more ≡ history ++ e ∷ more
      whole = append_assoc history ((actor + 1, e.1, e.2) ∷ []) more
          ∙ ap (λ (c : ℕ). history ++ (c, e.1, e.2) ∷ more) (sym is)

-- an actor that comes through by no call is gone, by induction on how it does
gone : (setup : Setup) (actor : ℕ) (stage : Stage) (told : List (Call × Reply)) → ComesThrough setup actor stage told → told ≡ [] →
    (is_some stage.vanish ≡ true) × (leaves_by stage ≡ None)
gone setup actor _ _ (ComesThrough.Skips stage next told step silent waits on) none =
    let later = gone setup actor _ told on none in
    let no : None ≡ Some next =
    sym (ap (λ (b : Bool). if b then None else option_and_then (λ (plan : Plan). slice_get (steps_of plan) stage.at)
    (slice_get setup.plans actor)) later.0) ∙ step in
    absurd (apart next no)
  where
    -- nothing is no step
    apart : (next : Planned) → None ≡ Some next → ⊥
    apart next is = cc
gone setup actor _ _ (ComesThrough.Asks stage next asked reply told step call waits on) none = cc
gone setup actor _ _ (ComesThrough.Leaves stage call reply told step by may on) none = cc
gone setup actor _ _ (ComesThrough.IsGone stage leaves none) is = (leaves, none)

module _ (setup : Setup) (count : ℕ) (p : Position) (all : AllComeThrough setup count [] p) (none : NoMore count p) where
  -- whoever is there is gone
  pub all-gone : (actor : ℕ) (stage : Stage) → slice_get p.stages actor ≡ Some stage →
      (is_some stage.vanish ≡ true) × (leaves_by stage ≡ None)
  all-gone actor stage at = elim (cases_lt actor count) [
    | inl less ↦ there (all actor less)
    | inr past ↦ absurd (apart (sym (none actor past) ∙ at))
  ]
    where
      -- nothing is no stage
      apart : None ≡ Some stage → ⊥
      apart is = cc

      -- it is at its end
      there : (s : Stage) × (slice_get p.stages actor ≡ Some s) × ComesThrough setup actor s [] →
          (is_some stage.vanish ≡ true) × (leaves_by stage ≡ None)
      there (s, found, on) = subst (λ (x : Stage). (is_some x.vanish ≡ true) × (leaves_by x ≡ None))
          (some-injective s stage (sym found ∙ at)) (gone setup actor s [] on refl)

  -- so nobody has a next step
  no-next : (actor : ℕ) (stage : Stage) → slice_get p.stages actor ≡ Some stage → next_step setup.plans actor stage ≡ None
  no-next actor stage at =
      ap (λ (b : Bool). if b then None else option_and_then (λ (plan : Plan). slice_get (steps_of plan) stage.at)
      (slice_get setup.plans actor)) (all-gone actor stage at).0

  -- all rest
  pub all-rest : (actor : ℕ) → Rests setup p actor
  all-rest actor = done_rests setup p actor (by (slice_get p.stages actor) refl)
    where
      -- by whether there is such an actor
      by : (o : Option Stage) → slice_get p.stages actor ≡ o → option_and_then (next_step setup.plans actor) o ≡ None
      by None is = refl
      by (Some stage) is = no-next actor stage is

  -- and nobody asks for anything
  pub none-asks : (actor : ℕ) → Asks setup actor p → ⊥
  none-asks actor asks = apart (sym (no-next actor asks.stage asks.at) ∙ asks.step)
    where
      -- nothing is no step
      apart : None ≡ Some asks.next → ⊥
      apart is = cc
