-- Which turns are left in plays that are alike.
use Rattle.alike_plays.proofs.Common.{AreAlikeAhead, AreAlikePlays, Asks, Bool, Call, KnownCall, None, Option, Position, Setup, Some}
use Rattle.alike_plays.proofs.Common.{Stage, StepCall, ahead, ahead_of, answer, ap, asked_renamed, call_renamed, given, is_some, is_wait}
use Rattle.alike_plays.proofs.Common.{leaves_by, map-Some, no_key, option_map, readings_of, refl, slice_get, step_call, subst, sym, true}
use Rattle.alike_plays.proofs.Common.{ℕ, ◌&&◌, ◌∙◌, ◌≡◌, ◌≤◌}
use Rattle.alike_plays.proofs.Ahead.{leaves-same}
use Rattle.alike_plays.proofs.AheadActors.{both_at, seen_ahead}
use Rattle.alike_plays.proofs.AheadTurns.{asks_from, asks_to}
use Rattle.alike_plays.proofs.Asking.{asks-alike}
use Rattle.alike_plays.proofs.VanishLaws.{leaves-alike, next-alike}
use Rattle.alike_plays.proofs.Places.{all_back}
use Rattle.alike_plays.proofs.Reaching.{IsSeen, asks_known}
use Rattle.alike_plays.proofs.Turning.{AskAlike, asks_both, names_old}
use Rattle.alike_plays.proofs.Waiting.{waits_alike}

module _ (setup : Setup) (actor : ℕ) where
  -- ---- plays that are alike

  module _ (one other : Position) (alike : AreAlikePlays one other) where
    -- The first asks for what the second asks for.
    asks_back : Asks setup actor other → Asks setup actor one
    asks_back b =
        let a = all_back alike.to alike.id alike.number one.stages other.stages alike.stages actor b.stage b.at in
        let asked = map-Some (asked_renamed alike.to alike.id) (step_call setup.clients a.0.known b.next.step) b.asked
        (sym (asks-alike alike.to alike.id alike.number a.0.known b.stage.known a.2.known setup.clients b.next.step) ∙ b.call) in
        record {
          stage = a.0;
          next = b.next;
          asked = asked.0;
          client = b.client;
          at = a.1;
          step = sym (next-alike alike.to alike.id alike.number a.0 b.stage a.2 setup.plans actor) ∙ b.step;
          call = asked.1;
          caller = b.caller;
        }

    -- Both have to wait, or none has.
    waits_both : IsSeen one → IsSeen other → (a : Asks setup actor one) (b : Asks setup actor other) →
        (b.next.waits && is_wait (answer other.core.limits (readings_of other.core) b.client no_key b.asked.call))
        ≡ (a.next.waits && is_wait (answer one.core.limits (readings_of one.core) a.client no_key a.asked.call))
    waits_both seen seen_too a b =
        (λ i. (old.next i).waits
        && is_wait (answer other.core.limits (readings_of other.core) (old.client i) no_key (old.asked i).call))
        ∙ ap (λ (w : Bool). a.next.waits && w)
        (waits_alike alike.to alike.id alike.number alike.keeps alike.kept alike.counted one.core other.core seen.history seen_too.history
        seen.shows seen_too.shows alike.cores a.client a.asked.call
        (names_old alike.to alike.id one.core other.core a.asked.call (asks_known setup one seen actor a)
        (subst (λ (x : StepCall). KnownCall (λ key. given other.core.forest key ≡ true) (λ i. i ≤ other.core.events) x.call) old.asked
        (asks_known setup other seen_too actor b)))
        no_key)
      where
        -- both ask for the same
        old : AskAlike setup actor one other alike.to alike.id alike.number a b
        old = asks_both setup actor one other alike.to alike.id alike.number alike.stages a b

  -- ---- but for what lies behind actors that leave

  module _ (early : ℕ → ℕ → Bool) (one other : Position) (like : AreAlikeAhead early one other) where
    -- The first asks for what the second asks for.
    pub asks_behind : Asks setup actor other → Asks setup actor one
    asks_behind b = asks_from setup actor one (asks_back (ahead one) (ahead other) like.alike (asks_to setup actor other b))

    -- Both have to wait, or none has.
    pub waits_ahead : IsSeen one → IsSeen other → (a : Asks setup actor one) (b : Asks setup actor other) →
        (b.next.waits && is_wait (answer other.core.limits (readings_of other.core) b.client no_key b.asked.call))
        ≡ (a.next.waits && is_wait (answer one.core.limits (readings_of one.core) a.client no_key a.asked.call))
    waits_ahead seen seen_too a b = waits_both (ahead one) (ahead other) like.alike (seen_ahead one seen) (seen_ahead other seen_too)
        (asks_to setup actor one a) (asks_to setup actor other b)

-- Both have a call left by which they leave, or none has.
pub leaves_left : (early : ℕ → ℕ → Bool) (actor : ℕ) (one other : Position) → AreAlikeAhead early one other → (stage same : Stage) →
    slice_get one.stages actor ≡ Some stage → slice_get other.stages actor ≡ Some same →
    is_some (leaves_by same) ≡ is_some (leaves_by stage)
leaves_left early actor one other like stage same at at_too =
    ap is_some (sym (leaves-same same)
    ∙ leaves-alike like.alike.to like.alike.id like.alike.number (ahead_of stage) (ahead_of same)
    (both_at early actor one other like stage same at at_too))
    ∙ (from (leaves_by (ahead_of stage)) ∙ ap is_some (leaves-same stage))
  where
    -- by cases on the call
    from : (o : Option Call) → is_some (option_map (call_renamed like.alike.to like.alike.id) o) ≡ is_some o
    from None = refl
    from (Some call) = refl
