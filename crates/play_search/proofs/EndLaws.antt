-- How plays end that are alike but for what lies behind actors that leave.
use Rattle.play_search.proofs.Common.{AreAlikeAhead, Bool, IsOver, Leave, List, None, Option, Plan, Position, Reached, Setup, Some, Stage}
use Rattle.play_search.proofs.Common.{[], ap, began_early, cond, early_at, early_in, false, is_done, is_early, is_some, left_at, length}
use Rattle.play_search.proofs.Common.{map, must_leave, not, option_map, option_map_or, reached_seen, refl, slice_get, slice_get-map, suc}
use Rattle.play_search.proofs.Common.{sym, true, vanished, vanished_first, zero, ℕ, ◌&&◌, ◌++◌, ◌∙◌, ◌∷◌, ◌≡◌}
use Rattle.actor_plays.specs.Plays.{leaves_by}
use Rattle.alike_plays.proofs.AheadActors.{both_at, both_leave, same_step}
use Rattle.alike_plays.proofs.Ending.{as_many, stage_behind}
use Rattle.alike_plays.proofs.TurnsLeft.{asks_behind, leaves_left, waits_ahead}

module _ (early : ℕ → ℕ → Bool) (p r : Position) (like : AreAlikeAhead early p r) where
  -- An actor must leave in both, or in none.
  must_same : (at_end : Bool) (plans : List Plan) (place : ℕ) (stage same : Stage) → slice_get p.stages place ≡ Some stage →
      slice_get r.stages place ≡ Some same → must_leave at_end plans place same ≡ must_leave at_end plans place stage
  must_same at_end plans place stage same at at_too =
      let both = both_at early place p r like stage same at at_too in
      ap (λ (left : Bool). cond left (is_some (leaves_by same)) (at_end && is_done plans place same.at))
      (both_leave early place p r like stage same both)
      ∙ by (is_some stage.vanish) (same_step early place p r like stage same both)
    where
      -- by whether it leaves
      by : (left : Bool) → (left ≡ false → same.at ≡ stage.at) →
          cond left (is_some (leaves_by same)) (at_end && is_done plans place same.at)
          ≡ cond left (is_some (leaves_by stage)) (at_end && is_done plans place stage.at)
      by true there = leaves_left early place p r like stage same at at_too
      by false there = ap (λ (n : ℕ). at_end && is_done plans place n) (there refl)

  -- If the first is over, the second is.
  pub over_alike : (at_end : Bool) (setup : Setup) → Reached setup p → Reached setup r → IsOver at_end setup p → IsOver at_end setup r
  over_alike at_end setup reached reached_too over = record {
    waits = λ actor b. let a = asks_behind setup actor early p r like b in
        waits_ahead setup actor early p r like (reached_seen setup p reached) (reached_seen setup r reached_too) a b
        ∙ over.waits actor a;
    stays = λ actor same at_too. let there = stage_behind early p r like actor same at_too in
        must_same at_end setup.plans actor there.0 same there.1 at_too ∙ over.stays actor there.0 there.1;
  }

-- By whether it leaves.
early_told : (at_end : Bool) (plans : List Plan) (stages : List Stage) (place : ℕ) →
    option_map_or (λ (x : Option Bool). option_map_or (λ (b : Bool). b) x false)
    (early_in (began_early at_end plans) (map left_at stages) place) false
    ≡ early_at at_end plans stages place
early_told at_end plans stages place =
    ap (λ (o : Option (Option ℕ)). option_map_or (λ (x : Option Bool). option_map_or (λ (b : Bool). b) x false)
    (option_map (option_map (began_early at_end plans place)) o) false) (slice_get-map left_at stages place)
    ∙ by (slice_get stages place)
  where
    -- by how far it is in leaving
    leaves : (at : ℕ) (o : Option Leave) →
        option_map_or (λ (b : Bool). b) (option_map (began_early at_end plans place) (option_map (λ (l : Leave). at) o)) false
        ≡ is_some o && not (at_end && is_done plans place at)
    leaves at None = refl
    leaves at (Some l) = refl

    -- by whether there is such an actor
    by : (o : Option Stage) → option_map_or (λ (x : Option Bool). option_map_or (λ (b : Bool). b) x false)
        (option_map (option_map (began_early at_end plans place)) (option_map left_at o)) false
        ≡ option_map_or (is_early at_end plans place) o false
    by None = refl
    by (Some stage) = leaves stage.at stage.vanish

module _ (at_end : Bool) (plans : List Plan) (p r : Position) (like : AreAlikeAhead (began_early at_end plans) p r) where
  -- The same ones of the first left before their end: by induction on the places.
  first_vanished : (count : ℕ) → vanished_first at_end plans r.stages count ≡ vanished_first at_end plans p.stages count
  first_vanished zero = refl
  first_vanished (suc count) = λ i. first_vanished count i ++ cond (one i) (count ∷ []) []
    where
      -- the one of this place
      one : early_at at_end plans r.stages count ≡ early_at at_end plans p.stages count
      one = sym (early_told at_end plans r.stages count)
          ∙ (ap (λ (o : Option (Option Bool)). option_map_or (λ (x : Option Bool). option_map_or (λ (b : Bool). b) x false) o false)
          (like.began count)
          ∙ early_told at_end plans p.stages count)

  -- The same of all.
  pub all_vanished : vanished at_end plans r.stages ≡ vanished at_end plans p.stages
  all_vanished = ap (vanished_first at_end plans r.stages) (as_many (began_early at_end plans) p r like) ∙ first_vanished (length p.stages)
