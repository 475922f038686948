-- Which actors may leave, and when.
use Rattle.std.specs.Prelude.{ℕ, zero, suc, Bool, true, false, ◌&&◌, ◌||◌, not, nat_le}
use Rattle.std.specs.Prelude.{nat_lt, if◌then◌else◌, List, [], ◌∷◌, ◌++◌, length, slice_get, Option, is_some}
use Rattle.std.specs.List.{list_all}
use Rattle.std.specs.Option.{option_map, option_map_or}
use Rattle.explore_model.specs.declared.plan.Plan.{Plan}
use Rattle.explore_model.specs.Plans.{steps_of}
use Rattle.actor_plays.specs.Plays.{Stage, leaves_by}
use Rattle.actor_plays.specs.Positions.{left_at}
use Rattle.alike_plays.specs.Ahead.{count_early}
use Rattle.explore_model.specs.declared.found.Vanishing.{Vanishing}

-- so many steps are all of the plan of this place
abbrev pub is_done : List Plan → ℕ → ℕ → Bool
is_done plans place at = option_map_or (λ (plan : Plan). nat_le (length (steps_of plan)) at) (slice_get plans place) true

-- the actor of this place leaves, and began to before its end
abbrev pub is_early : Bool → List Plan → ℕ → Stage → Bool
is_early at_end plans place stage = is_some stage.vanish && not (at_end && is_done plans place stage.at)

-- the same of the actor of a place among these
abbrev pub early_at : Bool → List Plan → List Stage → ℕ → Bool
early_at at_end plans stages place = option_map_or (is_early at_end plans place) (slice_get stages place) false

-- its place, if it is so
abbrev pub early_place : Bool → List Plan → List Stage → ℕ → List ℕ
early_place at_end plans stages place = if early_at at_end plans stages place then place ∷ [] else []

-- the places of those among the first actors that leave, and began to before their end
abbrev pub vanished_first : Bool → List Plan → List Stage → ℕ → List ℕ
vanished_first at_end plans stages zero = []
vanished_first at_end plans stages (suc count) = vanished_first at_end plans stages count ++ early_place at_end plans stages count

-- of all actors
abbrev pub vanished : Bool → List Plan → List Stage → List ℕ
vanished at_end plans stages = vanished_first at_end plans stages (length stages)

-- the actor of this place may leave before its end
abbrev pub may_vanish : List Bool → ℕ → Bool
may_vanish who place = option_map_or (λ (may : Bool). may) (slice_get who place) false

-- those of these places may all leave before their end, and they are not too many
abbrev pub is_allowed : Vanishing → List ℕ → Bool
is_allowed vanishing places = nat_le (length places) vanishing.most && list_all (may_vanish vanishing.who.now) places

-- the actor of this place has a call still to make by which it goes on to leave, or must leave since it is at its end
abbrev pub must_leave : Bool → List Plan → ℕ → Stage → Bool
must_leave at_end plans place stage =
    if is_some stage.vanish then is_some (leaves_by stage) else at_end && is_done plans place stage.at

-- an actor of this place that began to leave where so many steps were behind it did so before its end
abbrev pub began_early : Bool → List Plan → ℕ → ℕ → Bool
began_early at_end plans place at = not (at_end && is_done plans place at)

-- whether the actor of this place among these began so to leave, if there is one and it leaves
abbrev pub began_in : Bool → List Plan → List Stage → ℕ → Option (Option Bool)
began_in at_end plans stages place =
    option_map (λ (stage : Stage). option_map (began_early at_end plans place) (left_at stage)) (slice_get stages place)

-- the actor of this place, which has so many steps behind it, may begin to leave where so many left before their end
abbrev pub may_begin : Vanishing → List Plan → ℕ → ℕ → ℕ → Bool
may_begin vanishing plans early place at =
    (vanishing.at_end && is_done plans place at) || (may_vanish vanishing.who.now place && nat_lt early vanishing.most)

-- it may do so where these began to leave
abbrev pub may_leave : Vanishing → List Plan → List (Option ℕ) → ℕ → ℕ → Bool
may_leave vanishing plans begun place at =
    may_begin vanishing plans (count_early (began_early vanishing.at_end plans) begun) place at

-- an actor that is so far may leave, or go on to, where these are all actors
abbrev pub may_go : Vanishing → List Plan → List Stage → ℕ → Stage → Bool
may_go vanishing plans stages place stage =
    is_some stage.vanish || may_begin vanishing plans (length (vanished vanishing.at_end plans stages)) place stage.at
