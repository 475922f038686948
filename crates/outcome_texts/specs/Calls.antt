-- The calls of an outcome's play.
use Rattle.std.specs.Prelude.{ℕ, ◌+◌, ◌-◌, ◌==◌, Bool, false, List, [], ◌∷◌, ◌++◌, count_by, length, slice_get, take, Option, Some, Vec}
use Rattle.std.specs.Option.{option_and_then, option_map, option_map_or}
use Rattle.std.specs.declared.alloc.Global.{Global}
use Rattle.explore_model.specs.declared.found.Turn.{Turn}
use Rattle.explore_model.specs.declared.found.Found.{Found}
use Rattle.outcome_texts.specs.declared.calls.PlayCall.{PlayCall}

-- the turn is a step of the actor
abbrev pub is_step_of : ℕ → Turn → Bool
is_step_of actor (Turn.Step of) = of == actor
is_step_of actor (Turn.Leave of) = false

-- the place of the step of the actor's call of this number, in its plan
abbrev pub place_told : Found → ℕ → ℕ → Option ℕ
place_told found actor call =
    option_and_then (λ (places : Vec ℕ Global). slice_get places.items call) (slice_get found.steps.items actor)

-- the call of this number of those that the actor's steps make: it makes them in order
abbrev pub step_told : Found → ℕ → ℕ → Option PlayCall
step_told found actor call = option_map (λ (place : ℕ). PlayCall.Step actor place) (place_told found actor call)

-- the number of the call behind these turns: all clients join before
abbrev pub number_told : Found → List Turn → ℕ
number_told found before = length found.steps.items + length before

-- the call of the turn behind these
abbrev pub call_told : Found → List Turn → Turn → Option PlayCall
call_told found before (Turn.Step actor) = step_told found actor (count_by (is_step_of actor) before)
call_told found before (Turn.Leave actor) = Some (PlayCall.Leave actor (number_told found before))

-- the call, if there is one, as a list
abbrev pub at_most_one : Option PlayCall → List PlayCall
at_most_one call = option_map_or (λ (one : PlayCall). one ∷ []) call []

-- the calls of the turns that are left, behind these
abbrev pub calls_from : Found → List Turn → List Turn → List PlayCall
calls_from found before [] = []
calls_from found before (turn ∷ turns) =
    at_most_one (call_told found before turn) ++ calls_from found (before ++ turn ∷ []) turns

-- the calls of the play of an outcome in order, without the joins
abbrev pub calls_told : Found → List PlayCall
calls_told found = calls_from found [] found.turns.items

-- the call of the turn of this place
abbrev pub call_in : Found → ℕ → Option PlayCall
call_in found at = option_and_then (λ (turn : Turn). call_told found (take at found.turns.items) turn) (slice_get found.turns.items at)

-- the call of this number, joins among them
abbrev pub entry_call : Found → ℕ → Option PlayCall
entry_call found number = call_in found (number - length found.steps.items)
