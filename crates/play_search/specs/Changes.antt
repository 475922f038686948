-- How many times the actor changes in a play.
use Rattle.std.specs.Prelude.{ℕ, suc, zero, Bool, true, not, ◌==◌, if◌then◌else◌, List, [], ◌∷◌, Option, None, Some}
use Rattle.explore_model.specs.declared.found.Turn.{Turn}

-- the actor whose turn it is
abbrev pub mover : Turn → ℕ
mover (Turn.Step actor) = actor
mover (Turn.Leave actor) = actor

-- the turn is another actor's than the last one, or there is none before it
abbrev pub is_other : Option ℕ → Turn → Bool
is_other None turn = true
is_other (Some last) turn = not (last == mover turn)

-- how many of these turns are another actor's than the turn before them, the first behind one of this actor
abbrev pub changes_behind : Option ℕ → List Turn → ℕ
changes_behind last [] = zero
changes_behind last (turn ∷ turns) =
    let more = changes_behind (Some (mover turn)) turns in if is_other last turn then suc more else more

-- how many times the actor changes in these turns, the first turn among them
abbrev pub changes : List Turn → ℕ
changes turns = changes_behind None turns
