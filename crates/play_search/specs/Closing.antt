-- The ways to the values that a search met, out of which no turn leads.
use Rattle.std.specs.Prelude.{◌≡◌, ◌<◌, ℕ, zero, suc, ◌==◌, ◌/◌, ◌%◌, if◌then◌else◌, List, [], ◌∷◌, ◌++◌, length, slice_get}
use Rattle.std.specs.Option.{option_map_or}
use Rattle.sm_names.specs.Elements.{In}
use Rattle.explore_model.specs.declared.plan.Plan.{Plan}
use Rattle.explore_model.specs.declared.found.Turn.{Turn}
use Rattle.actor_plays.specs.Positions.{Position, Reached, Rests, Setup}
use Rattle.alike_plays.specs.Ahead.{AreAlikeAhead}
use Rattle.alike_plays.specs.Ways.{AreClosedWays, IsAt, IsCallTried, IsLeaveTried}
use Rattle.play_search.specs.declared.graph.Row.{Row}
use Rattle.play_search.specs.declared.replay.Setting.{Setting}
use Rattle.explore_model.specs.declared.found.Vanishing.{Vanishing}
use Rattle.play_search.specs.Searches.{setup_of}
use Rattle.play_search.specs.Vanishings.{began_early}

-- the turn of this number: two for each actor
abbrev pub turn_numbered : ℕ → Turn
turn_numbered code = if code % 2 == 0 then Turn.Step (code / 2) else Turn.Leave (code / 2)

-- the turns by which the value of this row was met first, behind so many rows at most
abbrev pub way_behind : List Row → ℕ → ℕ → List Turn
way_behind rows zero at = []
way_behind rows (suc most) at =
    if at == 0 then []
    else option_map_or (λ (row : Row). way_behind rows most row.parent ++ turn_numbered row.turn ∷ []) (slice_get rows at) []

-- the way to the value of this row
abbrev pub way_to : List Row → ℕ → List Turn
way_to rows at = way_behind rows (length rows) at

-- the ways to the values of the first rows
abbrev pub ways_first : List Row → ℕ → List (List Turn)
ways_first rows zero = []
ways_first rows (suc count) = way_to rows count ∷ ways_first rows count

-- the ways to all
abbrev pub ways_of : List Row → List (List Turn)
ways_of rows = ways_first rows (length rows)

-- plays of a search may stand for one another: they are alike, but for what lies behind actors that leave
abbrev pub AlikeIn : List Plan → Vanishing → Position → Position → Type 0
AlikeIn plans vanishing = AreAlikeAhead (began_early vanishing.at_end plans)

-- the position, at which all rest, is like one to which one of the ways leads
pub record IsBack (setup : Setup) (Like : Position → Position → Type 0) (ways : List (List Turn)) (p : Position) : Type 0 where
  pub way : List Turn
  pub met : In way ways
  pub row : Position
  pub is_at : IsAt setup way row
  pub alike : Like p row

-- the same in a search with these rows
abbrev pub IsBackIn : List Plan → Vanishing → Setting → List Row → Position → Type 0
IsBackIn plans vanishing setting rows p = IsBack (setup_of plans vanishing setting) (AlikeIn plans vanishing) (ways_of rows) p

-- the call of the actor's next step leads back from the value of this row, or has to wait
abbrev pub IsCallTriedIn : List Plan → Vanishing → Setting → List Row → ℕ → ℕ → Type 0
IsCallTriedIn plans vanishing setting rows at actor =
    IsCallTried (setup_of plans vanishing setting) (AlikeIn plans vanishing) (ways_of rows) (way_to rows at) actor

-- the call by which the actor leaves leads back from it
abbrev pub IsLeaveTriedIn : List Plan → Vanishing → Setting → List Row → ℕ → ℕ → Type 0
IsLeaveTriedIn plans vanishing setting rows at actor =
    IsLeaveTried (setup_of plans vanishing setting) (AlikeIn plans vanishing) (ways_of rows) (way_to rows at) actor

-- both do
abbrev pub AreTriedIn : List Plan → Vanishing → Setting → List Row → ℕ → ℕ → Type 0
AreTriedIn plans vanishing setting rows at actor =
    IsCallTriedIn plans vanishing setting rows at actor × IsLeaveTriedIn plans vanishing setting rows at actor

-- both of each of the first actors do
abbrev pub AreAllTriedIn : List Plan → Vanishing → Setting → List Row → ℕ → ℕ → Type 0
AreAllTriedIn plans vanishing setting rows at actors =
    (actor : ℕ) → actor < actors → AreTriedIn plans vanishing setting rows at actor

-- a play came to the value of the row, where the turns of all actors lead back
pub record IsRowTriedIn (plans : List Plan) (vanishing : Vanishing) (setting : Setting) (rows : List Row) (at : ℕ) : Type 0 where
  pub real : (p : Position) × IsAt (setup_of plans vanishing setting) (way_to rows at) p
  pub turns : AreAllTriedIn plans vanishing setting rows at (length plans)

-- no turn leads out of the ways to the values of these rows
abbrev pub AreClosedIn : List Plan → Vanishing → Setting → List Row → Type 0
AreClosedIn plans vanishing setting rows =
    AreClosedWays (setup_of plans vanishing setting) (AlikeIn plans vanishing) (ways_of rows)

-- each play in which all have passed what they can may be stood for by one that went one of so many ways
pub record AreAllMet (plans : List Plan) (vanishing : Vanishing) (setting : Setting) (count : ℕ) : Type 0 where
  pub ways : List (List Turn)
  pub count_is : length ways ≡ count
  pub all : (p : Position) → Reached (setup_of plans vanishing setting) p →
      ((actor : ℕ) → Rests (setup_of plans vanishing setting) p actor) → (way : List Turn) × In way ways
      × ((row : Position) × IsAt (setup_of plans vanishing setting) way row × AlikeIn plans vanishing p row)
