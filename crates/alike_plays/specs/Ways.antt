-- Ways: the turns of plays, out of which no turn leads, but to what is like where one of them leads.
use Rattle.std.specs.Prelude.{◌≡◌, ◌⊎◌, ◌<◌, ℕ, List, length}
use Rattle.sm_names.specs.Elements.{In}
use Rattle.explore_model.specs.declared.found.Turn.{Turn}
use Rattle.actor_plays.specs.Positions.{Asks, Begins, Calls, Goes, HasToWait, Leaves, PassOn, Position, ReachedBy, Rests, Setup}

-- a play came here by this way, and all actors rest
pub record IsAt (setup : Setup) (way : List Turn) (p : Position) : Type 0 where
  pub reached : ReachedBy setup way p
  pub rests : (actor : ℕ) → Rests setup p actor

-- actors pass on from here to a position that is like one to which one of these ways leads
pub record LeadsBack (setup : Setup) (Like : Position → Position → Type 0) (ways : List (List Turn)) (p : Position) : Type 0 where
  pub rested : Position
  pub passes : PassOn setup p rested
  pub way : List Turn
  pub met : In way ways
  pub row : Position
  pub is_at : IsAt setup way row
  pub alike : Like rested row

-- where the way leads, the call of the actor's next step leads back to one of these ways, or has to wait
pub record IsCallTried (setup : Setup) (Like : Position → Position → Type 0) (ways : List (List Turn)) (way : List Turn) (actor : ℕ)
    : Type 0 where
  pub tried : Position
  pub is_at : IsAt setup way tried
  pub turn : (asks : Asks setup actor tried) →
      HasToWait setup actor tried asks ⊎ ((new : Position) × Calls setup actor tried new × LeadsBack setup Like ways new)

-- where the way leads, the call by which the actor leaves leads back to one of these ways
pub record IsLeaveTried (setup : Setup) (Like : Position → Position → Type 0) (ways : List (List Turn)) (way : List Turn) (actor : ℕ)
    : Type 0 where
  pub tried : Position
  pub is_at : IsAt setup way tried
  pub turn : Goes setup actor tried → (new : Position) × Leaves setup actor tried new × LeadsBack setup Like ways new

-- from a start actors pass on to what is like where one of these ways leads, and so they do behind each turn of each of them
pub record AreClosedWays (setup : Setup) (Like : Position → Position → Type 0) (ways : List (List Turn)) : Type 0 where
  pub start : (p : Position) × Begins setup p × LeadsBack setup Like ways p
  pub real : (way : List Turn) → In way ways → (p : Position) × IsAt setup way p
  pub calls : (way : List Turn) → In way ways → (actor : ℕ) → actor < length setup.clients → IsCallTried setup Like ways way actor
  pub leaves : (way : List Turn) → In way ways → (actor : ℕ) → actor < length setup.clients → IsLeaveTried setup Like ways way actor
