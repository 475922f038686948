-- Positions out of which no turn leads, but to what is like one of them.
use Rattle.std.specs.Prelude.{◌≡◌, ◌⊎◌, ℕ, List, true, ◌&&◌}
use Rattle.sm_names.specs.Elements.{In}
use Rattle.actor_plays.specs.Positions.{Asks, Begins, Calls, Goes, HasToWait, Leaves, PassOn, Passes, Position, Reached, Rests, Setup}

-- actors pass on from here to a position that is like one of these
pub record IsMet (setup : Setup) (Like : Position → Position → Type 0) (rows : List Position) (p : Position) : Type 0 where
  pub rested : Position
  pub row : Position
  pub passes : PassOn setup p rested
  pub met : In row rows
  pub alike : Like rested row

-- a play came to what is like this one, where the call of the actor's next step leads back to one of these, or has to wait
pub record IsTried (setup : Setup) (Like : Position → Position → Type 0) (rows : List Position) (actor : ℕ) (p : Position) : Type 0
  where
    pub tried : Position
    pub reached : Reached setup tried
    pub alike : Like p tried
    pub turn : (asks : Asks setup actor tried) →
        HasToWait setup actor tried asks ⊎ ((new : Position) × Calls setup actor tried new × IsMet setup Like rows new)

-- a play came to what is like this one, where the call by which the actor leaves leads back to one of these
pub record IsLeft (setup : Setup) (Like : Position → Position → Type 0) (rows : List Position) (actor : ℕ) (p : Position) : Type 0
  where
    pub tried : Position
    pub reached : Reached setup tried
    pub alike : Like p tried
    pub turn : Goes setup actor tried → (new : Position) × Leaves setup actor tried new × IsMet setup Like rows new

-- plays come to each of these, and no actor has a step there that it can pass. From the start actors pass on to what is like
-- one of these, and so they do behind each turn of each of these, as it is tried there or at what is like it. Only a step that has
-- to wait makes no turn
pub record IsClosed (setup : Setup) (Like : Position → Position → Type 0) (rows : List Position) : Type 0 where
  pub real : (p : Position) → In p rows → Reached setup p
  pub rest : (p : Position) → In p rows → (actor : ℕ) → Rests setup p actor
  pub start : (p : Position) × Begins setup p × IsMet setup Like rows p
  pub calls : (p : Position) → In p rows → (actor : ℕ) → Asks setup actor p → IsTried setup Like rows actor p
  pub leaves : (p : Position) → In p rows → (actor : ℕ) → Goes setup actor p → IsLeft setup Like rows actor p

-- plays that are like one another do the same, and then are like one another again
pub record IsSimulation (setup : Setup) (Like : Position → Position → Type 0) : Type 0 where
  pub starts : (one other : Position) → Begins setup one → Begins setup other → Like one other
  pub composes : (one other third : Position) → Like one other → Like other third → Like one third
  pub passes : (actor : ℕ) (one other : Position) → Reached setup one → Reached setup other → Like one other → (new : Position) →
      Passes setup actor one new → (again : Position) × Passes setup actor other again × Like new again
  pub back : (actor : ℕ) (one other : Position) → Reached setup one → Reached setup other → Like one other → (again : Position) →
      Passes setup actor other again → (new : Position) × Passes setup actor one new × Like new again
  pub asks : (actor : ℕ) (one other : Position) → Reached setup one → Reached setup other → Like one other → Asks setup actor one →
      Asks setup actor other
  pub waits : (actor : ℕ) (one other new : Position) → Reached setup one → Reached setup other → Like one other →
      Calls setup actor one new → (b : Asks setup actor other) → HasToWait setup actor other b → ⊥
  pub calls : (actor : ℕ) (one other new again : Position) → Reached setup one → Reached setup other → Like one other →
      Calls setup actor one new → Calls setup actor other again → Like new again
  pub goes : (actor : ℕ) (one other : Position) → Reached setup one → Reached setup other → Like one other → Goes setup actor one →
      Goes setup actor other
  pub leaves : (actor : ℕ) (one other new again : Position) → Reached setup one → Reached setup other → Like one other →
      Leaves setup actor one new → Leaves setup actor other again → Like new again
