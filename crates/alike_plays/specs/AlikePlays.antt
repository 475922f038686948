-- Plays on cores that are alike but for names.
use Rattle.std.specs.Prelude.{ℕ, ⊤, List, [], ◌∷◌}
use Rattle.sm_names.specs.declared.keys.NodeKey.{NodeKey}
use Rattle.actor_plays.specs.Plays.{Stage}
use Rattle.actor_plays.specs.Positions.{Position}
use Rattle.alike_cores.specs.Alike.{KeepsIds}
use Rattle.alike_cores.specs.Renamed.{KeepsKeys}
use Rattle.alike_cores.specs.Cores.{AreAlikeCores}
use Rattle.alike_plays.specs.Actors.{AreAlikeStages}
use Rattle.alike_plays.specs.Falls.{FellAlike}

-- each actor of the second is where the one of its place in the first is, under other names
abbrev pub AreAlikeAll : (NodeKey → NodeKey) → (ℕ → ℕ) → (ℕ → ℕ) → List Stage → List Stage → Type 0
AreAlikeAll to id number [] [] = ⊤
AreAlikeAll to id number [] (other ∷ others) = ⊥
AreAlikeAll to id number (one ∷ ones) [] = ⊥
AreAlikeAll to id number (one ∷ ones) (other ∷ others) = AreAlikeStages to id number one other × AreAlikeAll to id number ones others

-- there are names under which the cores are alike, the actors, and what became of nodes that fell; no two names become one
pub record AreAlikePlays (one other : Position) : Type 0 where
  pub to : NodeKey → NodeKey
  pub id : ℕ → ℕ
  pub number : ℕ → ℕ
  pub keeps : KeepsKeys to
  pub kept : KeepsIds id
  pub counted : KeepsIds number
  pub cores : AreAlikeCores to id number one.core other.core
  pub stages : AreAlikeAll to id number one.stages other.stages
  pub fallen : FellAlike to one.falls other.falls
