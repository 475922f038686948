-- The play that a record tells of, and how it ends.
use Rattle.std.specs.Prelude.{ℕ, ◌≡◌, ◌≤◌, List, ◌++◌}
use Rattle.std.specs.List.{All}
use Rattle.sm_names.specs.Marks.{Entry}
use Rattle.core_state.specs.Shown.{Shows}
use Rattle.explore_model.specs.declared.found.Turn.{Turn}
use Rattle.actor_plays.specs.Fates.{AreFalls}
use Rattle.actor_plays.specs.Plays.{Plays, first_clients, joins}
use Rattle.actor_plays.specs.Positions.{Position, Reached, Setup}

-- a play of these actors came here by just the events of this history, which its core shows; those nodes fell that its marks take
pub record IsPlayOf (setup : Setup) (history : List Entry) (p : Position) : Type 0 where
  pub turns : List Turn
  pub reached : Reached setup p
  pub plays : Plays setup.plans setup.clients turns history p.stages
  pub shows : Shows p.core history
  pub fell : AreFalls history p.falls

-- so many clients join before all other events, and these are theirs
pub record JoinsFirst (count : ℕ) (history : List Entry) : Type 0 where
  pub rest : List Entry
  pub split : history ≡ joins (first_clients count) ++ rest
  pub theirs : All (λ (e : Entry). (1 ≤ e.0) × (e.0 ≤ count)) rest
