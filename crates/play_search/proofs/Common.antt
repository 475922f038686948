-- The names that several proofs of this crate cite, passed on from one place. Declares nothing.
pub use Rattle.std.proofs.Common.{Bool, List, None, Ok, Option, Some, [], add-one, ap, arith, cond, false, inl, inr, is_some}
pub use Rattle.std.proofs.Common.{le_of_suc-le-suc, length, map, not, refl, slice_get, subst, suc, sym, take, true, zero, ℕ, ◌&&◌, ◌++◌}
pub use Rattle.std.proofs.Common.{◌+◌, ◌<◌, ◌∙◌, ◌∷◌, ◌≡◌, ◌≤◌}
pub use Rattle.std.proofs.Math.Nat.{eq-or-lt_of_le}
pub use Rattle.std.proofs.lemmas.List.{length-map}
pub use Rattle.std.proofs.lemmas.Option.{slice_get-map, slice_get_within}
pub use Rattle.std.specs.Option.{option_map, option_map_or}
pub use Rattle.std.specs.Prelude.{◌⊎◌}
pub use Rattle.actor_plays.proofs.PositionLaws.{all_rest}
pub use Rattle.actor_plays.specs.Leaves.{Leave}
pub use Rattle.actor_plays.specs.Moves.{HavePassed, IsOfSetup, TakesLeave, TakesTurn, may_go_at, position_of}
pub use Rattle.actor_plays.specs.Plays.{IsLeave, IsPlay, IsTurn, Stage, stage_of, stages_of}
pub use Rattle.actor_plays.specs.Positions.{Begins, Position, Reached, ReachedBy, Rests, Setup, left_at}
pub use Rattle.actor_plays.specs.declared.actor.Actor.{Actor}
pub use Rattle.actor_plays.specs.declared.play.Play.{Play}
pub use Rattle.actor_plays.specs.declared.play.Turned.{Turned}
pub use Rattle.alike_plays.proofs.Reaching.{reached_seen}
pub use Rattle.alike_plays.proofs.SameTurns.{same_turns, way_met}
pub use Rattle.alike_plays.specs.Ahead.{AreAlikeAhead, early_in}
pub use Rattle.alike_plays.specs.Ways.{IsAt}
pub use Rattle.explore_model.specs.Outcomes.{end_of}
pub use Rattle.explore_model.specs.declared.found.Found.{Found}
pub use Rattle.explore_model.specs.declared.found.Turn.{Turn}
pub use Rattle.explore_model.specs.declared.found.Vanishing.{Vanishing}
pub use Rattle.explore_model.specs.declared.plan.Plan.{Plan}
pub use Rattle.play_search.specs.Changes.{changes}
pub use Rattle.play_search.specs.Closing.{AlikeIn, AreAllMet, AreClosedIn, IsRowTriedIn, way_to, ways_of}
pub use Rattle.play_search.specs.Ends.{AreRowsEnded, IsOver, NoneIsMissing}
pub use Rattle.play_search.specs.Searches.{HaveNoTurn, IsFound, IsOnWay, IsReplay, IsWithin, is_made, setup_of}
pub use Rattle.play_search.specs.Vanishings.{began_early, began_in, early_at, is_done, is_early, may_begin, must_leave, vanished}
pub use Rattle.play_search.specs.Vanishings.{vanished_first}
pub use Rattle.play_search.specs.declared.graph.Row.{Row}
pub use Rattle.play_search.specs.declared.replay.Setting.{Setting}
pub use Rattle.sm_names.proofs.ListLaws.{In}
pub use Rattle.sm_names.proofs.SamenessLaws.{both_ways}
