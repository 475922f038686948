-- The names that several proofs of this crate cite, passed on from one place. Declares nothing.
pub use Rattle.std.proofs.Common.{List, arith, get_or, length, take, ◌++◌, ◌<◌, ◌≡◌}
pub use Rattle.std.proofs.lemmas.Grind.{common_steps}
pub use Rattle.std.proofs.lemmas.Result.{on_ok_weaker}
pub use Rattle.std.specs.List.{flat_map}
pub use Rattle.std.specs.Prelude.{codes, decimal}
pub use Rattle.event_texts.specs.Called.{Calls}
pub use Rattle.forest_store.specs.declared.node.Node.{Node}
pub use Rattle.picture_dot.specs.DotPictures.{box_text, dot_tree, freed_row, link_to}
unfoldable pub use Rattle.picture_dot.specs.DotPictures.{cells_text, held_row}
pub use Rattle.picture_model.proofs.Loops.{one-more}
pub use Rattle.picture_model.proofs.Texts.{after, last}
pub use Rattle.picture_model.specs.Travels.{FindsTravels}
pub use Rattle.picture_model.specs.declared.failure_view.Travel.{Travel}
pub use Rattle.script_labels.specs.Names.{Names}
pub use Rattle.script_labels.specs.Tables.{Keeps}
