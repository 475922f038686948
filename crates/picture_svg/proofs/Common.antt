-- The names that several proofs of this crate cite, passed on from one place. Declares nothing.
pub use Rattle.std.proofs.Common.{List, [], ap, append-nil, arith, false, length, map, max, sym, take, ℕ, ◌++◌, ◌∙◌, ◌≡◌}
pub use Rattle.std.proofs.lemmas.Grind.{common_steps}
pub use Rattle.std.proofs.lemmas.List.{map-append, nil_from_length}
pub use Rattle.std.proofs.lemmas.List.Elements.{filter-append}
pub use Rattle.std.proofs.lemmas.Result.{on_ok_weaker}
pub use Rattle.std.specs.List.{filter, flat_map, fold}
pub use Rattle.std.specs.Prelude.{codes}
pub use Rattle.event_texts.specs.Called.{Calls}
pub use Rattle.picture_layout.specs.Lengths.{capped_sum}
pub use Rattle.picture_model.proofs.Loops.{one-more}
pub use Rattle.picture_model.proofs.Texts.{after, last}
pub use Rattle.picture_model.specs.Travels.{FindsTravels}
pub use Rattle.picture_model.specs.declared.failure_view.Travel.{Travel}
pub use Rattle.picture_svg.specs.Bars.{Shown, bars_bottom, bars_text, has_index, shown_at, shown_in}
unfoldable pub use Rattle.picture_svg.specs.Bars.{shown_to}
pub use Rattle.picture_svg.specs.Elements.{attribute, look}
pub use Rattle.picture_svg.specs.Links.{box_link}
pub use Rattle.picture_svg.specs.SvgPictures.{fact_text, fires_bottom, held_cell, marks_bottom, svg_fires, svg_marks}
pub use Rattle.picture_svg.specs.Trees.{line_items, svg_box, svg_lines, svg_trees, trees_bottom, trees_right}
unfoldable pub use Rattle.picture_svg.specs.Trees.{svg_tree, tree_bottom}
pub use Rattle.picture_svg.specs.declared.elements.TheConstants.{MARGIN}
pub use Rattle.script_labels.specs.Names.{Names}
pub use Rattle.script_labels.specs.Tables.{Keeps}
