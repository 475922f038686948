-- The names that several proofs of this crate cite, passed on from one place. Declares nothing.
pub use Rattle.std.proofs.Common.{Bool, None, Option, Some, [], ap, arith, false, get_or, is_some, length, map, refl, rules, subst, suc}
pub use Rattle.std.proofs.Common.{sym, true, ℕ, ◌&&◌, ◌*◌, ◌+◌, ◌<◌, ◌^◌, ◌∙◌, ◌≡◌}
pub use Rattle.std.proofs.Math.Nat.{pow-succ'}
pub use Rattle.std.proofs.lemmas.Result.{IfOk-weaker}
pub use Rattle.std.specs.List.{list_any}
pub use Rattle.std.specs.Option.{option_map, option_or}
pub use Rattle.buffer_holds.specs.Counts.{total}
pub use Rattle.core_state.proofs.handles.ToOpen.{all_to_open, kept_from, none_kept}
pub use Rattle.core_state.proofs.theorem.EventParts.{after, step_answers, step_follows}
pub use Rattle.core_state.proofs.theorem.Idle.{further, idle_follows, parts_of}
pub use Rattle.core_state.proofs.theorem.Keeps.{core_known}
pub use Rattle.core_state.proofs.views.Shown.{collection_shown}
pub use Rattle.core_state.specs.Reads.{readings_of, to_open_in}
pub use Rattle.core_state.specs.Shown.{ShowsBut, recalling}
pub use Rattle.core_state.specs.State.{State}
pub use Rattle.core_state.specs.Tasks.{with_key, work_in}
pub use Rattle.core_state.specs.Theorem.{GoesOn, entries}
pub use Rattle.core_state.specs.Whole.{IsCore}
pub use Rattle.forest_store.specs.Forest.{collection_at, node_at}
pub use Rattle.sm_names.specs.Answers.{is_at_limit, set_of}
pub use Rattle.sm_names.specs.declared.keys.BufferName.{BufferName}
pub use Rattle.sm_names.specs.declared.keys.HeldBuffer.{HeldBuffer}
pub use Rattle.sm_names.specs.declared.keys.Interval.{Interval}
pub use Rattle.sm_names.specs.declared.keys.NodeKey.{NodeKey}
pub use Rattle.sm_names.specs.declared.messages.Call.{Call}
