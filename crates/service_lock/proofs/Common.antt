-- The names that several proofs of this crate cite, passed on from one place. Declares nothing.
pub use Rattle.std.proofs.Common.{List, None, Option, Some, [], ap, arith, inl, inr, length, length-append, refl, rules, subst, sym, ℕ}
pub use Rattle.std.proofs.Common.{◌++◌, ◌+◌, ◌∙◌, ◌∷◌, ◌≡◌, ◌≤◌}
pub use Rattle.std.proofs.lemmas.List.Sums.{sum_by-cons}
pub use Rattle.core_state.specs.Shown.{Shows}
pub use Rattle.core_state.specs.State.{State}
pub use Rattle.event_laws.specs.ByEvent.{anyone}
pub use Rattle.event_laws.specs.HandleSums.{opened, opened_at}
pub use Rattle.service_lock.specs.Accounts.{SameHandles, no_amounts, with_gain}
pub use Rattle.service_lock.specs.Comings.{SomeCoreCame}
pub use Rattle.service_lock.specs.Counting.{moves_by}
pub use Rattle.service_lock.specs.States.{StateInvariant, View}
pub use Rattle.service_lock.specs.declared.moves.HandleMoves.{HandleMoves}
pub use Rattle.sm_names.specs.Bounds.{Bound}
pub use Rattle.sm_names.specs.Legality.{IsLegal}
pub use Rattle.sm_names.specs.Marks.{Called, Entry}
pub use Rattle.sm_names.specs.declared.keys.NodeKey.{NodeKey}
pub use Rattle.sm_names.specs.declared.keys.Strength.{Strength}
pub use Rattle.sm_names.specs.declared.keys.Strength.TheVariants.{Strong, Weak}
pub use Rattle.sm_names.specs.declared.messages.Call.{Call}
pub use Rattle.sm_names.specs.declared.messages.Reply.{Reply}
