-- The names that several proofs of this crate cite, passed on from one place. Declares nothing.
pub use Rattle.std.proofs.Common.{Bool, List, [], ap, append-nil, append_assoc, arith, false, inl, inr, length, length-append, map, refl}
pub use Rattle.std.proofs.Common.{subst, sym, true, vec_capacity, vec_len, ℕ, ◌++◌, ◌+◌, ◌∙◌, ◌∷◌, ◌≡◌, ◌≤◌}
pub use Rattle.std.proofs.lemmas.List.Elements.{All-append, All-cons, All-head, All-nil, All-tail}
pub use Rattle.std.specs.List.{All}
pub use Rattle.std.specs.Prelude.{flat_map}
pub use Rattle.client_ends.specs.Clients.{Grip, Seen, Tag, is_done}
pub use Rattle.client_ends.specs.declared.held.Held.{Held}
pub use Rattle.client_ends.specs.declared.held.ParcelContent.{ParcelContent}
pub use Rattle.client_vanish.specs.Gatherings.{IsFound, own_of}
pub use Rattle.client_vanish.specs.Stacks.{CollectsFor, CollectsMany, GivesUp, GivesUpSome, HasRoomFor, both, top_first}
pub use Rattle.client_vanish.specs.Vanishings.{AllHeldBy, Collection, Goes, Handle, HeldObject, Holds, IsGone, Token, collections_among}
pub use Rattle.client_vanish.specs.Vanishings.{end_told, handle_told, handles_among, held_in, kept_of, object_of, owner_of, sorted}
pub use Rattle.client_vanish.specs.Vanishings.{tokens_among, vanishing_call}
pub use Rattle.event_laws.specs.Parts.{DifferAt, part}
pub use Rattle.sm_names.specs.declared.messages.Call.{Call}
pub use Rattle.sm_names.specs.declared.messages.Reply.{Reply}
