use Rattle.client_actors.proofs.Common.{filled_by, map, vec_len, ◌++◌, ◌+◌, ◌≡◌, ◌≤◌}
use Rattle.std.specs.Prelude.{vec_capacity}
use Rattle.client_actors.proofs.slots.store_handles.Given as goal

-- what is stored, with what is left, is all
abbrev pub invariant-storing : goal.invariant-storing
invariant-storing g l = record {
  objects : l.slots.items ++ map filled_by l.handles.items ≡ l.initial.slots.items ++ map filled_by l.initial.handles.items;
  len : vec_len l.slots + vec_len l.handles ≡ vec_len l.initial.slots + vec_len l.initial.handles;
  room : vec_capacity l.slots ≡ vec_capacity l.initial.slots;
  fits : vec_len l.slots + vec_len l.handles ≤ vec_capacity l.slots;
}

abbrev pub decreases-storing : goal.decreases-storing
decreases-storing g l = vec_len l.handles
