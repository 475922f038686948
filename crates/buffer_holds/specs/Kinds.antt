-- Tests of whether two counts are of the same.
use Rattle.std.specs.Prelude.{ℕ, Bool, ◌==◌, ◌&&◌}
use Rattle.sm_names.specs.declared.keys.BufferName.{BufferName}
use Rattle.sm_names.specs.declared.keys.Strength.{Strength}
use Rattle.sm_names.specs.Sameness.{same_buffer, same_strength}
use Rattle.buffer_holds.specs.declared.kinds.HandleKind.{HandleKind}
use Rattle.buffer_holds.specs.declared.kinds.Hold.{Hold}

-- handles of this strength on this buffer
abbrev pub kind_of : BufferName → Strength → HandleKind
kind_of buffer strength = record { buffer = buffer; strength = strength }

-- the client's handles of this strength on this buffer
abbrev pub hold_of : ℕ → BufferName → Strength → Hold
hold_of client buffer strength = record { client = client; kind = kind_of buffer strength }

-- the kinds are one
abbrev pub same_handle_kind : HandleKind → HandleKind → Bool
same_handle_kind a b = same_buffer a.buffer b.buffer && same_strength a.strength b.strength

-- the kinds are one, and so are the clients
abbrev pub same_hold : Hold → Hold → Bool
same_hold a b = a.client == b.client && same_handle_kind a.kind b.kind
