-- Bytes that come block by block.
use Rattle.actor_scripts.proofs.Common.{List, length, ℕ, ◌+◌, ◌≡◌}
use Rattle.std.specs.Prelude.{Option}
use Rattle.std.specs.Io.KnownBytes.{Consumes}
use Rattle.script_lines.specs.declared.TheConstants.{MOST_BYTES}

-- these bytes came, and this many more may come
pub record Come (before now : Option (List ℕ)) (script : List ℕ) (left : ℕ) : Type 0 where
  pub taken : Consumes before now script
  pub counted : length script + left ≡ MOST_BYTES
