-- Tests whether two names are equal.
use Rattle.std.specs.Prelude.{Bool, true, false, ◌==◌, ◌&&◌}
use Rattle.sm_names.specs.declared.keys.NodeKey.{NodeKey}
use Rattle.sm_names.specs.declared.keys.BufferName.{BufferName}
use Rattle.sm_names.specs.declared.keys.Strength.{Strength}
use Rattle.sm_names.specs.declared.keys.Strength.TheVariants.{Strong, Weak}
use Rattle.sm_names.specs.declared.keys.Kind.{Kind}
use Rattle.sm_names.specs.declared.keys.Kind.TheVariants.{Token, Collection}

-- the keys are one
abbrev pub same_key : NodeKey → NodeKey → Bool
same_key a b = a.slot == b.slot && a.generation == b.generation

-- the buffers are one
abbrev pub same_buffer : BufferName → BufferName → Bool
same_buffer a b = a.collection == b.collection && a.index == b.index

-- the strengths are one; any other two differ
abbrev pub same_strength : Strength → Strength → Bool
same_strength Strong Strong = true
same_strength Weak Weak = true
same_strength _ _ = false

-- the kinds are one; any other two differ
abbrev pub same_kind : Kind → Kind → Bool
same_kind Token Token = true
same_kind Collection Collection = true
same_kind _ _ = false
