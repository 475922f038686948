-- What is seen of the keys of a collection. No public clause of `alloc_event` cites this module.
use Rattle.std.specs.Prelude.{ℕ, List}
use Rattle.sm_names.specs.declared.keys.NodeKey.{NodeKey}

-- the keys, and how many there can be before the list has to grow
pub record Listed : Type 0 where
  pub items : List NodeKey
  pub capacity : ℕ
