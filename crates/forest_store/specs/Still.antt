-- The row of a collection before a birth and after it. No public clause of `alloc_event` cites this module.
use Rattle.std.specs.Prelude.{ℕ, List, [], ◌∷◌, ◌++◌, ◌==◌, None}
use Rattle.std.specs.List.{find}
use Rattle.std.specs.Option.{unwrap_or}
use Rattle.sm_names.specs.declared.keys.NodeKey.{NodeKey}
use Rattle.forest_store.specs.CollectionRows.{CollectionRow}

-- the row of a collection that is not there yet
abbrev pub no_row : ℕ → CollectionRow
no_row id = record { id = id; keys = []; buffers = None; held = [] }

-- the row with this id, or an empty one
abbrev pub row_before : ℕ → List CollectionRow → CollectionRow
row_before id ss = unwrap_or (find (λ (s : CollectionRow). s.id == id) ss) (no_row id)

-- the row with one more key behind
abbrev pub row_with : CollectionRow → NodeKey → CollectionRow
row_with s key = record s { keys = s.keys ++ key ∷ [] }
