-- Who keeps buffers: the live strong nodes of their collections, and the holders of handles.
use Rattle.std.specs.Prelude.{ℕ, ◌==◌, Bool, if◌then◌else◌, List, [], ◌++◌, codes, length, map}
use Rattle.std.specs.Option.{option_map_or}
use Rattle.sm_names.specs.declared.keys.BufferName.{BufferName}
use Rattle.sm_names.specs.declared.keys.HeldBuffer.{HeldBuffer}
use Rattle.sm_names.specs.declared.keys.NodeKey.{NodeKey}
use Rattle.forest_store.specs.Forest.{Collection, collection_at}
use Rattle.core_state.specs.State.{Client, State}
use Rattle.event_facts.specs.Facts.{holders_in}
use Rattle.script_labels.specs.Names.{Names}
use Rattle.event_texts.specs.FactTexts.{holders_text}
use Rattle.event_texts.specs.EventTexts.{live_text}
use Rattle.event_texts.specs.EventLines.{strong_among}

-- the live strong nodes of the collection
abbrev pub strong_in : State → ℕ → List NodeKey
strong_in s collection = option_map_or (λ (c : Collection). strong_among c.nodes) (collection_at s.forest collection) []

-- the same, if nodes are told
abbrev pub keeping_in : Bool → State → ℕ → List NodeKey
keeping_in told s collection = if told then strong_in s collection else []

-- what stands behind these nodes: a comma, if there are some
abbrev pub comma_behind : List NodeKey → List ℕ
comma_behind nodes = if length nodes == 0 then [] else codes ", "

-- who keeps the buffer: these live nodes, and those of these clients and of the parcels that have handles on it
unfoldable pub keepers_words : State → Names → List ℕ → List NodeKey → BufferName → List ℕ
keepers_words s names clients nodes buffer =
    live_text names nodes ++ holders_text names (comma_behind nodes) (holders_in s.holds clients buffer)

-- the same, where the nodes are the live strong ones of its collection, if nodes are told
abbrev pub who_has_with : Names → Bool → State → List ℕ → HeldBuffer → List ℕ
who_has_with names told s clients h = keepers_words s names clients (keeping_in told s h.buffer.collection) h.buffer

-- the same, of all clients
abbrev pub who_keeps_with : Names → Bool → State → HeldBuffer → List ℕ
who_keeps_with names told s h = who_has_with names told s (map (λ (c : Client). c.id) s.clients) h
