-- The texts of facts, as functions of what labels stand for.
use Rattle.std.specs.Prelude.{ℕ, List, [], ◌∷◌, ◌++◌, codes, decimal, Option, Some, None}
use Rattle.std.specs.List.{flat_map}
use Rattle.sm_names.specs.declared.keys.BufferName.{BufferName}
use Rattle.event_facts.specs.declared.keepers.Holder.{Holder}
use Rattle.script_lines.specs.Labels.{label_text}
use Rattle.script_labels.specs.Names.{Names, label_of_root}
use Rattle.script_lines.specs.LineTexts.{strength_name}
use Rattle.event_texts.specs.Called.{client_label}

-- the texts, one after another
abbrev pub concat : List (List ℕ) → List ℕ
concat texts = flat_map (λ text. text) texts

-- the buffer, by the label of its collection's root
abbrev pub buffer_name : Names → BufferName → List ℕ
buffer_name names buffer =
    concat (label_text (label_of_root names buffer.collection) ∷ codes "." ∷ decimal buffer.index ∷ [])

-- the client, or the word for parcels
abbrev pub keeper_name : Names → Option ℕ → List ℕ
keeper_name names (Some client) = label_text (client_label names client)
keeper_name names None = codes "parcels"

-- the holders of handles, with the number and strength of each
abbrev pub holder_text : Names → Holder → List ℕ
holder_text names holder =
    concat (keeper_name names holder.client ∷ codes " " ∷ strength_name holder.strength ∷ codes " " ∷ decimal holder.count ∷ [])

-- the same, behind a comma
abbrev pub next_holder : Names → Holder → List ℕ
next_holder names holder = codes ", " ++ holder_text names holder

-- the holders behind these words, commas between them; nothing where there is none
abbrev pub holders_text : Names → List ℕ → List Holder → List ℕ
holders_text names before [] = []
holders_text names before (first ∷ others) = concat (before ∷ holder_text names first ∷ flat_map (next_holder names) others ∷ [])
