-- What a script calls its buffers.
use Rattle.std.specs.Prelude.{ℕ, ◌+◌, ◌==◌, nat_lt, if◌then◌else◌, List, take, drop, Option, Some, None}
use Rattle.std.specs.List.{position}
use Rattle.std.specs.Option.{option_map, option_and_then}
use Rattle.sm_names.specs.declared.rules.TheConstants.{MAX_BUFFERS}
use Rattle.script_lines.specs.declared.buffer_label.BufferLabel.{BufferLabel}
use Rattle.script_lines.specs.declared.label.Label.{Label}
use Rattle.script_lines.specs.Labels.{label_of}
use Rattle.script_lines.specs.Numbers.{number_of}

-- the index, if a collection may have such a buffer
abbrev pub index_in_range : ℕ → Option ℕ
index_in_range index = if nat_lt index MAX_BUFFERS then Some index else None

-- the buffer with the label that one word spells, and the index that the other spells
abbrev pub labelled_by : List ℕ → List ℕ → Option BufferLabel
labelled_by label index = option_and_then
    (λ (node : Label). option_map (λ i. record { node = node; index = i }) (option_and_then index_in_range (number_of index)))
    (label_of label)

-- the buffer that is spelled so: a label, a point, and an index
abbrev pub buffer_label_of : List ℕ → Option BufferLabel
buffer_label_of word =
    option_and_then (λ at. labelled_by (take at word) (drop (at + 1) word)) (position (λ byte. byte == 46) word)
