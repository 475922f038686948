-- The text of the buffers of a set, one more at a time.
use Rattle.std.proofs.Common.{◌≡◌, ◌∙◌, ap, append-nil, arith, ℕ, ◌+◌, [], ◌∷◌, ◌++◌}
use Rattle.std.specs.List.{flat_map}
use Rattle.std.proofs.lemmas.Grind.{flat_map-append}
use Rattle.std.proofs.lemmas.List.FromFn.{map-range_with_len_more}
use Rattle.sm_names.specs.declared.keys.BufferName.{BufferName}
use Rattle.sm_names.specs.Handles.{names as names_of}
use Rattle.script_labels.specs.Names.{Names}
use Rattle.script_labels.specs.Texts.{member_text}

-- one more buffer
pub members-more : (names : Names) (collection set index : ℕ) → flat_map (member_text names set) (names_of collection (index + 1)) ≡
    flat_map (member_text names set) (names_of collection index) ++ member_text names set
    (record { collection = collection; index = index })
members-more names collection set index =
    let last : BufferName = record { collection = collection; index = index } in
    ap (flat_map (member_text names set)) (map-range_with_len_more (λ i. record { collection = collection; index = i }) 0 index index
    (omega arith))
    ∙ flat_map-append (member_text names set) (names_of collection index) (last ∷ [])
    ∙ ap (λ text. flat_map (member_text names set) (names_of collection index) ++ text) (append-nil (member_text names set last))
