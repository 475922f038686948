-- What pictures say of a node and of a buffer.
use Rattle.std.specs.Prelude.{ℕ, ◌+◌, ◌-◌, ◌==◌, if◌then◌else◌, List, [], ◌∷◌, ◌++◌, codes, decimal}
use Rattle.std.specs.Option.{option_map_or}
use Rattle.sm_names.specs.declared.keys.Interval.{Interval}
use Rattle.sm_names.specs.declared.outcomes.Fault.{Fault}
use Rattle.sm_names.specs.Sameness.{same_key}
use Rattle.forest_store.specs.declared.node.End.{End}
use Rattle.forest_store.specs.declared.node.Node.{Node}
use Rattle.script_lines.specs.Labels.{label_text}
use Rattle.script_labels.specs.Names.{Names}
use Rattle.event_texts.specs.Called.{client_label}
use Rattle.event_texts.specs.FactTexts.{concat}
use Rattle.script_lines.specs.Parts.{plural_end}
use Rattle.picture_model.specs.declared.features.Class.{Class}
use Rattle.picture_model.specs.declared.features.LinkStyle.{LinkStyle}

-- what the node is drawn as
abbrev pub class_of : Node → Class
class_of n =
    let left = option_map_or (λ (f : Fault). if same_key f.origin n.key then Class.Origin else Class.Taken) n.fault Class.Ended in
    let stays = if n.released then Class.Orphan else Class.Live in
    if n.gone then left else stays

-- the sign of what a node is drawn as, in UTF-8: a circle for a released one, a cross for a failed one, a dot for one that ended
abbrev pub sign_text : Class → List ℕ
sign_text Class.Live = []
sign_text Class.Orphan = 226 ∷ 151 ∷ 139 ∷ []
sign_text Class.Origin = 226 ∷ 156 ∷ 151 ∷ []
sign_text Class.Taken = 226 ∷ 156 ∷ 151 ∷ []
sign_text Class.Ended = 194 ∷ 183 ∷ []

-- how the link of the node to its parent is drawn
abbrev pub link_of : Node → LinkStyle
link_of n = if n.attached then LinkStyle.Attached else if n.dispensable then LinkStyle.Dispensable else LinkStyle.Normal

-- what the node's end is
abbrev pub kind_text : Node → List ℕ
kind_text n = if n.bound then codes "collection" else codes "token"

-- where the end is
abbrev pub place_text : Names → End → List ℕ
place_text names (End.Held client) = concat (codes "held by " ∷ label_text (client_label names client) ∷ [])
place_text names (End.InTransit client) = codes "end in a parcel"
place_text names End.Spent = codes "end spent"

-- the pages
abbrev pub pages_text : Interval → List ℕ
pages_text i =
    let one = concat (codes "page " ∷ decimal i.start ∷ []) in
    let more = concat (codes "pages " ∷ decimal i.start ∷ codes " to " ∷ decimal (i.start + i.pages - 1) ∷ []) in
    if i.pages == 1 then one else more

-- how many of this many pages are free
unfoldable pub free_words : ℕ → ℕ → List ℕ
free_words free pages = concat
    (decimal free ∷ codes " of " ∷ (decimal pages ++ codes " " ++ codes "page" ++ plural_end pages) ∷ codes " free" ∷ [])
