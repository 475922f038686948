-- The texts of failures and ends, as functions of the collection before them and of what labels stand for.
use Rattle.std.specs.Prelude.{ℕ, ◌+◌, ◌-◌, ◌^◌, min, max, ◌==◌, nat_lt, if◌then◌else◌, List}
use Rattle.std.specs.Prelude.{[], ◌∷◌, ◌++◌, codes, decimal, length, map, reverse, slice_get, Option}
use Rattle.std.specs.List.{filter, flat_map, list_any, sum_by}
use Rattle.std.specs.Option.{option_map_or}
use Rattle.sm_names.specs.declared.keys.NodeKey.{NodeKey}
use Rattle.sm_names.specs.declared.outcomes.Buffers.{Buffers}
use Rattle.sm_names.specs.declared.outcomes.Cause.{Cause}
use Rattle.sm_names.specs.declared.outcomes.Failure.{Failure}
use Rattle.sm_names.specs.declared.outcomes.Fault.{Fault}
use Rattle.sm_names.specs.declared.outcomes.Misuse.{Misuse}
use Rattle.sm_names.specs.Demands.{Demand}
use Rattle.sm_names.specs.Members.{greatest}
use Rattle.sm_names.specs.Pages.{pages_of}
use Rattle.sm_names.specs.declared.rules.TheConstants.{MAX_BUFFERS}
use Rattle.forest_store.specs.declared.node.Node.{Node}
use Rattle.forest_store.specs.Nodes.{above_among}
use Rattle.forest_store.specs.Questions.{blocks_here, demands_of, has_buffers, is_in_unit}
use Rattle.forced_marks.specs.Explanations.{climb}
use Rattle.script_lines.specs.Parts.{plural_end}
use Rattle.event_facts.specs.declared.failure_path.Stop.{Stop}
use Rattle.event_facts.specs.Facts.{is_handed, is_lost_with, stop_of}
use Rattle.script_lines.specs.Labels.{label_text}
use Rattle.script_labels.specs.Names.{Names, label_of_node}
use Rattle.script_labels.specs.Texts.{cause_text, node_text}
use Rattle.event_texts.specs.FactTexts.{concat}

-- the label of the node's birth
abbrev pub name_text : Names → NodeKey → List ℕ
name_text names node = label_text (label_of_node names node)

-- this many of them
abbrev pub counted : ℕ → List ℕ → List ℕ
counted number word = decimal number ++ codes " " ++ word ++ plural_end number

-- the number, or the greatest that a text is made of
abbrev pub shown : ℕ → ℕ
shown number = min number (2 ^ 64 - 1)

-- ---- why a node fails

-- why a misuse makes a node fail
abbrev pub misuse_text : Misuse → List ℕ
misuse_text Misuse.SecondConstraints = codes "its constraints were set before"
misuse_text Misuse.LateWeak = codes "weak after constraints"
misuse_text Misuse.LateWeakOk = codes "weakok after it took buffers"
misuse_text Misuse.WeakNotOk = codes "it is weak and took buffers without weakok"
misuse_text Misuse.TooManyNodeTrackers = codes "it has 64 node trackers"

-- too many buffers are asked for
abbrev pub many_text : ℕ → List ℕ
many_text count = concat (
    codes "its unit asks for "
    ∷ decimal count
    ∷ codes " buffers, and "
    ∷ decimal MAX_BUFFERS
    ∷ codes " are the most"
    ∷ [])

-- the pool has no room
abbrev pub full_text : ℕ → ℕ → ℕ → List ℕ
full_text count size free = concat (
    codes "no room for "
    ∷ counted count (codes "buffer")
    ∷ codes " of "
    ∷ counted (pages_of size) (codes "page")
    ∷ codes "; "
    ∷ decimal free
    ∷ codes " free"
    ∷ []
    )

-- how many bytes each of the buffers has
abbrev pub size_in : Option Buffers → ℕ
size_in given = option_map_or (λ (b : Buffers). b.size) given 0

-- the buffers that there are have fewer bytes
abbrev pub small_text : Option Buffers → ℕ → List ℕ
small_text given size = concat (
    codes "it asks for "
    ∷ counted size (codes "byte")
    ∷ codes ", and each buffer has "
    ∷ decimal (size_in given)
    ∷ []
    )

-- how many buffers there are
abbrev pub count_of : Option Buffers → ℕ
count_of given = option_map_or (λ (b : Buffers). b.count) given 0

-- the unit camps on this many of the buffers, of which this many are taken
abbrev pub camped_text : ℕ → ℕ → ℕ → List ℕ
camped_text camping taken count = concat (
    codes "it camps on "
    ∷ decimal camping
    ∷ codes ", with "
    ∷ decimal taken
    ∷ codes " of "
    ∷ counted count (codes "buffer")
    ∷ codes " reserved"
    ∷ []
    )

-- it asks for this many at least, and the collection has this many
abbrev pub least_text : ℕ → ℕ → List ℕ
least_text at_least count = concat (
    codes "it asks for at least "
    ∷ decimal at_least
    ∷ codes ", and the collection has "
    ∷ counted count (codes "buffer")
    ∷ []
    )

-- on how many buffers the allocated units camp
abbrev pub reserved_in : List Node → ℕ
reserved_in nodes = sum_by (λ (d : Demand). d.camping) (demands_of has_buffers nodes)

-- the collection was given too few buffers
abbrev pub few_text : List Node → Option Buffers → ℕ → ℕ → List ℕ
few_text nodes given camping at_least =
    let taken = reserved_in nodes in
    let camped = camped_text (shown camping) (shown taken) (count_of given) in
    let least = least_text at_least (count_of given) in
    if nat_lt (count_of given) (min (taken + camping) (2 ^ 128 - 1)) then camped else least

-- why the allocation of a unit that asks so fails, where this many pages are free
abbrev pub failure_text : List Node → Option Buffers → ℕ → ℕ → ℕ → ℕ → Failure → List ℕ
failure_text nodes given free camping at_least size Failure.NoStrong = codes "no strong node is live"
failure_text nodes given free camping at_least size Failure.NoBuffers = codes "its unit asks for no buffer"
failure_text nodes given free camping at_least size Failure.TooManyBuffers = many_text (shown (max camping at_least))
failure_text nodes given free camping at_least size Failure.PoolFull = full_text (shown (max camping at_least)) size free
failure_text nodes given free camping at_least size Failure.TooFew = few_text nodes given camping at_least
failure_text nodes given free camping at_least size Failure.TooSmall = small_text given size

-- what the unit with this head asks for
abbrev pub asked_camping : List Node → NodeKey → ℕ
asked_camping nodes head = sum_by (λ (d : Demand). d.camping) (demands_of (is_in_unit head) nodes)

-- the greatest at-least of the unit
abbrev pub asked_least : List Node → NodeKey → ℕ
asked_least nodes head = greatest (λ (d : Demand). d.at_least) (demands_of (is_in_unit head) nodes)

-- the greatest size that the unit asks for
abbrev pub asked_size : List Node → NodeKey → ℕ
asked_size nodes head = greatest (λ (d : Demand). d.size) (demands_of (is_in_unit head) nodes)

-- why the allocation of the unit with this head fails
abbrev pub failed_text : List Node → Option Buffers → ℕ → NodeKey → Failure → List ℕ
failed_text nodes given free head failure =
    failure_text nodes given free (asked_camping nodes head) (asked_least nodes head) (asked_size nodes head) failure

-- why the node fails
abbrev pub why_text : List Node → Option Buffers → ℕ → NodeKey → Cause → List ℕ
why_text nodes given free origin Cause.Lost = codes "its end was closed without a release"
why_text nodes given free origin (Cause.Misused misuse) = misuse_text misuse
why_text nodes given free origin Cause.NoStrong = codes "no strong node is live and no strong handle is open"
why_text nodes given free origin (Cause.Failed failure) = failed_text nodes given free origin failure

-- that the node where the fault began fails, and why
abbrev pub fault_text : Names → List Node → Option Buffers → ℕ → Fault → List ℕ
fault_text names nodes given free fault = concat (
    name_text names fault.origin
    ∷ codes " fails, "
    ∷ cause_text fault.cause
    ∷ codes ": "
    ∷ why_text nodes given free fault.origin fault.cause
    ∷ codes "\n"
    ∷ []
    )

-- ---- how a failure propagates

-- a node further up
abbrev pub next_above : Names → NodeKey → List ℕ
next_above names node = concat (codes " > " ∷ name_text names node ∷ [])

-- the way up
abbrev pub up_text : Names → List NodeKey → List ℕ
up_text names [] = []
up_text names (first ∷ others) =
    concat (codes "  up      " ∷ name_text names first ∷ flat_map (next_above names) others ∷ codes "\n" ∷ [])

-- the way up, if it has a link
abbrev pub way_text : Names → List NodeKey → List ℕ
way_text names way = if nat_lt (length way) 2 then [] else up_text names way

-- why a failure does not propagate above the node, if it is no root
abbrev pub stop_text : Names → Stop → NodeKey → List ℕ
stop_text names Stop.AtRoot top = []
stop_text names (Stop.AtAttached parent) top = concat (
    codes "  stops   at "
    ∷ name_text names top
    ∷ codes ", which is attached: "
    ∷ name_text names parent
    ∷ codes " stays\n"
    ∷ []
    )
stop_text names (Stop.AtDispensable parent) top = concat (
    codes "  stops   at "
    ∷ name_text names top
    ∷ codes ", which is dispensable and has its buffers: "
    ∷ name_text names parent
    ∷ codes " stays\n"
    ∷ []
    )

-- a node and those that it hands on to, if there are some
abbrev pub handing_text : Names → NodeKey → List NodeKey → List ℕ
handing_text names above below =
    let told = concat (codes "  down    " ∷ name_text names above ∷ codes " >" ∷ flat_map (node_text names) below ∷ codes "\n" ∷ []) in
    if length below == 0 then [] else told

-- what this node hands on to, where each hands on to these
abbrev pub handed_by : Names → (NodeKey → List NodeKey) → Node → List ℕ
handed_by names row above = handing_text names above.key (row above.key)

-- what this node hands on to, of those that are taken
abbrev pub handed_text : Names → List NodeKey → List Node → Node → List ℕ
handed_text names way taken above =
    handing_text names above.key (map (λ (n : Node). n.key) (filter (is_handed way above.key) taken))

-- the way down of what takes all at and below the top one
abbrev pub down_text : Names → List Node → NodeKey → List NodeKey → List ℕ
down_text names nodes top way =
    let taken = filter (is_lost_with nodes top) nodes in flat_map (handed_text names way taken) taken

-- that the node ends, and the nodes that end with it
abbrev pub end_text : Names → List Node → NodeKey → List ℕ
end_text names nodes top =
    concat (name_text names top ∷ codes " ends: no node at or below it is live\n" ∷ down_text names nodes top [] ∷ [])

-- the last node of a way
abbrev pub last_of : List NodeKey → Option NodeKey
last_of way = slice_get way (length way - 1)

-- why a failure does not propagate above the top one, and the way down
abbrev pub under_text : Names → List Node → List NodeKey → NodeKey → List ℕ
under_text names nodes way top = concat (stop_text names (stop_of nodes top) top ∷ down_text names nodes top way ∷ [])

-- the same, of a failure that came up this way
abbrev pub below_text : Names → List Node → List NodeKey → List ℕ
below_text names nodes way = option_map_or (under_text names nodes way) (last_of way) []

-- the way of a failure up
abbrev pub way_of : List Node → NodeKey → List NodeKey
way_of nodes origin = climb (λ k. list_any (blocks_here k) nodes) origin (above_among (reverse nodes) origin)

-- that the node where the fault began fails, why, and how the failure propagates
abbrev pub loss_text : Names → List Node → Option Buffers → ℕ → Fault → List ℕ
loss_text names nodes given free fault = concat (
    fault_text names nodes given free fault
    ∷ way_text names (way_of nodes fault.origin)
    ∷ below_text names nodes (way_of nodes fault.origin)
    ∷ []
    )
