-- The texts of allocations, and of what an event left, as functions of what labels stand for.
use Rattle.std.specs.Prelude.{ℕ, ◌+◌, ◌-◌, ◌^◌, min, fold, not, ◌&&◌, ◌==◌}
use Rattle.std.specs.Prelude.{nat_lt, if◌then◌else◌, List, [], ◌∷◌, ◌++◌, codes, decimal, length}
use Rattle.std.specs.Cmp.Lexicographic.{pointwise}
use Rattle.std.specs.List.{flat_map}
use Rattle.std.specs.Option.{option_map_or}
use Rattle.sm_names.specs.declared.rules.TheConstants.{MAX_BUFFERS}
use Rattle.sm_names.specs.declared.keys.BufferName.{BufferName}
use Rattle.sm_names.specs.declared.keys.HeldBuffer.{HeldBuffer}
use Rattle.sm_names.specs.declared.keys.NodeKey.{NodeKey}
use Rattle.sm_names.specs.declared.outcomes.Buffers.{Buffers}
use Rattle.sm_names.specs.declared.tracking.Fired.{Fired}
use Rattle.sm_names.specs.Demands.{Demand}
use Rattle.sm_names.specs.Handles.{names as names_of}
use Rattle.sm_names.specs.Sameness.{same_key}
use Rattle.forest_store.specs.declared.node.End.{End}
use Rattle.forest_store.specs.declared.node.Node.{Node}
use Rattle.script_lines.specs.Labels.{label_text}
use Rattle.script_labels.specs.Names.{Names, label_of_tracker}
use Rattle.script_labels.specs.Texts.{buffer_text, held_text, member_text, node_text}
use Rattle.event_texts.specs.Called.{client_label}
use Rattle.event_texts.specs.FactTexts.{concat}
use Rattle.event_texts.specs.LossTexts.{counted, name_text, reserved_in, shown}

-- ---- allocations

-- the buffers that the unit of the root was given
abbrev pub given_text : Names → NodeKey → Buffers → List ℕ
given_text names head given = concat (
    name_text names head
    ∷ codes " is allocated: "
    ∷ counted given.count (codes "buffer")
    ∷ codes " of "
    ∷ counted given.size (codes "byte")
    ∷ codes "\n"
    ∷ []
    )

-- on how many buffers the node camps, if it is in the unit with this head and not gone
abbrev pub camping_in : NodeKey → Node → ℕ
camping_in head n = option_map_or (λ (d : Demand). if same_key n.head head && not n.gone then d.camping else 0) n.constraints 0

-- on how many the unit camps, or the greatest number
abbrev pub camped_in : NodeKey → List Node → ℕ
camped_in head nodes = fold (λ sum n. min (sum + camping_in head n) (2 ^ 64 - 1)) 0 nodes

-- a node of the unit that camps on some
abbrev pub camp_text : Names → NodeKey → Node → List ℕ
camp_text names head n =
    let told = concat (codes " " ∷ name_text names n.key ∷ codes " " ∷ decimal (camping_in head n) ∷ []) in
    if nat_lt 0 (camping_in head n) then told else []

-- that nobody camps
abbrev pub nobody_text : ℕ → List ℕ
nobody_text sum = if sum == 0 then codes " nobody" else []

-- the nodes of the unit that camp
abbrev pub camps_text : Names → NodeKey → List Node → List ℕ
camps_text names head nodes = concat
    (codes "  camps  " ∷ flat_map (camp_text names head) nodes ∷ nobody_text (camped_in head nodes) ∷ [])

-- that this many were asked for at least, where fewer are camped on
abbrev pub at_least_text : ℕ → ℕ → List ℕ
at_least_text camped count =
    let told = concat (codes "; at least " ∷ decimal count ∷ []) in
    if nat_lt camped count then told else []

-- the pages of these buffers
abbrev pub pages_line : Names → List HeldBuffer → List ℕ
pages_line names held = concat (codes "\n  pages  " ∷ flat_map (held_text names) held ∷ codes "\n" ∷ [])

-- that the unit of the root was given these buffers
abbrev pub initial_text : Names → List Node → NodeKey → Buffers → List HeldBuffer → List ℕ
initial_text names nodes head given held = concat (
    given_text names head given
    ∷ camps_text names head nodes
    ∷ at_least_text (camped_in head nodes) given.count
    ∷ pages_line names held
    ∷ []
    )

-- that the unit of an attached head is allocated
abbrev pub shared_text : Names → NodeKey → List ℕ
shared_text names head = concat (name_text names head ∷ codes " is allocated out of the buffers that there are\n" ∷ [])

-- how many of the buffers were reserved before
abbrev pub reserved_text : List Node → ℕ → List ℕ
reserved_text nodes count = concat
    (codes "; " ∷ decimal (shown (reserved_in nodes)) ∷ codes " of " ∷ decimal count ∷ codes " were reserved\n" ∷ [])

-- that the unit of an attached head shares the buffers that there are
abbrev pub logical_text : Names → List Node → NodeKey → Buffers → List ℕ
logical_text names nodes head given =
    concat (shared_text names head ∷ camps_text names head nodes ∷ reserved_text nodes given.count ∷ [])

-- ---- what an event left

-- the holder of the end
abbrev pub end_holder : Names → End → List ℕ
end_holder names (End.Held client) = label_text (client_label names client)
end_holder names (End.InTransit client) = codes "a parcel"
end_holder names End.Spent = codes "a parcel"

-- what the node lacks
abbrev pub want_text : Node → List ℕ
want_text n = if n.bound then codes " (no constraints, held by " else codes " (a token, held by "

-- a node that is waited for
abbrev pub waited_text : Names → Node → List ℕ
waited_text names n = concat (codes " " ∷ name_text names n.key ∷ want_text n ∷ end_holder names n.end ∷ codes ")" ∷ [])

-- the same, behind a comma
abbrev pub next_waited : Names → Node → List ℕ
next_waited names n = codes "," ++ waited_text names n

-- a node that is waited for, and others
abbrev pub listed_text : Names → Node → List Node → List ℕ
listed_text names first others =
    concat (codes "waits   for" ∷ waited_text names first ∷ flat_map (next_waited names) others ∷ codes "\n" ∷ [])

-- the nodes that are waited for
abbrev pub waits_text : Names → List Node → List ℕ
waits_text names [] = []
waits_text names (first ∷ others) = listed_text names first others

-- that the unit with this head is waited for
abbrev pub unit_text : Names → NodeKey → List ℕ
unit_text names above = concat (codes "waits   for the unit of " ∷ name_text names above ∷ codes "\n" ∷ [])

-- the buffers of the set, as doomed
unfoldable pub some_doomed : Names → ℕ → ℕ → List ℕ
some_doomed names collection set =
    concat (codes "doomed " ∷ flat_map (member_text names set) (names_of collection MAX_BUFFERS) ∷ codes "\n" ∷ [])

-- the same, if there are some
abbrev pub doomed_text : Names → ℕ → ℕ → List ℕ
doomed_text names collection set = if set == 0 then [] else some_doomed names collection set

-- the buffers that gave their pages back, if there are some
abbrev pub freed_text : Names → List HeldBuffer → List ℕ
freed_text names freed =
    let told = concat (codes "free   " ∷ flat_map (held_text names) freed ∷ codes "\n" ∷ []) in
    if length freed == 0 then [] else told

-- a tracker that fired
abbrev pub tracker_text : Names → Fired → List ℕ
tracker_text names firing = concat (codes " " ∷ label_text (label_of_tracker names firing.tracker) ∷ [])

-- the trackers that fired, if there are some
abbrev pub fires_text : Names → List Fired → List ℕ
fires_text names fired =
    let told = concat (codes "fires  " ∷ flat_map (tracker_text names) fired ∷ codes "\n" ∷ []) in
    if length fired == 0 then [] else told

-- one live node or more
abbrev pub live_words : List NodeKey → List ℕ
live_words nodes = if length nodes == 1 then codes "the live node" else codes "the live nodes"

-- these live nodes, if there are some
abbrev pub live_text : Names → List NodeKey → List ℕ
live_text names nodes =
    let told = live_words nodes ++ flat_map (node_text names) nodes in
    if length nodes == 0 then [] else told

-- that these live nodes keep the buffer
abbrev pub kept_by_nodes : Names → BufferName → List NodeKey → List ℕ
kept_by_nodes names buffer nodes = concat
    (codes "kept   " ∷ buffer_text names buffer ∷ codes " by " ∷ live_text names nodes ∷ codes "\n" ∷ [])

-- the line whose event made the loss
abbrev pub since_text : ℕ → List ℕ → List ℕ
since_text number line = concat (codes "since   line " ∷ decimal number ∷ codes ": " ∷ line ∷ codes "\n" ∷ [])

-- ---- the holders of a buffer whose pages were not given back

-- that these are the holders of the buffers before it
abbrev pub by_text : List ℕ → List ℕ
by_text who = concat (codes " by " ∷ who ∷ codes "\n" ∷ [])

-- what stands between two buffers with these holders: nothing if they are the same, or else the end of one line and the beginning
-- of the next
abbrev pub between_buffers : List ℕ → List ℕ → List ℕ
between_buffers before who =
    let next = concat (codes " by " ∷ before ∷ codes "\nkept   " ∷ []) in
    if pointwise (λ a b. a == b) who before then [] else next

-- the buffers behind one with these holders, and the end of the last line
abbrev pub kept_behind : Names → (HeldBuffer → List ℕ) → List ℕ → List HeldBuffer → List ℕ
kept_behind names who before [] = by_text before
kept_behind names who before (h ∷ later) =
    between_buffers before (who h) ++ (buffer_text names h.buffer ++ kept_behind names who (who h) later)

-- this buffer and others, and their holders
abbrev pub kept_from : Names → (HeldBuffer → List ℕ) → HeldBuffer → List HeldBuffer → List ℕ
kept_from names who h later = codes "kept   " ++ (buffer_text names h.buffer ++ kept_behind names who (who h) later)

-- the buffers and their holders: consecutive buffers with the same holders in one line
abbrev pub kept_text : Names → (HeldBuffer → List ℕ) → List HeldBuffer → List ℕ
kept_text names who [] = []
kept_text names who (h ∷ later) = kept_from names who h later
