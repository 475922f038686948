-- Why calls were refused, or were misuses: the text of the test that failed first, as a function of the core and of the lines so far.
use Rattle.std.specs.Prelude.{ℕ, if◌then◌else◌, List, [], ◌∷◌, ◌++◌, codes, decimal, map, Option, Some, None}
use Rattle.std.specs.Option.{option_map_or}
use Rattle.sm_names.specs.Answers.{receiver_of}
use Rattle.sm_names.specs.CallRows.{object_key, parts_of}
use Rattle.sm_names.specs.declared.keys.BufferName.{BufferName}
use Rattle.sm_names.specs.declared.keys.NodeKey.{NodeKey}
use Rattle.sm_names.specs.declared.keys.Strength.{Strength}
use Rattle.sm_names.specs.declared.messages.Call.{Call}
use Rattle.sm_names.specs.declared.outcomes.Misuse.{Misuse}
use Rattle.sm_names.specs.declared.outcomes.Refusal.{Refusal}
use Rattle.forest_store.specs.declared.node.End.{End}
use Rattle.forest_store.specs.declared.node.Node.{Node}
use Rattle.forest_store.specs.Forest.{node_at}
use Rattle.core_state.specs.State.{Client, State}
use Rattle.event_facts.specs.Facts.{holders_in}
use Rattle.script_labels.specs.Names.{Names, label_of_root}
use Rattle.script_lines.specs.Labels.{label_text}
use Rattle.script_lines.specs.LineTexts.{strength_name}
use Rattle.event_texts.specs.declared.deeds.TheConstants.{BOUND, CONSTRAINED, GIVEN, SPENT, TAKEN}
use Rattle.event_texts.specs.Called.{client_label}
use Rattle.event_texts.specs.Deeds.{DeedLines, deed_line, deed_on, deed_since}
use Rattle.event_texts.specs.EventTexts.{since_text}
use Rattle.event_texts.specs.FactTexts.{concat, holders_text}
use Rattle.event_texts.specs.LossTexts.{counted, name_text}
use Rattle.event_texts.specs.LostLines.{NumberedLine}

-- the node between these words
abbrev pub named_text : Names → List ℕ → NodeKey → List ℕ → List ℕ
named_text names before node behind = concat (before ∷ name_text names node ∷ behind ∷ [])

-- ---- clients

-- that the receiver is shut
abbrev pub shut_receiver_text : Names → ℕ → List ℕ
shut_receiver_text names to =
    concat (codes "why     " ∷ label_text (client_label names to) ∷ codes " is shut\n" ∷ [])

-- who is shut: the receiver of the call, or else its caller
abbrev pub shut_text : Names → Option ℕ → List ℕ
shut_text names (Some to) = shut_receiver_text names to
shut_text names None = codes "why     the caller is shut\n"

-- ---- ends

-- that there is no such end any more
unfoldable pub no_end_text : Names → NodeKey → List ℕ
no_end_text names key = named_text names (codes "why     the end of ") key (codes " is spent\n")

-- that the end is spent, by this line
unfoldable pub spent_by_text : Names → NodeKey → NumberedLine → List ℕ
spent_by_text names key l = no_end_text names key ++ since_text l.0 l.1

-- that the end is spent, by this line if one spent it
abbrev pub spent_text : Names → NodeKey → Option NumberedLine → List ℕ
spent_text names key (Some l) = spent_by_text names key l
spent_text names key None = no_end_text names key

-- that the client holds the end
abbrev pub held_end_text : Names → NodeKey → ℕ → List ℕ
held_end_text names key client = concat (
    codes "why     "
    ∷ label_text (client_label names client)
    ∷ codes " holds the end of "
    ∷ name_text names key
    ∷ codes "\n"
    ∷ []
    )

-- the node between these words, and the line that did a deed of this kind to its end
unfoldable pub named_deed_text : Names → DeedLines → List ℕ → NodeKey → List ℕ → ℕ → List ℕ
named_deed_text names lines before key behind kind = named_text names before key behind ++ deed_since lines (deed_on kind key)

-- that the end lies in a parcel, and the line that put it there
abbrev pub parcel_text : Names → DeedLines → NodeKey → List ℕ
parcel_text names lines key = named_deed_text names lines (codes "why     the end of ") key (codes " lies in a parcel\n") GIVEN

-- where the end is: its holder, the line that put it into a parcel, or the line that spent it
abbrev pub place_text : Names → DeedLines → NodeKey → End → List ℕ
place_text names lines key (End.Held client) = held_end_text names key client
place_text names lines key (End.InTransit client) = parcel_text names lines key
place_text names lines key End.Spent = spent_text names key (deed_line lines (deed_on SPENT key))

-- the same, of the node with this key: that it is kept no more says that its end is spent
abbrev pub end_text : Names → DeedLines → State → NodeKey → List ℕ
end_text names lines s key = option_map_or
    (λ (n : Node). place_text names lines key n.end) (node_at s.forest key)
    (spent_text names key (deed_line lines (deed_on SPENT key)))

-- that the end is a token
unfoldable pub token_text : Names → NodeKey → List ℕ
token_text names key = named_text names (codes "why     ") key (codes " is a token\n")

-- what the end is: a collection since this line, or a token
abbrev pub kind_text : Names → DeedLines → NodeKey → Node → List ℕ
kind_text names lines key n =
    if n.bound then named_deed_text names lines (codes "why     ") key (codes " is a collection\n") BOUND else token_text names key

-- the same, of the node with this key
abbrev pub kind_of_text : Names → DeedLines → State → NodeKey → List ℕ
kind_of_text names lines s key = option_map_or (kind_text names lines key) (node_at s.forest key) []

-- the text, if the call is made on an end
abbrev pub on_end : Call → (NodeKey → List ℕ) → List ℕ
on_end call told = option_map_or told (object_key (parts_of call).object) []

-- ---- handles

-- that the caller has no such handle
abbrev pub lacking_text : Names → Strength → BufferName → List ℕ
lacking_text names strength buffer = concat (
    codes "why     the caller has no "
    ∷ strength_name strength
    ∷ codes " handle on "
    ∷ label_text (label_of_root names buffer.collection)
    ∷ codes "."
    ∷ decimal buffer.index
    ∷ []
    )

-- who has handles on the buffer, if somebody has
abbrev pub open_text : Names → State → BufferName → List ℕ
open_text names s buffer =
    holders_text names (codes "; open: ") (holders_in s.holds (map (λ (c : Client). c.id) s.clients) buffer) ++ codes "\n"

-- that the caller has no such handle, and who has handles on the buffer
abbrev pub no_handle_text : Names → State → Strength → BufferName → List ℕ
no_handle_text names s strength buffer = lacking_text names strength buffer ++ open_text names s buffer

-- the same of the handle that the call is made on: that of a TrackWeak is weak, and no other call is made on one
abbrev pub lacked_text : Names → State → Call → List ℕ
lacked_text names s (Call.DupHandle buffer strength) = no_handle_text names s strength buffer
lacked_text names s (Call.DropHandle buffer strength) = no_handle_text names s strength buffer
lacked_text names s (Call.GiveHandle buffer strength to) = no_handle_text names s strength buffer
lacked_text names s (Call.TrackWeak buffer) = no_handle_text names s Strength.Weak buffer
lacked_text names s _ = []

-- ---- limits

-- that there are as many as may be
abbrev pub limit_text : ℕ → List ℕ → List ℕ → List ℕ
limit_text limit word behind = concat (codes "why     the limit of " ∷ counted limit word ∷ behind ∷ codes " is reached\n" ∷ [])

-- ---- all refusals and misuses

-- why the call was refused
abbrev pub refusal_text : Names → DeedLines → State → Call → Refusal → List ℕ
refusal_text names lines s call Refusal.NoSuchClient = codes "why     a client of the call never joined\n"
refusal_text names lines s call Refusal.ClientShut = shut_text names (receiver_of call)
refusal_text names lines s call Refusal.NoSuchEnd = on_end call (end_text names lines s)
refusal_text names lines s call Refusal.InTransit = on_end call (end_text names lines s)
refusal_text names lines s call Refusal.WrongKind = on_end call (kind_of_text names lines s)
refusal_text names lines s call Refusal.TooManyNodes = limit_text s.limits.nodes (codes "kept node") []
refusal_text names lines s call Refusal.TooManyCollections = limit_text s.limits.collections (codes "kept collection") []
refusal_text names lines s call Refusal.TrackersFull = limit_text s.limits.trackers (codes "waiting tracker") []
refusal_text names lines s call Refusal.NoSuchHandle = lacked_text names s call
refusal_text names lines s call Refusal.TooManyHandles =
    limit_text s.limits.handles (codes "open handle") (codes " of one buffer and strength")

-- the line that did a deed of this kind to the end that the call is made on, if there is one
abbrev pub earlier_text : DeedLines → ℕ → Call → List ℕ
earlier_text lines kind call = on_end call (λ key. deed_since lines (deed_on kind key))

-- the earlier line that makes the call a misuse: two misuses rest on no single line
abbrev pub misused_text : DeedLines → Call → Misuse → List ℕ
misused_text lines call Misuse.SecondConstraints = earlier_text lines CONSTRAINED call
misused_text lines call Misuse.LateWeak = earlier_text lines CONSTRAINED call
misused_text lines call Misuse.LateWeakOk = earlier_text lines TAKEN call
misused_text lines call Misuse.WeakNotOk = []
misused_text lines call Misuse.TooManyNodeTrackers = []
