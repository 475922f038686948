-- Why a line is bad: a reason for each test of a line, in the order in which the tests are tried. Where no test fails there
-- is no reason.
use Rattle.std.specs.Prelude.{ℕ, ◌≡◌, Bool, false, ◌==◌, ◌-◌, ◌&&◌, nat_le, nat_lt, not, if◌then◌else◌, List, [], ◌∷◌, ◌++◌, length, map, take, codes, slice_get, Option, Some, None, is_some, ⊤}
use Rattle.std.specs.List.{list_any, position}
use Rattle.std.specs.Option.{option_map, option_map_or}
use Rattle.std.specs.Str.{bytes_eq}
use Rattle.sm_names.specs.declared.call_parts.ArgumentForm.{ArgumentForm}
use Rattle.sm_names.specs.declared.call_parts.Product.{Product}
use Rattle.sm_names.specs.declared.call_parts.Target.{Target}
use Rattle.sm_names.specs.declared.call_rows.CallKind.{CallKind}
use Rattle.sm_names.specs.declared.rules.TheConstants.{MAX_AT_LEAST, MAX_CAMPING, MAX_SIZE}
use Rattle.sm_names.specs.CallRows.{brings_end, is_tracker, kind_named, row_of}
use Rattle.script_lines.specs.declared.TheConstants.{MOST_LINE_BYTES}
use Rattle.script_lines.specs.declared.label.Label.{Label}
use Rattle.script_lines.specs.BufferLabels.{buffer_label_of}
use Rattle.script_lines.specs.Labels.{label_of}
use Rattle.script_lines.specs.Lines.{strength_named, view_of}
use Rattle.script_lines.specs.Numbers.{number_of}
use Rattle.script_lines.specs.Words.{words}
use Rattle.script_labels.specs.declared.tables.Tables.{Tables}
use Rattle.script_labels.specs.Tables.{Keeps}
use Rattle.script_labels.specs.Names.{Names, labelled_client, labelled_node, labelled_tracker}
use Rattle.report_io.specs.declared.reasons.Reason.{Reason as Kept}
use Rattle.report_io.specs.declared.wanted.Wanted.{Wanted}

-- ---- what is told

-- a reason: words, a word of the line, and more words
pub record Reason : Type 0 where
  pub before : List ℕ
  pub word : List ℕ
  pub behind : List ℕ

-- the reason that is kept so
abbrev pub told : Kept → Reason
told kept = record { before = kept.before.now; word = kept.word.now; behind = kept.behind.now }

-- the byte, or a question mark in the place of one that is no printed ASCII
abbrev pub shown_byte : ℕ → ℕ
shown_byte byte = if nat_lt 32 byte && nat_lt byte 127 then byte else 63

-- the text of the reason
abbrev pub reason_text : Reason → List ℕ
reason_text reason = reason.before ++ map shown_byte reason.word ++ reason.behind

-- words alone
abbrev pub plain : List ℕ → Reason
plain before = record { before = before; word = []; behind = [] }

-- words, and then a word of the line
abbrev pub before_word : List ℕ → List ℕ → Reason
before_word before word = record { before = before; word = word; behind = [] }

-- the word that is to follow this one is missing
abbrev pub missing : List ℕ → Reason
missing last = before_word (codes "a word is missing after ") last

-- the word is one too many
abbrev pub too_many : List ℕ → Reason
too_many word = before_word (codes "a word too many: ") word

-- no word of the language is spelled so
abbrev pub no_word : List ℕ → Reason
no_word word = before_word (codes "no such word: ") word

-- the label is to be new, and stands for something
abbrev pub bound : List ℕ → Reason
bound label = record { before = codes "the label "; word = label; behind = codes " is bound already" }

-- the label of a client is used, and stands for none
abbrev pub no_client : List ℕ → Reason
no_client label = before_word (codes "no client has the label ") label

-- the word is no label
abbrev pub no_label : List ℕ → Reason
no_label word = before_word (codes "a label is a lower-case letter and up to 15 lower-case letters or digits: ") word

-- the reason of a test that is to hold
abbrev pub reason_unless : Bool → Reason → Option Reason
reason_unless holds reason = if holds then None else Some reason

-- the first reason, or else the second
abbrev pub reason_or : Option Reason → Option Reason → Option Reason
reason_or first second = option_map_or Some first second

-- ---- what the words behind a verb are to be

-- the new label of what a call brings, if that has one
abbrev pub new_wanted : Product → Wanted
new_wanted product =
    let tracker : Wanted = if is_tracker product then Wanted.NewTracker else Wanted.End in
    if brings_end product then Wanted.NewNode else tracker

-- four words: what the call is made on, and three more
abbrev pub wanted_on : Target → Wanted → Wanted → Wanted → List Wanted
wanted_on Target.Nothing first second third = first ∷ second ∷ third ∷ Wanted.End ∷ []
wanted_on Target.Handle first second third = Wanted.Buffer ∷ first ∷ second ∷ third ∷ []
wanted_on _ first second third = Wanted.Node ∷ first ∷ second ∷ third ∷ []

-- the words of a call: what it is made on, what else it says, and a new label
abbrev pub wanted_by : ArgumentForm → Target → Wanted → List Wanted
wanted_by ArgumentForm.Nothing on new = wanted_on on new Wanted.End Wanted.End
wanted_by ArgumentForm.Client on new = wanted_on on Wanted.Client new Wanted.End
wanted_by ArgumentForm.Children on new = wanted_on on Wanted.Children new Wanted.End
wanted_by ArgumentForm.Constraints on new = wanted_on on Wanted.Camping Wanted.AtLeast Wanted.Size
wanted_by ArgumentForm.Most on new = wanted_on on Wanted.Number new Wanted.End
wanted_by ArgumentForm.Strength on new = wanted_on on Wanted.Strength new Wanted.End
wanted_by ArgumentForm.Gift on new = wanted_on on Wanted.Strength Wanted.Client new

-- the words of a call of this kind
abbrev pub wanted_of_kind : CallKind → List Wanted
wanted_of_kind kind = wanted_by (row_of kind).says (row_of kind).on (new_wanted (row_of kind).brings)

-- the words behind this verb, if it is one
abbrev pub wanted_behind : List ℕ → Option (List Wanted)
wanted_behind verb =
    let call : Option (List Wanted) = option_map (λ kind. wanted_of_kind kind) (kind_named verb) in
    if bytes_eq verb (codes "poll") then Some (wanted_on Target.Nothing Wanted.Tracker Wanted.End Wanted.End) else call

-- ---- tests of a word

-- the word spells a number from the least to the most
abbrev pub is_within : ℕ → ℕ → List ℕ → Bool
is_within least most word = option_map_or (λ number. nat_le least number && nat_le number most) (number_of word) false

-- the word is a label, and the label passes its own test
abbrev pub label_reason : (Label → Option Reason) → List ℕ → Option Reason
label_reason test word = option_map_or test (label_of word) (Some (no_label word))

-- the label is bound, or is not, as it is to be
abbrev pub named_reason : Names → Wanted → Label → List ℕ → Option Reason
named_reason names Wanted.Client label word = reason_unless (is_some (labelled_client names label)) (no_client word)
named_reason names Wanted.Node label word =
    reason_unless (is_some (labelled_node names label)) (before_word (codes "no node has the label ") word)
named_reason names Wanted.NewNode label word = reason_unless (not (is_some (labelled_node names label))) (bound word)
named_reason names Wanted.Tracker label word =
    reason_unless (is_some (labelled_tracker names label)) (before_word (codes "no tracker has the label ") word)
named_reason names Wanted.NewTracker label word = reason_unless (not (is_some (labelled_tracker names label))) (bound word)
named_reason names _ label word = None

-- the same, if it is known what labels stand for
abbrev pub bound_reason : Option Names → Wanted → Label → List ℕ → Option Reason
bound_reason None wanted label word = None
bound_reason (Some names) wanted label word = named_reason names wanted label word

-- what stands before the point, or the whole word
abbrev pub before_point : List ℕ → List ℕ
before_point word = option_map_or (λ at. take at word) (position (λ byte. byte == 46) word) word

-- the word is the name of a buffer, and its label stands for a node
abbrev pub buffer_reason : Option Names → List ℕ → Option Reason
buffer_reason names word = option_map_or
    (λ buffer. bound_reason names Wanted.Node buffer.node (before_point word))
    (buffer_label_of word) (Some (before_word (codes "no buffer: ") word))

-- the word is what it is to be
abbrev pub word_reason : Option Names → Wanted → List ℕ → Option Reason
word_reason names Wanted.End word = Some (too_many word)
word_reason names Wanted.Client word = label_reason (λ label. bound_reason names Wanted.Client label word) word
word_reason names Wanted.Node word = label_reason (λ label. bound_reason names Wanted.Node label word) word
word_reason names Wanted.NewNode word = label_reason (λ label. bound_reason names Wanted.NewNode label word) word
word_reason names Wanted.Tracker word = label_reason (λ label. bound_reason names Wanted.Tracker label word) word
word_reason names Wanted.NewTracker word = label_reason (λ label. bound_reason names Wanted.NewTracker label word) word
word_reason names Wanted.Buffer word = buffer_reason names word
word_reason names Wanted.Strength word =
    reason_unless (is_some (strength_named word)) (before_word (codes "expected strong or weak: ") word)
word_reason names Wanted.Children word = reason_unless (bytes_eq word (codes "children")) (no_word word)
word_reason names Wanted.Camping word = reason_unless (is_within 0 MAX_CAMPING word) (plain (codes "camping is 0 to 64"))
word_reason names Wanted.AtLeast word = reason_unless (is_within 0 MAX_AT_LEAST word) (plain (codes "at least is 0 to 64"))
word_reason names Wanted.Size word = reason_unless (is_within 1 MAX_SIZE word) (plain (codes "the size is 1 to 1073741824"))
word_reason names Wanted.Number word =
    reason_unless (is_within 0 4294967295 word) (plain (codes "the number is 0 to 4294967295"))

-- no word is left behind the last one: none is to follow, or only `children`, which may be left out
abbrev pub missing_reason : List ℕ → Wanted → Option Reason
missing_reason last Wanted.End = None
missing_reason last Wanted.Children = None
missing_reason last _ = Some (missing last)

-- no word is left
abbrev pub rest_reason : List (List ℕ) → Option Reason
rest_reason [] = None
rest_reason (word ∷ more) = Some (too_many word)

-- the words behind the last one are what they are to be, one by one
abbrev pub words_reason : Option Names → List ℕ → List Wanted → List (List ℕ) → Option Reason
words_reason names last [] words = rest_reason words
words_reason names last (wanted ∷ more) [] = missing_reason last wanted
words_reason names last (wanted ∷ more) (word ∷ rest) =
    reason_or (word_reason names wanted word) (words_reason names word more rest)

-- ---- tests of a line

-- the label of a client is new where it joins, and is bound at any other call
abbrev pub client_reason : List ℕ → Bool → Bool → Option Reason
client_reason first joins is_bound =
    if joins then reason_unless (not is_bound) (bound first) else reason_unless is_bound (no_client first)

-- the same, if it is known what labels stand for
abbrev pub caller_reason : Option Names → List ℕ → Label → Bool → Option Reason
caller_reason None first client joins = None
caller_reason (Some names) first client joins = client_reason first joins (is_some (labelled_client names client))

-- there is such a verb, the client is as it must be, and then the words behind the verb are
abbrev pub verb_reason : Option Names → List ℕ → Label → List (List ℕ) → Option Reason
verb_reason names first client [] = Some (missing first)
verb_reason names first client (verb ∷ rest) = option_map_or
    (λ wanted. reason_or (caller_reason names first client (bytes_eq verb (codes "join")))
    (words_reason names verb wanted rest))
    (wanted_behind verb) (Some (no_word verb))

-- exactly one view stands behind `show`
abbrev pub view_reason : List (List ℕ) → Option Reason
view_reason [] = Some (missing (codes "show"))
view_reason (view ∷ rest) =
    reason_or (reason_unless (is_some (view_of view)) (before_word (codes "no such view: ") view)) (rest_reason rest)

-- `show` and a view, or a client's label and what it asks
abbrev pub said_reason : Option Names → List (List ℕ) → Option Reason
said_reason names [] = None
said_reason names (first ∷ rest) =
    let asked : Option Reason = label_reason (λ client. verb_reason names first client rest) first in
    if bytes_eq first (codes "show") then view_reason rest else asked

-- the word has no byte
abbrev pub is_empty : List ℕ → Bool
is_empty word = length word == 0

-- the bytes end in this one
abbrev pub ends_in : ℕ → List ℕ → Bool
ends_in byte bytes = option_map_or (λ last. last == byte) (slice_get bytes (length bytes - 1)) false

-- the tables keep what labels stand for, if there are tables
abbrev pub KeepsIf : Option Tables → Names → Type 0
KeepsIf None names = ⊤
KeepsIf (Some tables) names = Keeps tables names

-- what labels stand for, if there are tables
abbrev pub names_if : Option Tables → Names → Option Names
names_if tables names = option_map (λ t. names) tables

-- the reason is this one, by what labels stand for, if there are tables
abbrev pub IsFor : Option Tables → (Option Names → Option Reason) → Option Reason → Type 0
IsFor tables by reason = (names : Names) → KeepsIf tables names → reason ≡ by (names_if tables names)

-- why the line, which says something, is bad where labels stand for these, or for anything: the first test that fails
abbrev pub line_reason : Option Names → List ℕ → Option Reason
line_reason names line =
    let said : Option Reason = said_reason names (words line) in
    let spaced : Option Reason = if list_any is_empty (words line)
    then Some (plain (codes "put one space between words, and none elsewhere")) else said in
    let ended : Option Reason = if ends_in 13 line then Some (plain (codes "the line ends in CR")) else spaced in
    if nat_lt MOST_LINE_BYTES (length line) then Some (plain (codes "the line is longer than 256 bytes")) else ended

-- the words are the reason of the line: that of the first test that fails, and one does
abbrev pub IsReason : Names → List ℕ → List ℕ → Type 0
IsReason names line words = (reason : Reason) × ((line_reason (Some names) line ≡ Some reason) × (words ≡ reason_text reason))

-- what is told of a last line that has no end
abbrev pub unended_reason : List ℕ
unended_reason = codes "the last line lacks a newline"

-- what is told of a line that was called bad: the reason, or these words where no test fails
abbrev pub bad_text : Names → List ℕ → List ℕ
bad_text names line = option_map_or reason_text (line_reason (Some names) line) (codes "no such line")
