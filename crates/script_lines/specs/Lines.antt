-- What a line of bytes says.
use Rattle.std.specs.Prelude.{ℕ, Bool, true, false, ◌==◌, ◌&&◌, ◌||◌, nat_le, nat_lt, if◌then◌else◌, List, [], ◌∷◌, length, codes, Option, Some, None}
use Rattle.std.specs.Option.{option_map, option_and_then}
use Rattle.std.specs.Str.{bytes_eq}
use Rattle.sm_names.specs.declared.rules.TheConstants.{MAX_AT_LEAST, MAX_CAMPING, MAX_SIZE}
use Rattle.sm_names.specs.declared.call_parts.Argument.{Argument}
use Rattle.sm_names.specs.declared.call_parts.ArgumentForm.{ArgumentForm}
use Rattle.sm_names.specs.declared.call_parts.Object.{Object}
use Rattle.sm_names.specs.declared.call_parts.Product.{Product}
use Rattle.sm_names.specs.declared.call_parts.Target.{Target}
use Rattle.sm_names.specs.declared.call_rows.CallKind.{CallKind}
use Rattle.sm_names.specs.declared.keys.Strength.{Strength}
use Rattle.sm_names.specs.CallRows.{brings_end, is_tracker, kind_named, row_of}
use Rattle.sm_names.specs.Demands.{Demand}
use Rattle.script_lines.specs.declared.TheConstants.{MOST_LINE_BYTES}
use Rattle.script_lines.specs.declared.buffer_label.BufferLabel.{BufferLabel}
use Rattle.script_lines.specs.declared.label.Label.{Label}
use Rattle.script_lines.specs.declared.line.Line.{Line}
use Rattle.script_lines.specs.declared.line.Request.{Request}
use Rattle.script_lines.specs.declared.line.Query.{Query}
use Rattle.script_lines.specs.BufferLabels.{buffer_label_of}
use Rattle.script_lines.specs.Labels.{label_of}
use Rattle.script_lines.specs.Numbers.{number_of}
use Rattle.script_lines.specs.Words.{words}

-- the value, where no word follows
abbrev pub at_end : {A : Type 0} → List (List ℕ) → Option A → Option A
at_end [] said = said
at_end (next ∷ rest) said = None

-- the view of this name
abbrev pub view_of : List ℕ → Option Query
view_of word =
    let free : Option Query = if bytes_eq word (codes "free") then Some Query.Free else None in
    let fired : Option Query = if bytes_eq word (codes "fired") then Some Query.Fired else free in
    let held : Option Query = if bytes_eq word (codes "held") then Some Query.Held else fired in
    if bytes_eq word (codes "live") then Some Query.Live else held

-- what is shown, by the words behind `show`: exactly one
abbrev pub show_of : List (List ℕ) → Option Line
show_of [] = None
show_of (what ∷ rest) = at_end rest (option_map (λ view. Line.Show view) (view_of what))

-- constraints of these numbers, if they are in range
abbrev pub demand_in_range : ℕ → ℕ → ℕ → Option Demand
demand_in_range camping at_least size =
    if nat_le camping MAX_CAMPING && nat_le at_least MAX_AT_LEAST && nat_le 1 size && nat_le size MAX_SIZE
    then Some (record { camping = camping; at_least = at_least; size = size })
    else None

-- the constraints that three words spell
abbrev pub demand_of : List ℕ → List ℕ → List ℕ → Option Demand
demand_of camping at_least size =
    option_and_then (λ c. option_and_then (λ l. option_and_then (demand_in_range c l) (number_of size)) (number_of at_least))
    (number_of camping)

-- the strength of this name
abbrev pub strength_named : List ℕ → Option Strength
strength_named word =
    let weak : Option Strength = if bytes_eq word (codes "weak") then Some Strength.Weak else None in
    if bytes_eq word (codes "strong") then Some Strength.Strong else weak

-- ---- what is read of the first words, and the words behind them

-- what the first word is read as
abbrev pub first_read : {A : Type 0} → (List ℕ → Option A) → List (List ℕ) → Option (A × List (List ℕ))
first_read read [] = None
first_read read (word ∷ rest) = option_map (λ said. (said, rest)) (read word)

-- what a call is made on: a node by its label, a handle by its buffer
abbrev pub object_read : Target → List (List ℕ) → Option (Object Label BufferLabel × List (List ℕ))
object_read Target.Nothing words = Some (Object.Nothing, words)
object_read Target.Handle words = first_read (λ word. option_map Object.Buffer (buffer_label_of word)) words
object_read _ words = first_read (λ word. option_map Object.Node (label_of word)) words

-- weak handles for children to come too: the one word there may be says so
abbrev pub children_read : List (List ℕ) → Option (Argument Label × List (List ℕ))
children_read [] = Some (Argument.Children false, [])
children_read (word ∷ rest) =
    if bytes_eq word (codes "children") then Some (Argument.Children true, rest) else None

-- constraints: three words
abbrev pub size_read : List ℕ → List ℕ → List (List ℕ) → Option (Argument Label × List (List ℕ))
size_read camping at_least words =
    first_read (λ size. option_map Argument.Constraints (demand_of camping at_least size)) words

-- constraints behind their first word
abbrev pub at_least_read : List ℕ → List (List ℕ) → Option (Argument Label × List (List ℕ))
at_least_read camping [] = None
at_least_read camping (at_least ∷ rest) = size_read camping at_least rest

-- constraints: three words
abbrev pub constraints_read : List (List ℕ) → Option (Argument Label × List (List ℕ))
constraints_read [] = None
constraints_read (camping ∷ rest) = at_least_read camping rest

-- a strength, and a client
abbrev pub receiver_read : Strength → List (List ℕ) → Option (Argument Label × List (List ℕ))
receiver_read strength words = first_read (λ word. option_map (Argument.Gift strength) (label_of word)) words

-- a gift: a strength, and the client that gets it
abbrev pub gift_read : List (List ℕ) → Option (Argument Label × List (List ℕ))
gift_read [] = None
gift_read (word ∷ rest) = option_and_then (λ strength. receiver_read strength rest) (strength_named word)

-- what else the call says
abbrev pub argument_read : ArgumentForm → List (List ℕ) → Option (Argument Label × List (List ℕ))
argument_read ArgumentForm.Nothing words = Some (Argument.Nothing, words)
argument_read ArgumentForm.Client words = first_read (λ word. option_map Argument.Client (label_of word)) words
argument_read ArgumentForm.Children words = children_read words
argument_read ArgumentForm.Constraints words = constraints_read words
argument_read ArgumentForm.Most words = first_read (λ word. option_map Argument.Most (number_of word)) words
argument_read ArgumentForm.Strength words = first_read (λ word. option_map Argument.Strength (strength_named word)) words
argument_read ArgumentForm.Gift words = gift_read words

-- the label that is to be bound, if the call makes or brings what has a label
abbrev pub binds_read : Product → List (List ℕ) → Option (Option Label × List (List ℕ))
binds_read product words =
    if brings_end product || is_tracker product then first_read (λ word. option_map Some (label_of word)) words else Some (None, words)

-- ---- lines

-- what is asked by a call of this kind, by the words behind its own
abbrev pub request_of : CallKind → List (List ℕ) → Option (Request Label BufferLabel)
request_of kind words =
    option_and_then (λ (o : Object Label BufferLabel × List (List ℕ)).
    option_and_then (λ (a : Argument Label × List (List ℕ)).
    option_and_then (λ (b : Option Label × List (List ℕ)).
    at_end b.1 (Some (record { kind = kind; object = o.0; argument = a.0; binds = b.0 })))
    (binds_read (row_of kind).brings a.1))
    (argument_read (row_of kind).says o.1))
    (object_read (row_of kind).on words)

-- what a client asks, by the call's word and the words behind it
abbrev pub ask_of : Label → List ℕ → List (List ℕ) → Option Line
ask_of client word rest =
    option_map (λ request. Line.Ask client request) (option_and_then (λ kind. request_of kind rest) (kind_named word))

-- a look at a tracker: its label is the one word that follows
abbrev pub poll_of : Label → List (List ℕ) → Option Line
poll_of client [] = None
poll_of client (word ∷ rest) = at_end rest (option_map (λ tracker. Line.Poll client tracker) (label_of word))

-- what a client does, by the word behind its label and the words behind that: it joins, polls, or makes another call
abbrev pub call_read : Label → List ℕ → List (List ℕ) → Option Line
call_read client word rest =
    let ask : Option Line = ask_of client word rest in
    let poll : Option Line = if bytes_eq word (codes "poll") then poll_of client rest else ask in
    if bytes_eq word (codes "join") then at_end rest (Some (Line.Join client)) else poll

-- what a client asks, by the words behind its label
abbrev pub asked_of : Label → List (List ℕ) → Option Line
asked_of client [] = None
asked_of client (word ∷ rest) = call_read client word rest

-- what the words say: `show` is no client
abbrev pub said_of : List (List ℕ) → Option Line
said_of [] = None
said_of (first ∷ rest) =
    let asked : Option Line = option_and_then (λ client. asked_of client rest) (label_of first) in
    if bytes_eq first (codes "show") then show_of rest else asked

-- the line says nothing: it is empty or begins with #
abbrev pub is_silent : List ℕ → Bool
is_silent [] = true
is_silent (first ∷ others) = first == 35

-- what the line says, without its end; a bad line says nothing that is known
abbrev pub line_of : List ℕ → Option Line
line_of bytes =
    let said : Option Line = if is_silent bytes then Some Line.Nothing else said_of (words bytes) in
    if nat_lt MOST_LINE_BYTES (length bytes) then None else said
