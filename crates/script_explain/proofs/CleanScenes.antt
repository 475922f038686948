-- The replies of a script's lines are lines, and begin with no space.
use Rattle.std.proofs.Common.{◌≡◌, ℕ, zero, suc, ◌+◌, ◌/◌, ◌%◌, ◌==◌, nat_lt, not, if◌then◌else◌, Bool, true}
use Rattle.std.proofs.Common.{false, List, [], ◌∷◌, map, Option, Some, None, refl, sym, subst, inl, inr, arith}
use Rattle.std.proofs.lemmas.Bool.Decides.{nat_tests}
use Rattle.std.specs.Prelude.{IfSome}
use Rattle.std.specs.Fmt.{decimal, digits, digits_onto, digit_glyph}
use Rattle.std.specs.List.{list_all, flat_map}
use Rattle.std.specs.Option.{option_map, option_map_or}
use Rattle.std.specs.Int.{bit_at}
use Rattle.sm_names.specs.declared.rules.TheConstants.{MAX_BUFFERS}
use Rattle.sm_names.specs.declared.call_parts.Product.{Product}
use Rattle.sm_names.specs.declared.keys.BufferName.{BufferName}
use Rattle.sm_names.specs.declared.keys.HeldBuffer.{HeldBuffer}
use Rattle.sm_names.specs.declared.keys.Kind.{Kind}
use Rattle.sm_names.specs.declared.keys.NodeKey.{NodeKey}
use Rattle.sm_names.specs.declared.keys.Strength.{Strength}
use Rattle.sm_names.specs.declared.messages.Call.{Call}
use Rattle.sm_names.specs.declared.messages.Reply.{Reply}
use Rattle.sm_names.specs.declared.outcomes.Cause.{Cause}
use Rattle.sm_names.specs.declared.outcomes.Failure.{Failure}
use Rattle.sm_names.specs.declared.outcomes.Misuse.{Misuse}
use Rattle.sm_names.specs.declared.outcomes.Refusal.{Refusal}
use Rattle.sm_names.specs.declared.tracking.Fired.{Fired}
use Rattle.sm_names.specs.CallRows.{is_tracker, row_of}
use Rattle.sm_names.specs.Handles.{names as names_of}
use Rattle.sm_names.specs.Marks.{Timeline}
use Rattle.sm_names.specs.Numbers.{misuse_name, misuse_number, refusal_name, refusal_number}
use Rattle.sm_names.specs.Sameness.{same_key}
use Rattle.sm_names.specs.Timelines.{timeline}
use Rattle.sm_names.specs.Trackers.{fired}
use Rattle.sm_names.specs.Views.{live_nodes, held_by_page, free_pages}
use Rattle.script_lines.specs.declared.buffer_label.BufferLabel.{BufferLabel}
use Rattle.script_lines.specs.declared.label.Label.{Label}
use Rattle.script_lines.specs.declared.line.Line.{Line}
use Rattle.script_lines.specs.declared.line.Request.{Request}
use Rattle.script_lines.specs.declared.line.Query.{Query}
use Rattle.script_lines.specs.Labels.{label_text, text_of_label}
use Rattle.script_lines.specs.Lines.{line_of}
use Rattle.report_io.specs.IndentedLines.{is_indented}
use Rattle.script_labels.specs.declared.act.Act.{Act}
use Rattle.script_labels.specs.declared.act.Binds.{Binds}
use Rattle.script_labels.specs.Names.{Names, Place, act_binding, act_in, act_of, ask_by, call_named, labelled_client, first_label}
use Rattle.script_labels.specs.Names.{for_new, for_tracker, label_of_node, label_of_root, label_of_tracker, names_after, labelled_tracker}
use Rattle.sm_script.specs.Scenes.{Answers, ActGives, IsPolled, Scene, as_line}
use Rattle.script_lines.specs.LineTexts.{strength_name}
use Rattle.script_labels.specs.Texts.{bound_text, buffer_text, cause_text, failure_name, fired_text}
use Rattle.script_labels.specs.Texts.{held_text, member_text, node_text, numbered, reply_text, view_text}
use Rattle.script_explain.proofs.CleanLabels.{IsCleanBinds, IsCleanLine, and-left, and-right, inner-append}
use Rattle.script_explain.proofs.CleanLabels.{is_inner, line-clean, some-if, some-map, some-then, some-then-of}

-- ---- numbers

-- a byte from 48 on, as the glyphs of the digits 0 to 9 are, ends no line
glyph-low : (d : ℕ) → not (48 + d == 10) ≡ true
glyph-low d = grind (arith, nat_tests)

-- a byte from 87 on, as the glyphs of the digits from 10 on are, ends no line
glyph-high : (d : ℕ) → not (87 + d == 10) ≡ true
glyph-high d = grind (arith, nat_tests)

-- the glyph of a digit ends no line, whichever of the two ranges contains it
glyph-inner : (d : ℕ) → not (digit_glyph false d == 10) ≡ true
glyph-inner d = elim (nat_lt d 10) as (λ t. not ((if t then 48 + d else 87 + d) == 10) ≡ true)
    [ true ↦ glyph-low d | false ↦ glyph-high d ]

-- the digits of a number add no end of a line to the text that they precede
digits-inner : (k n : ℕ) (behind : List ℕ) → is_inner behind ≡ true → is_inner (digits_onto k 10 false n behind) ≡ true
digits-inner zero n behind inner = inner
digits-inner (suc k) n behind inner =
    let here : is_inner (digit_glyph false (n % 10) ∷ behind) ≡ true = rw (glyph-inner (n % 10)) inner in
    elim (n / 10 == 0) as (λ t. is_inner (if t then digit_glyph false (n % 10) ∷ behind
    else digits_onto k 10 false (n / 10) (digit_glyph false (n % 10) ∷ behind)) ≡ true) [
      | true ↦ here
      | false ↦ digits-inner k (n / 10) (digit_glyph false (n % 10) ∷ behind) here
    ]

-- a decimal number contains no end of a line: it consists of digits alone
decimal-inner : (n : ℕ) → is_inner (decimal n) ≡ true
unfolding digits
decimal-inner n = digits-inner 64 n [] refl

-- a number and a space in front of a name add no end of a line to it
numbered-inner : (n : ℕ) (name : List ℕ) → is_inner name ≡ true → is_inner (numbered n name) ≡ true
numbered-inner n name inner = inner-append (decimal n) (32 ∷ name) (decimal-inner n) inner

-- texts that have no end of a line have none when they stand one behind another
flat-inner : {A : Type 0} (f : A → List ℕ) (xs : List A) → ((x : A) → is_inner (f x) ≡ true) → is_inner (flat_map f xs) ≡ true
flat-inner f [] inner = refl
flat-inner f (x ∷ xs) inner = inner-append (f x) (flat_map f xs) (inner x) (flat-inner f xs inner)

-- ---- names

-- the labels of nodes and trackers are spelled within a line
pub record AreClean (names : Names) : Type 0 where
  pub nodes : list_all (λ (n : Label × Place). is_inner (text_of_label n.0)) names.nodes ≡ true
  pub trackers : list_all (λ (t : Label × ℕ). is_inner (text_of_label t.0)) names.trackers ≡ true

-- the first that is there
or-clean : (first other : Option Label) → is_inner (label_text first) ≡ true → is_inner (label_text other) ≡ true →
    is_inner (label_text (option_map_or Some first other)) ≡ true
or-clean None other p q = q
or-clean (Some label) other p q = p

-- the first label of some that are clean
first-clean : {A B : Type 0} (test : A → Bool) (given : List B) (key : B → A) (label : B → Label) →
    list_all (λ g. is_inner (text_of_label (label g))) given ≡ true →
    is_inner (label_text (first_label test (map (λ g. (key g, label g)) given))) ≡ true
first-clean test [] key label clean = refl
first-clean test (g ∷ older) key label clean =
    let here : is_inner (text_of_label (label g)) ≡ true =
    and-left (is_inner (text_of_label (label g))) (list_all (λ h. is_inner (text_of_label (label h))) older) clean in
    let rest = first-clean test older key label
    (and-right (is_inner (text_of_label (label g))) (list_all (λ h. is_inner (text_of_label (label h))) older) clean) in
    or-clean (first_label test (map (λ h. (key h, label h)) older)) (if test (key g) then Some (label g) else None) rest
    (elim (test (key g)) as (λ t. is_inner (label_text (if t then Some (label g) else None)) ≡ true) [ true ↦ here | false ↦ refl ])

-- the label of a node has no end of a line: the names contain it, or there is none
node-inner : (names : Names) → AreClean names → (node : NodeKey) → is_inner (label_text (label_of_node names node)) ≡ true
node-inner names clean node =
    first-clean (λ other. same_key other node) names.nodes (λ (n : Label × Place). n.1.0) (λ (n : Label × Place). n.0) clean.nodes

-- the label of a collection's root has no end of a line: the names contain it, or there is none
root-inner : (names : Names) → AreClean names → (collection : ℕ) → is_inner (label_text (label_of_root names collection)) ≡ true
root-inner names clean collection =
    first-clean (λ other. other == collection) names.nodes (λ (n : Label × Place). n.1.1) (λ (n : Label × Place). n.0) clean.nodes

-- the label of a tracker has no end of a line: the names contain it, or there is none
tracker-inner : (names : Names) → AreClean names → (tracker : ℕ) → is_inner (label_text (label_of_tracker names tracker)) ≡ true
tracker-inner names clean tracker =
    first-clean (λ other. other == tracker) names.trackers (λ (t : Label × ℕ). t.1) (λ (t : Label × ℕ). t.0) clean.trackers

-- what a line binds is spelled within a line
abbrev pub IsCleanAct : Act → Type 0
IsCleanAct (Act.Ask client call binds) = is_inner (bound_text binds) ≡ true
IsCleanAct _ = Unit {0}

-- names stay clean after a reply: they gain at most the label that the line binds
names-clean : (names : Names) → AreClean names → (binds : Binds) → is_inner (bound_text binds) ≡ true → (reply : Reply) →
    AreClean (names_after names binds reply)
names-clean names clean Binds.Nothing inner reply = clean
names-clean names clean (Binds.Client label) inner (Reply.Joined client) = record { nodes = clean.nodes; trackers = clean.trackers }
names-clean names clean (Binds.Client label) inner reply = clean
names-clean names clean (Binds.Node label) inner (Reply.Token key collection) =
    record { nodes = rw inner clean.nodes; trackers = clean.trackers }
names-clean names clean (Binds.Node label) inner (Reply.Collected key kind collection) =
    record { nodes = rw inner clean.nodes; trackers = clean.trackers }
names-clean names clean (Binds.Node label) inner reply = clean
names-clean names clean (Binds.Tracker label) inner (Reply.Tracker tracker) =
    record { nodes = clean.nodes; trackers = rw inner clean.trackers }
names-clean names clean (Binds.Tracker label) inner reply = clean

-- ---- acts

-- the act for a new node is clean: it is the given act, unless its label stands for a node already
new-clean : (names : Names) (label : Label) (act : Act) → IsCleanAct act → IfSome (for_new names label act) IsCleanAct
new-clean names label act clean = some-if IsCleanAct _ None (Some act) tt clean

-- the act for a tracker is clean: it is the given act, unless its label stands for one already
track-clean : (names : Names) (label : Label) (act : Act) → IsCleanAct act → IfSome (for_tracker names label act) IsCleanAct
track-clean names label act clean = some-if IsCleanAct _ None (Some act) tt clean

-- a call with the label that it is to bind
binding-clean : (names : Names) (product : Product) (client : ℕ) (call : Call) (binds : Option Label) → IsCleanBinds binds →
    IfSome (act_binding names product client call binds) IsCleanAct
binding-clean names product client call None clean = refl
binding-clean names product client call (Some label) clean =
    some-if IsCleanAct (is_tracker product) _ _ (track-clean names label (Act.Ask client call (Binds.Tracker label)) clean)
    (new-clean names label (Act.Ask client call (Binds.Node label)) clean)

-- the act of a request is clean: it binds the label of the request or none
ask-clean : (names : Names) (client : ℕ) (r : Request Label BufferLabel) → IsCleanBinds r.binds →
    IfSome (ask_by names client r) IsCleanAct
ask-clean names client r clean =
    some-then IsCleanAct (λ call. act_binding names (row_of r.kind).brings client call r.binds) (call_named names r)
    (λ call. binding-clean names (row_of r.kind).brings client call r.binds clean)

-- the act of a clean line is clean: it binds the label of the line or none
act-clean : (names : Names) (line : Line) → IsCleanLine line → IfSome (act_of names line) IsCleanAct
act-clean names Line.Nothing clean = tt
act-clean names (Line.Join client) clean = some-if IsCleanAct _ None (Some (Act.Ask 0 Call.Join (Binds.Client client))) tt clean
act-clean names (Line.Ask client request) clean =
    some-then IsCleanAct (λ c. ask_by names c request) (labelled_client names client) (λ c. ask-clean names c request clean)
act-clean names (Line.Poll client tracker) clean =
    some-then IsCleanAct (λ c. option_map Act.Poll (labelled_tracker names tracker)) (labelled_client names client)
    (λ c. some-map IsCleanAct Act.Poll (labelled_tracker names tracker) (λ t. tt))
act-clean names (Line.Show view) clean = tt

-- what a line asks for
pub act_in-clean : (names : Names) (bytes : List ℕ) → IfSome (act_in names bytes) IsCleanAct
act_in-clean names bytes = some-then-of IsCleanAct IsCleanLine (act_of names) (line_of bytes) (line-clean bytes) (act-clean names)

-- ---- texts

-- a text that stands in one line, and begins with no two spaces
pub record IsPlain (text : List ℕ) : Type 0 where
  pub inner : is_inner text ≡ true
  pub whole : is_indented text ≡ false

-- the text of a buffer has no end of a line: it is a root's label, a dot and a number
buffer-inner : (names : Names) → AreClean names → (buffer : BufferName) → is_inner (buffer_text names buffer) ≡ true
buffer-inner names clean buffer =
    inner-append (label_text (label_of_root names buffer.collection)) (46 ∷ decimal buffer.index)
    (root-inner names clean buffer.collection) (decimal-inner buffer.index)

-- a buffer outside of the set has the empty text, and one in the set has its own
member-inner : (names : Names) → AreClean names → (set : ℕ) (buffer : BufferName) → is_inner (member_text names set buffer) ≡ true
member-inner names clean set buffer =
    elim (bit_at set buffer.index == 1) as (λ t. is_inner (if t then buffer_text names buffer else []) ≡ true)
    [ true ↦ buffer-inner names clean buffer | false ↦ refl ]

-- the text of a held buffer has no end of a line: it is the buffer's text and two numbers
held-inner : (names : Names) → AreClean names → (held : HeldBuffer) → is_inner (held_text names held) ≡ true
held-inner names clean held =
    inner-append (buffer_text names held.buffer) (32 ∷ numbered held.pages.start (decimal held.pages.pages))
    (buffer-inner names clean held.buffer)
    (numbered-inner held.pages.start (decimal held.pages.pages) (decimal-inner held.pages.pages))

-- the text of a firing has no end of a line: it is a tracker's label and the number of an event
fired-inner : (names : Names) → AreClean names → (firing : Fired) → is_inner (fired_text names firing) ≡ true
fired-inner names clean firing =
    inner-append (label_text (label_of_tracker names firing.tracker)) (32 ∷ decimal firing.event)
    (tracker-inner names clean firing.tracker) (decimal-inner firing.event)

-- the name of each misuse is a constant without an end of a line
misuse-inner : (misuse : Misuse) → is_inner (misuse_name misuse) ≡ true
misuse-inner Misuse.SecondConstraints = refl
misuse-inner Misuse.LateWeak = refl
misuse-inner Misuse.LateWeakOk = refl
misuse-inner Misuse.WeakNotOk = refl
misuse-inner Misuse.TooManyNodeTrackers = refl

-- the name of each refusal is a constant without an end of a line
refusal-inner : (refusal : Refusal) → is_inner (refusal_name refusal) ≡ true
refusal-inner Refusal.NoSuchClient = refl
refusal-inner Refusal.ClientShut = refl
refusal-inner Refusal.NoSuchEnd = refl
refusal-inner Refusal.InTransit = refl
refusal-inner Refusal.WrongKind = refl
refusal-inner Refusal.TooManyNodes = refl
refusal-inner Refusal.TooManyCollections = refl
refusal-inner Refusal.TrackersFull = refl
refusal-inner Refusal.NoSuchHandle = refl
refusal-inner Refusal.TooManyHandles = refl

-- the name of each failure is a constant without an end of a line
failure-inner : (failure : Failure) → is_inner (failure_name failure) ≡ true
failure-inner Failure.NoStrong = refl
failure-inner Failure.NoBuffers = refl
failure-inner Failure.TooManyBuffers = refl
failure-inner Failure.PoolFull = refl
failure-inner Failure.TooFew = refl
failure-inner Failure.TooSmall = refl

-- the text of a cause is constant, but for the name of a misuse or of a failure
cause-inner : (cause : Cause) → is_inner (cause_text cause) ≡ true
cause-inner Cause.Lost = refl
cause-inner (Cause.Misused misuse) = misuse-inner misuse
cause-inner (Cause.Failed failure) = failure-inner failure
cause-inner Cause.NoStrong = refl

-- the name of each strength is a constant without an end of a line
strength-inner : (strength : Strength) → is_inner (strength_name strength) ≡ true
strength-inner Strength.Strong = refl
strength-inner Strength.Weak = refl

-- the text of a reply is plain: it begins with a word, and no part of it ends a line
reply-plain : (names : Names) → AreClean names → (binds : Binds) → is_inner (bound_text binds) ≡ true → (reply : Reply) →
    IsPlain (reply_text names binds reply)
reply-plain names clean binds inner Reply.Done = record { inner = refl; whole = refl }
reply-plain names clean binds inner (Reply.Joined client) = record { inner = refl; whole = refl }
reply-plain names clean binds inner (Reply.Shut waiting) = record { inner = decimal-inner waiting; whole = refl }
reply-plain names clean binds inner (Reply.Token key collection) = record { inner = inner; whole = refl }
reply-plain names clean binds inner (Reply.Collected key Kind.Token collection) = record { inner = inner; whole = refl }
reply-plain names clean binds inner (Reply.Collected key Kind.Collection collection) = record { inner = inner; whole = refl }
reply-plain names clean binds inner (Reply.CollectedHandle buffer strength) = record {
  inner = inner-append (buffer_text names buffer) (32 ∷ strength_name strength) (buffer-inner names clean buffer) (strength-inner strength);
  whole = refl;
}
reply-plain names clean binds inner Reply.Empty = record { inner = refl; whole = refl }
reply-plain names clean binds inner Reply.Pending = record { inner = refl; whole = refl }
reply-plain names clean binds inner (Reply.Allocated count size) =
    record { inner = numbered-inner count (decimal size) (decimal-inner size); whole = refl }
reply-plain names clean binds inner (Reply.Taken collection strength set) = record {
  inner = inner-append (strength_name strength) (flat_map (member_text names set) (names_of collection MAX_BUFFERS))
      (strength-inner strength)
      (flat-inner (member_text names set) (names_of collection MAX_BUFFERS) (member-inner names clean set));
  whole = refl;
}
reply-plain names clean binds inner (Reply.Tracker id) = record { inner = inner; whole = refl }
reply-plain names clean binds inner (Reply.Refused refusal) =
    record { inner = numbered-inner (refusal_number refusal) (refusal_name refusal) (refusal-inner refusal); whole = refl }
reply-plain names clean binds inner (Reply.Misused misuse) =
    record { inner = numbered-inner (misuse_number misuse) (misuse_name misuse) (misuse-inner misuse); whole = refl }
reply-plain names clean binds inner (Reply.PeerClosed cause origin) = record {
  inner = inner-append (cause_text cause) (32 ∷ label_text (label_of_node names origin))
      (cause-inner cause) (node-inner names clean origin);
  whole = refl;
}

-- the text of a view is plain: it begins with the view's name, and no part of it ends a line
view-plain : (pool : ℕ) (marks : Timeline) (names : Names) → AreClean names → (view : Query) → IsPlain (view_text pool marks names view)
view-plain pool marks names clean Query.Live =
    record { inner = flat-inner (node_text names) (live_nodes marks) (node-inner names clean); whole = refl }
view-plain pool marks names clean Query.Held =
    record { inner = flat-inner (held_text names) (held_by_page pool marks) (held-inner names clean); whole = refl }
view-plain pool marks names clean Query.Fired =
    record { inner = flat-inner (fired_text names) (fired marks) (fired-inner names clean); whole = refl }
view-plain pool marks names clean Query.Free = record { inner = decimal-inner (free_pages pool marks); whole = refl }

-- the text of a poll is plain: it is `quiet`, or `fired` and the number of an event
poll-plain : (marks : Timeline) (tracker : ℕ) (text : List ℕ) → IsPolled marks tracker text → IsPlain text
poll-plain marks tracker text (inl quiet) = subst IsPlain (sym quiet) (record { inner = refl; whole = refl })
poll-plain marks tracker text (inr told) =
    subst IsPlain (sym told.2) (record { inner = decimal-inner told.0; whole = refl })

-- ---- lines

-- the text is nothing, or a line that is plain
pub data IsReply : List ℕ → Type 0 where
  NoReply : IsReply []
  OneReply : (text : List ℕ) → IsPlain text → IsReply (as_line text)

-- what a line gives, and where it leads
pub record Cleanly (text : List ℕ) (next : Scene) : Type 0 where
  pub reply : IsReply text
  pub clean : AreClean next.names

-- an act gives nothing or one plain line, and the names that follow it are clean
gives-clean : (pool : ℕ) (scene : Scene) → AreClean scene.names → (act : Act) → IsCleanAct act → (text : List ℕ) (next : Scene) →
    ActGives pool scene act text next → Cleanly text next
gives-clean pool scene clean Act.Nothing inner text next gives = record {
  reply = subst IsReply (sym gives.0) NoReply;
  clean = subst (λ (s : Scene). AreClean s.names) (sym gives.1) clean;
}
gives-clean pool scene clean (Act.Ask client call binds) inner text next gives = record {
  reply = subst IsReply (sym gives.1)
      (OneReply (reply_text scene.names binds gives.0) (reply-plain scene.names clean binds inner gives.0));
  clean = subst (λ (s : Scene). AreClean s.names) (sym gives.2) (names-clean scene.names clean binds inner gives.0);
}
gives-clean pool scene clean (Act.Poll tracker) inner text next gives = record {
  reply = subst IsReply (sym gives.2) (OneReply gives.0 (poll-plain (timeline pool scene.history) tracker gives.0 gives.1));
  clean = subst (λ (s : Scene). AreClean s.names) (sym gives.3) clean;
}
gives-clean pool scene clean (Act.Show view) inner text next gives = record {
  reply = subst IsReply (sym gives.0) (OneReply (view_text pool (timeline pool scene.history) scene.names view)
      (view-plain pool (timeline pool scene.history) scene.names clean view));
  clean = subst (λ (s : Scene). AreClean s.names) (sym gives.1) clean;
}

-- a line's reply
pub answers-clean : (pool : ℕ) (scene : Scene) → AreClean scene.names → (line text : List ℕ) (next : Scene) →
    Answers pool scene line text next → Cleanly text next
answers-clean pool scene clean line text next answers =
    gives-clean pool scene clean answers.act
    (subst (λ (o : Option Act). IfSome o IsCleanAct) answers.good (act_in-clean scene.names line)) text next answers.gives
