-- The facts of an event: their text, as a function of the event and of the core behind it, and to which event of a history they
-- belong.
use Rattle.std.specs.Prelude.{ℕ, ◌≡◌, ◌<◌, ◌^◌, ◌&&◌, ◌==◌, if◌then◌else◌, List, [], ◌∷◌, ◌++◌, drop, length, map, Option, Some, None, Ok}
use Rattle.std.specs.List.{filter, find}
use Rattle.std.specs.Option.{IfSome, option_and_then, option_map, option_map_or}
use Rattle.sm_names.specs.CallRows.{object_key, parts_of}
use Rattle.sm_names.specs.declared.keys.BufferName.{BufferName}
use Rattle.sm_names.specs.declared.keys.HeldBuffer.{HeldBuffer}
use Rattle.sm_names.specs.declared.keys.NodeKey.{NodeKey}
use Rattle.sm_names.specs.declared.messages.Call.{Call}
use Rattle.sm_names.specs.declared.messages.Reply.{Reply}
use Rattle.sm_names.specs.Marks.{Called, Entry}
use Rattle.sm_names.specs.Timelines.{after, timeline}
use Rattle.forest_store.specs.declared.node.Node.{Node}
use Rattle.forest_store.specs.declared.snapshot.Snapshot.{Snapshot}
use Rattle.forest_store.specs.Forest.{Collection, collection_at, node_at}
use Rattle.forest_store.specs.Nodes.{node_of}
use Rattle.core_state.specs.Reads.{views_of}
use Rattle.core_state.specs.Shown.{Shows}
use Rattle.core_state.specs.State.{Client, State}
use Rattle.core_state.specs.Theorem.{Stepped}
use Rattle.forced_marks.specs.declared.moment.Moment.{Moment}
use Rattle.forced_marks.specs.Marks.{AreStages, laid_on}
use Rattle.forced_marks.specs.Moments.{stage_of}
use Rattle.forced_marks.specs.Steps.{mark_told}
use Rattle.event_facts.specs.declared.before.Before.{Before}
use Rattle.event_facts.specs.declared.event.Event.{Event}
use Rattle.event_facts.specs.Events.{IsCopiedAfter, IsSetOf, IsSnapshot, concerned_by}
use Rattle.event_facts.specs.Events.{is_doomed_in, is_newly_doomed, snapshot_held, some_left_in}
use Rattle.event_facts.specs.Facts.{holders_in, is_awaited, is_back, is_keeper, is_on_buffer}
use Rattle.script_labels.specs.declared.act.Act.{Act}
use Rattle.script_labels.specs.Names.{Names}
use Rattle.sm_script.specs.Scenes.{Scene, next_scene}
use Rattle.sm_script.specs.Sessions.{Advances}
use Rattle.event_texts.specs.declared.event_writer.EventWriter.{EventWriter}
use Rattle.event_texts.specs.Called.{Calls}
use Rattle.event_texts.specs.Deeds.{KeptLines, Recalls, with_event}
use Rattle.event_texts.specs.EventTexts.{doomed_text, fires_text, freed_text, kept_by_nodes, kept_text, unit_text, waits_text}
use Rattle.event_texts.specs.FactTexts.{concat, holders_text}
use Rattle.event_texts.specs.Failing.{failures}
use Rattle.event_texts.specs.LostLines.{since_line}
use Rattle.event_texts.specs.MarkTexts.{marks_text}
use Rattle.event_texts.specs.RefusalTexts.{misused_text, refusal_text}

-- ---- why a node is waited for, or its end is closed

-- the head of the unit above the one with this head
abbrev pub head_above : List Node → NodeKey → Option NodeKey
head_above nodes head = option_and_then
    (λ (n : Node). option_and_then (λ parent. option_map (λ (a : Node). a.head) (node_of nodes parent)) n.parent)
    (node_of nodes head)

-- for whom the unit with this head waits: for nodes of its own, or else for the unit above
abbrev pub awaited_text : Names → List Node → NodeKey → List ℕ
awaited_text names nodes head =
    let found = filter (is_awaited head) nodes in
    let above = option_map_or (unit_text names) (head_above nodes head) [] in
    if length found == 0 then above else waits_text names found

-- for whom the unit of the node with this key waits
abbrev pub waiting_text : Names → List Node → NodeKey → List ℕ
waiting_text names nodes key = option_map_or (λ (n : Node). awaited_text names nodes n.head) (node_of nodes key) []

-- for whom the node with this key waits, by the nodes that the core keeps of its collection
abbrev pub node_waits : Names → State → NodeKey → List ℕ
node_waits names s key = option_map_or
    (λ (n : Node). option_map_or (λ (c : Collection). waiting_text names c.nodes key) (collection_at s.forest n.collection) [])
    (node_at s.forest key) []

-- for whom the node waits that the call is made on
abbrev pub pending_text : Names → State → Call → List ℕ
pending_text names s call = option_map_or (node_waits names s) (object_key (parts_of call).object) []

-- why the call was answered so: for whom a pending allocation waits, the line whose event made the loss, why it was refused, or
-- the line that made it a misuse
abbrev pub reasons_text : Names → KeptLines → State → Call → Reply → List ℕ
reasons_text names lines s call Reply.Pending = pending_text names s call
reasons_text names lines s call (Reply.PeerClosed cause origin) = since_line lines.losses origin
reasons_text names lines s call (Reply.Refused refusal) = refusal_text names lines.deeds s call refusal
reasons_text names lines s call (Reply.Misused misuse) = misused_text lines.deeds call misuse
reasons_text names lines s call _ = []

-- ---- what became of buffers

-- those of the collection that nothing strong keeps since the event, as this set, and those that gave their pages back
abbrev pub changed_text : Names → Before → List HeldBuffer → ℕ → List ℕ
changed_text names b later doomed =
    doomed_text names b.copied.id doomed ++ freed_text names (filter (is_back later) b.copied.held.items)

-- the same of the collection that the event concerns, if there is one
abbrev pub buffers_text : Names → Option Before → List HeldBuffer → ℕ → List ℕ
buffers_text names before later doomed = option_map_or (λ (b : Before). changed_text names b later doomed) before []

-- ---- who keeps pages

-- those of these clients that have handles on the buffer, and the parcels
abbrev pub who_has : Names → State → List ℕ → HeldBuffer → List ℕ
who_has names s clients h = holders_text names [] (holders_in s.holds clients h.buffer)

-- the holders of handles on the buffer
abbrev pub who_keeps : Names → State → HeldBuffer → List ℕ
who_keeps names s h = who_has names s (map (λ (c : Client). c.id) s.clients) h

-- the strong nodes that are live
abbrev pub strong_among : List Node → List NodeKey
strong_among nodes = map (λ (n : Node). n.key) (filter is_keeper nodes)

-- the buffer of the handle that the call drops, if it was done
abbrev pub buffer_if_done : Reply → BufferName → Option BufferName
buffer_if_done Reply.Done buffer = Some buffer
buffer_if_done _ buffer = None

-- the buffer of which the event dropped a handle
abbrev pub dropped_buffer : Call → Reply → Option BufferName
dropped_buffer (Call.DropHandle buffer strength) reply = buffer_if_done reply buffer
dropped_buffer _ reply = None

-- who keeps this buffer: the live strong nodes, or else those who have handles
abbrev pub kept_one_text : Names → State → Snapshot → HeldBuffer → List ℕ
kept_one_text names s after h =
    let strong = strong_among after.nodes.items in
    let by_handles = kept_text names (who_keeps names s) (h ∷ []) in
    if length strong == 0 then by_handles else kept_by_nodes names h.buffer strong

-- who keeps the buffer of a handle that was dropped, if it has its pages still
abbrev pub kept_dropped_text : Names → State → Snapshot → BufferName → List ℕ
kept_dropped_text names s after buffer =
    option_map_or (kept_one_text names s after) (find (is_on_buffer buffer) after.held.items) []

-- who keeps the collection's buffers, where a node left and no strong one is live
abbrev pub kept_left_text : Names → State → Option Before → Snapshot → List ℕ
kept_left_text names s before after =
    let by_handles = kept_text names (who_keeps names s) after.held.items in
    if some_left_in s before && length (strong_among after.nodes.items) == 0 then by_handles else []

-- who keeps pages, where a handle was dropped or a live node left
abbrev pub keepers_text : Names → State → Event → List ℕ
keepers_text names s e = option_map_or
    (λ (after : Snapshot).
    option_map_or (kept_dropped_text names s after) (dropped_buffer e.call e.reply) (kept_left_text names s e.before after))
    e.after []

-- ---- all facts

-- the facts of an event, where this is the core behind it, and this the set of the buffers that are doomed since: its marks, why it
-- was answered so, what became of buffers, who keeps pages, and which trackers fired
unfoldable pub facts_text : Names → KeptLines → State → ℕ → Event → List ℕ
facts_text names lines s doomed e = concat (
    marks_text names (views_of s).free e.after e.moments.items
    ∷ reasons_text names lines s e.call e.reply
    ∷ buffers_text names e.before (snapshot_held e.after) doomed
    ∷ keepers_text names s e
    ∷ fires_text names (drop e.fired s.trackers.fired)
    ∷ []
    )

-- the text tells the facts of the event, where this is the core behind it
pub record TellsFacts (names : Names) (lines : KeptLines) (s : State) (e : Event) (text : List ℕ) : Type 0 where
  pub doomed : ℕ
  pub are_doomed : IsSetOf (is_newly_doomed s.holds e.after e.before) doomed
  pub in_range : doomed < 2 ^ 64
  pub told : text ≡ facts_text names lines s doomed e

-- ---- of which event

-- it is the event of this call in this core: its marks are those that the call makes in each history that the core shows, each with
-- the collection before it, and the copies are of the collection that the event concerns, before it and after it
pub record IsEventOf (old : State) (client : ℕ) (call : Call) (e : Event) : Type 0 where
  pub stepped : State
  pub step : Stepped old stepped client call (Ok e.reply)
  pub asked : e.call ≡ call
  pub stages : AreStages old stepped client call e.reply (map stage_of e.moments.items)
  pub marks : (history : List Entry) → Shows old history →
      after old.pool (timeline old.pool history) (client, call, e.reply)
      ≡ laid_on (map (λ (m : Moment). mark_told m.mark) e.moments.items) (Called client e.reply call ∷ timeline old.pool history)
  pub before : IsSnapshot old (concerned_by old client call e.reply) e.before
  pub doomed : IfSome e.before
      (λ (b : Before). IsSetOf (is_doomed_in old.holds b.copied.id b.copied.nodes.items b.copied.buffers) b.doomed)
  pub copied : IsCopiedAfter stepped e.before e.after
  pub fired : e.fired ≡ length old.trackers.fired

-- the facts are those of the event of this call, whose reply is this; the old core is the one before it, the new one behind it
pub record TellsEvent (old new : State) (names : Names) (number : ℕ) (line : List ℕ) (client : ℕ) (call : Call) (reply : Reply)
    (lines later : KeptLines) (facts : List ℕ) : Type 0 where
  pub event : Event
  pub is_event : IsEventOf old client call event
  pub answered : event.reply ≡ reply
  pub noted : later ≡ with_event (number, line) event lines
  pub tells : TellsFacts names later new event facts

-- the facts of the act of a line: those of its event, if it is a call; any other act has none
abbrev pub TellsAct : State → State → Scene → Scene → ℕ → List ℕ → Act → KeptLines → KeptLines → List ℕ → Type 0
TellsAct old new scene next number line (Act.Ask client call binds) lines later facts = (reply : Reply)
    × (next ≡ next_scene scene client call binds reply)
    × TellsEvent old new next.names number line client call reply lines later facts
TellsAct old new scene next number line _ lines later facts = (facts ≡ []) × (later ≡ lines)

-- the same, where the cores show the histories of the two scenes
pub record Tells (pool : ℕ) (scene next : Scene) (number : ℕ) (line : List ℕ) (act : Act) (lines later : KeptLines)
    (facts : List ℕ) : Type 0 where
  pub old : State
  pub new : State
  pub pool_is : old.pool ≡ pool
  pub shows : Shows old scene.history
  pub shows_next : Shows new next.history
  pub tells : TellsAct old new scene next number line act lines later facts

-- the line of this number was answered, and its facts told: the session advanced by it, and clients, ends, lines that made nodes
-- fail, and in how many events nodes failed, are known as they are behind it
pub record TellsLine (old new : EventWriter) (number : ℕ) (line reply facts : List ℕ) (scene : Scene) (lines : KeptLines) : Type 0 where
  pub advances : Advances old.session new.session line reply scene
  pub calls : Calls new.labels advances.next.names
  pub failed : new.failures ≡ failures (timeline new.session.core.pool advances.next.history)
  pub later : KeptLines
  pub recalls : Recalls new later
  pub tells : TellsAct old.session.core new.session.core scene advances.next number line advances.answers.act lines later facts
