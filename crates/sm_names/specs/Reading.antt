-- What an answer depends on, read from a timeline.
use Rattle.std.specs.Prelude.{not, Bool, false, if◌then◌else◌, [], None, is_some}
use Rattle.std.specs.List.{list_any, filter}
use Rattle.std.specs.Option.{option_map}
use Rattle.sm_names.specs.declared.keys.NodeKey.{NodeKey}
use Rattle.sm_names.specs.declared.messages.Call.{Call}
use Rattle.sm_names.specs.declared.messages.Reply.{Reply}
use Rattle.sm_names.specs.Answers.{OpenEnd, Readings}
use Rattle.sm_names.specs.Births.{Birth, birth_of}
use Rattle.sm_names.specs.Ends.{has_joined, is_shut, spent, kind, parcels, in_transit, holder}
use Rattle.sm_names.specs.Handles.{buffers_of, buffer_names, doomed, open_of, open_total}
use Rattle.sm_names.specs.Kept.{kept_nodes, kept_collections}
use Rattle.sm_names.specs.Losses.{fault, allocated}
use Rattle.sm_names.specs.Marks.{Mark, Timeline, Called, events}
use Rattle.sm_names.specs.Members.{constraints}
use Rattle.sm_names.specs.Sameness.{same_key}
use Rattle.sm_names.specs.Trackers.{unfired}
use Rattle.sm_names.specs.Weakness.{weak, weak_ok}
use Rattle.sm_names.specs.Words.{times}

-- the mark takes handles through the node: only a Take that was answered Taken does
abbrev pub is_taking : NodeKey → Mark → Bool
is_taking node (Called client (Reply.Taken collection strength set) (Call.Take key)) =
    same_key key node
is_taking node _ = false

-- the mark makes a tracker of the node: only a TrackNode that took effect does
abbrev pub is_tracking : NodeKey → Mark → Bool
is_tracking node (Called client (Reply.Tracker id) (Call.TrackNode key)) = same_key key node
is_tracking node _ = false

-- the end of the node with this birth, unless the end is spent
abbrev pub open_end : Timeline → Birth → OpenEnd
open_end marks b = record {
  holder = holder marks b.node;
  in_transit = in_transit marks b.node;
  kind = kind marks b.node;
  collection = b.collection;
  fault = fault marks b.node;
  constrained = is_some (constraints marks b.node);
  weak = weak marks b.node;
  weak_ok = weak_ok marks b.node;
  took = list_any (is_taking b.node) marks;
  node_trackers = times (is_tracking b.node) marks;
  buffers = if allocated marks b.node then buffers_of marks b.collection else None;
  to_open =
      if allocated marks b.node
      then filter (λ name. not (doomed marks name)) (buffer_names marks b.collection) else [];
}

-- all that an answer depends on, after these marks
abbrev pub readings : Timeline → Readings
readings marks = record {
  events = events marks;
  has_joined = has_joined marks;
  is_shut = is_shut marks;
  end_of = λ node.
      if spent marks node then None else option_map (open_end marks) (birth_of marks node);
  waiting = parcels marks;
  open_of = open_of marks;
  open_total = open_total marks;
  was_given = λ node. is_some (birth_of marks node);
  kept_nodes = kept_nodes marks;
  kept_collections = kept_collections marks;
  unfired = unfired marks;
}
