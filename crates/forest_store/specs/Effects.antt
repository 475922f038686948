-- Which call, answered how, has which effect on the node that it names.
use Rattle.std.specs.Prelude.{Option, Some, None}
use Rattle.sm_names.specs.declared.keys.NodeKey.{NodeKey}
use Rattle.sm_names.specs.declared.messages.Call.{Call}
use Rattle.sm_names.specs.declared.messages.Reply.{Reply}
use Rattle.forest_store.specs.declared.change.Effect.{Effect}

-- the effect on the node, where the call was answered Done
abbrev pub if_done : Reply → NodeKey → Effect → Option (NodeKey × Effect)
if_done Reply.Done key effect = Some (key, effect)
if_done _ key effect = None

-- where it was answered Taken
abbrev pub if_taken : Reply → NodeKey → Effect → Option (NodeKey × Effect)
if_taken (Reply.Taken collection strength set) key effect = Some (key, effect)
if_taken _ key effect = None

-- where it was answered by a new tracker
abbrev pub if_tracked : Reply → NodeKey → Effect → Option (NodeKey × Effect)
if_tracked (Reply.Tracker id) key effect = Some (key, effect)
if_tracked _ key effect = None

-- the effect of the call, answered so, and the node that it names. Each call is told of here, and none is left to a rest
abbrev pub effect_of : Call → Reply → Option (NodeKey × Effect)
effect_of Call.Join reply = None
effect_of Call.Shut reply = None
effect_of Call.OpenRoot reply = None
effect_of (Call.Duplicate key) reply = None
effect_of (Call.AttachToken key) reply = None
effect_of (Call.Sync key) reply = None
effect_of (Call.Give key to) reply = None
effect_of Call.Collect reply = None
effect_of (Call.Bind key) reply = if_done reply key Effect.Bound
effect_of (Call.SetDispensable key) reply = if_done reply key Effect.Dispensable
effect_of (Call.SetWeak key) reply = if_done reply key Effect.Weak
effect_of (Call.SetWeakOk key children) reply = if_done reply key (Effect.WeakOk children)
effect_of (Call.SetConstraints key demand) reply = if_done reply key (Effect.Constrained demand)
effect_of (Call.Check key) reply = None
effect_of (Call.Take key) reply = if_taken reply key Effect.Taken
effect_of (Call.Release key) reply = if_done reply key Effect.Released
effect_of (Call.Close key) reply = None
effect_of (Call.DupHandle buffer strength) reply = None
effect_of (Call.DropHandle buffer strength) reply = None
effect_of (Call.GiveHandle buffer strength to) reply = None
effect_of (Call.TrackNode key) reply = if_tracked reply key Effect.Tracked
effect_of (Call.TrackLifetime key most) reply = None
effect_of (Call.TrackWeak buffer) reply = None
