-- Runs on misuses, limits and the order in which a call is looked at.
use Rattle.std.specs.Prelude.{false, List, [], ◌∷◌}
use Rattle.sm_names.specs.declared.keys.Strength.{Strength}
use Rattle.sm_names.specs.declared.messages.Call.{Call}
use Rattle.sm_names.specs.declared.messages.Reply.{Reply}
use Rattle.sm_names.specs.declared.outcomes.Cause.{Cause}
use Rattle.sm_names.specs.declared.outcomes.Failure.{Failure}
use Rattle.sm_names.specs.declared.outcomes.Misuse.{Misuse}
use Rattle.sm_names.specs.declared.outcomes.Refusal.{Refusal}
use Rattle.sm_names.specs.Marks.{Entry}
use Rattle.worked_runs.specs.Words.{asks, buffer, key}

-- a token is checked, and a collection bound
abbrev pub wrong_kinds : List Entry
wrong_kinds =
    (0, Call.Join, Reply.Joined 1)
    ∷ (1, Call.OpenRoot, Reply.Token (key 0) 2)
    ∷ (1, Call.Check (key 0), Reply.Refused Refusal.WrongKind)
    ∷ (1, Call.Bind (key 0), Reply.Done)
    ∷ (1, Call.Bind (key 0), Reply.Refused Refusal.WrongKind)
    ∷ (1, Call.SetConstraints (key 0) (asks 0 0 1), Reply.Done)
    ∷ (1, Call.Check (key 0), Reply.PeerClosed (Cause.Failed Failure.NoBuffers) (key 0))
    ∷ []

-- constraints are sent twice
abbrev pub second_constraints : List Entry
second_constraints =
    (0, Call.Join, Reply.Joined 1)
    ∷ (1, Call.OpenRoot, Reply.Token (key 0) 2)
    ∷ (1, Call.Bind (key 0), Reply.Done)
    ∷ (1, Call.SetConstraints (key 0) (asks 1 0 4096), Reply.Done)
    ∷ (1, Call.SetConstraints (key 0) (asks 1 0 4096), Reply.Misused Misuse.SecondConstraints)
    ∷ (1, Call.Check (key 0), Reply.PeerClosed (Cause.Misused Misuse.SecondConstraints) (key 0))
    ∷ []

-- a Take is Pending and misuses nothing; then the root with constraints is made weak
abbrev pub late_weak : List Entry
late_weak =
    (0, Call.Join, Reply.Joined 1)
    ∷ (1, Call.OpenRoot, Reply.Token (key 0) 2)
    ∷ (1, Call.Bind (key 0), Reply.Done)
    ∷ (1, Call.Take (key 0), Reply.Pending)
    ∷ (1, Call.SetConstraints (key 0) (asks 1 0 4096), Reply.Done)
    ∷ (1, Call.SetWeak (key 0), Reply.Misused Misuse.LateWeak)
    ∷ (1, Call.Check (key 0), Reply.PeerClosed (Cause.Misused Misuse.LateWeak) (key 0))
    ∷ []

-- SetWeakOk comes after a Take
abbrev pub late_weak_ok : List Entry
late_weak_ok =
    (0, Call.Join, Reply.Joined 1)
    ∷ (1, Call.OpenRoot, Reply.Token (key 0) 2)
    ∷ (1, Call.Bind (key 0), Reply.Done)
    ∷ (1, Call.SetConstraints (key 0) (asks 1 0 4096), Reply.Done)
    ∷ (1, Call.Take (key 0), Reply.Taken 2 Strength.Strong 1)
    ∷ (1, Call.SetWeakOk (key 0) false, Reply.Misused Misuse.LateWeakOk)
    ∷ []

-- a weak node, for which nobody sent SetWeakOk, takes before the allocation
abbrev pub weak_takes_early : List Entry
weak_takes_early =
    (0, Call.Join, Reply.Joined 1)
    ∷ (1, Call.OpenRoot, Reply.Token (key 0) 2)
    ∷ (1, Call.Duplicate (key 0), Reply.Token (key 1) 2)
    ∷ (1, Call.SetWeak (key 1), Reply.Done)
    ∷ (1, Call.Duplicate (key 1), Reply.Token (key 2) 2)
    ∷ (1, Call.Bind (key 1), Reply.Done)
    ∷ (1, Call.Bind (key 2), Reply.Done)
    ∷ (1, Call.Take (key 2), Reply.Misused Misuse.WeakNotOk)
    ∷ []

-- weak 2 takes, for which nobody sent SetWeakOk, while as many weak handles are open as may be
abbrev pub misuse_before_limits : List Entry
misuse_before_limits =
    (0, Call.Join, Reply.Joined 1)
    ∷ (1, Call.OpenRoot, Reply.Token (key 0) 2)
    ∷ (1, Call.Duplicate (key 0), Reply.Token (key 1) 2)
    ∷ (1, Call.SetWeak (key 1), Reply.Done)
    ∷ (1, Call.SetWeakOk (key 1) false, Reply.Done)
    ∷ (1, Call.Duplicate (key 1), Reply.Token (key 2) 2)
    ∷ (1, Call.Bind (key 0), Reply.Done)
    ∷ (1, Call.Bind (key 1), Reply.Done)
    ∷ (1, Call.Bind (key 2), Reply.Done)
    ∷ (1, Call.SetConstraints (key 0) (asks 1 0 4096), Reply.Done)
    ∷ (1, Call.SetConstraints (key 1) (asks 0 0 1), Reply.Done)
    ∷ (1, Call.SetConstraints (key 2) (asks 0 0 1), Reply.Done)
    ∷ (1, Call.Take (key 1), Reply.Taken 2 Strength.Weak 1)
    ∷ (1, Call.Take (key 1), Reply.Refused Refusal.TooManyHandles)
    ∷ (1, Call.Take (key 2), Reply.Misused Misuse.WeakNotOk)
    ∷ []

-- two nodes may be kept
abbrev pub nodes_full : List Entry
nodes_full =
    (0, Call.Join, Reply.Joined 1)
    ∷ (1, Call.OpenRoot, Reply.Token (key 0) 2)
    ∷ (1, Call.Duplicate (key 0), Reply.Token (key 1) 2)
    ∷ (1, Call.Duplicate (key 0), Reply.Refused Refusal.TooManyNodes)
    ∷ (1, Call.Close (key 1), Reply.Done)
    ∷ (1, Call.OpenRoot, Reply.Token (key 2) 6)
    ∷ []

-- one collection may be kept
abbrev pub collections_full : List Entry
collections_full =
    (0, Call.Join, Reply.Joined 1)
    ∷ (1, Call.OpenRoot, Reply.Token (key 0) 2)
    ∷ (1, Call.OpenRoot, Reply.Refused Refusal.TooManyCollections)
    ∷ (1, Call.Close (key 0), Reply.Done)
    ∷ (1, Call.OpenRoot, Reply.Token (key 1) 5)
    ∷ []

-- one tracker may wait
abbrev pub trackers_full : List Entry
trackers_full =
    (0, Call.Join, Reply.Joined 1)
    ∷ (1, Call.OpenRoot, Reply.Token (key 0) 2)
    ∷ (1, Call.TrackNode (key 0), Reply.Tracker 3)
    ∷ (1, Call.TrackNode (key 0), Reply.Refused Refusal.TrackersFull)
    ∷ []

-- one handle of a buffer and strength may be open
abbrev pub handles_full : List Entry
handles_full =
    (0, Call.Join, Reply.Joined 1)
    ∷ (1, Call.OpenRoot, Reply.Token (key 0) 2)
    ∷ (1, Call.Bind (key 0), Reply.Done)
    ∷ (1, Call.SetConstraints (key 0) (asks 1 0 1), Reply.Done)
    ∷ (1, Call.Take (key 0), Reply.Taken 2 Strength.Strong 1)
    ∷ (1, Call.Take (key 0), Reply.Refused Refusal.TooManyHandles)
    ∷ (1, Call.DupHandle (buffer 2 0) Strength.Strong, Reply.Refused Refusal.TooManyHandles)
    ∷ []

-- two events may be made
abbrev pub history_full : List Entry
history_full =
    (0, Call.Join, Reply.Joined 1)
    ∷ (1, Call.OpenRoot, Reply.Token (key 0) 2)
    ∷ []

-- a spent end is given to a shut client
abbrev pub gift_of_a_spent_end : List Entry
gift_of_a_spent_end =
    (0, Call.Join, Reply.Joined 1)
    ∷ (0, Call.Join, Reply.Joined 2)
    ∷ (1, Call.OpenRoot, Reply.Token (key 0) 3)
    ∷ (1, Call.Close (key 0), Reply.Done)
    ∷ (2, Call.Shut, Reply.Shut 0)
    ∷ (1, Call.Give (key 0) 2, Reply.Refused Refusal.ClientShut)
    ∷ []

-- client 0, client 1 and client 9 call before anybody joined
abbrev pub strangers : List Entry
strangers =
    (0, Call.OpenRoot, Reply.Refused Refusal.NoSuchClient)
    ∷ (1, Call.Join, Reply.Refused Refusal.NoSuchClient)
    ∷ (9, Call.OpenRoot, Reply.Refused Refusal.NoSuchClient)
    ∷ (0, Call.Collect, Reply.Refused Refusal.NoSuchClient)
    ∷ []

-- client 1 gives its root to client 0, and to client 9, which did not join
abbrev pub given_to_nobody : List Entry
given_to_nobody =
    (0, Call.Join, Reply.Joined 1)
    ∷ (1, Call.OpenRoot, Reply.Token (key 0) 2)
    ∷ (1, Call.Give (key 0) 0, Reply.Refused Refusal.NoSuchClient)
    ∷ (1, Call.Give (key 5) 9, Reply.Refused Refusal.NoSuchClient)
    ∷ (1, Call.Sync (key 0), Reply.Done)
    ∷ []

-- client 1 uses a key that no node has, then one of an earlier generation; client 2 uses the key of client 1; and both
-- use handles that they do not have
abbrev pub forged_keys : List Entry
forged_keys =
    (0, Call.Join, Reply.Joined 1)
    ∷ (0, Call.Join, Reply.Joined 2)
    ∷ (1, Call.OpenRoot, Reply.Token (record { slot = 0; generation = 1 }) 3)
    ∷ (1, Call.Close (record { slot = 4294967295; generation = 4294967295 }), Reply.Refused Refusal.NoSuchEnd)
    ∷ (1, Call.Close (record { slot = 0; generation = 0 }), Reply.Refused Refusal.NoSuchEnd)
    ∷ (2, Call.Close (record { slot = 0; generation = 1 }), Reply.Refused Refusal.NoSuchEnd)
    ∷ (1, Call.DupHandle (buffer 0 63) Strength.Strong, Reply.Refused Refusal.NoSuchHandle)
    ∷ (1, Call.DropHandle (buffer 3 0) Strength.Weak, Reply.Refused Refusal.NoSuchHandle)
    ∷ (2, Call.TrackWeak (buffer 3 0), Reply.Refused Refusal.NoSuchHandle)
    ∷ []
