-- Runs on weak nodes and weak handles.
use Rattle.std.specs.Prelude.{false, true, List, [], ◌∷◌}
use Rattle.sm_names.specs.declared.keys.Strength.{Strength}
use Rattle.sm_names.specs.declared.messages.Call.{Call}
use Rattle.sm_names.specs.declared.messages.Reply.{Reply}
use Rattle.sm_names.specs.declared.outcomes.Cause.{Cause}
use Rattle.sm_names.specs.declared.outcomes.Misuse.{Misuse}
use Rattle.sm_names.specs.declared.outcomes.Refusal.{Refusal}
use Rattle.sm_names.specs.Marks.{Entry}
use Rattle.worked_runs.specs.Words.{asks, buffer, key}

-- weak 1 has child 2, which takes
abbrev pub weak_not_ok : List Entry
weak_not_ok =
    (0, Call.Join, Reply.Joined 1)
    ∷ (1, Call.OpenRoot, Reply.Token (key 0) 2)
    ∷ (1, Call.Duplicate (key 0), Reply.Token (key 1) 2)
    ∷ (1, Call.SetWeak (key 1), Reply.Done)
    ∷ (1, Call.Duplicate (key 1), Reply.Token (key 2) 2)
    ∷ (1, Call.Bind (key 0), Reply.Done)
    ∷ (1, Call.Bind (key 1), Reply.Done)
    ∷ (1, Call.Bind (key 2), Reply.Done)
    ∷ (1, Call.SetConstraints (key 0) (asks 1 0 4096), Reply.Done)
    ∷ (1, Call.SetConstraints (key 1) (asks 0 0 1), Reply.Done)
    ∷ (1, Call.SetConstraints (key 2) (asks 0 0 1), Reply.Done)
    ∷ (1, Call.Take (key 2), Reply.Misused Misuse.WeakNotOk)
    ∷ (1, Call.Check (key 0), Reply.PeerClosed (Cause.Misused Misuse.WeakNotOk) (key 2))
    ∷ []

-- 1 sent SetWeakOk with children before
abbrev pub weak_ok_for_children : List Entry
weak_ok_for_children =
    (0, Call.Join, Reply.Joined 1)
    ∷ (1, Call.OpenRoot, Reply.Token (key 0) 2)
    ∷ (1, Call.Duplicate (key 0), Reply.Token (key 1) 2)
    ∷ (1, Call.SetWeak (key 1), Reply.Done)
    ∷ (1, Call.SetWeakOk (key 1) true, Reply.Done)
    ∷ (1, Call.Duplicate (key 1), Reply.Token (key 2) 2)
    ∷ (1, Call.Bind (key 0), Reply.Done)
    ∷ (1, Call.Bind (key 1), Reply.Done)
    ∷ (1, Call.Bind (key 2), Reply.Done)
    ∷ (1, Call.SetConstraints (key 0) (asks 1 0 4096), Reply.Done)
    ∷ (1, Call.SetConstraints (key 1) (asks 0 0 1), Reply.Done)
    ∷ (1, Call.SetConstraints (key 2) (asks 0 0 1), Reply.Done)
    ∷ (1, Call.Take (key 2), Reply.Taken 2 Strength.Weak 1)
    ∷ (1, Call.Check (key 0), Reply.Allocated 1 4096)
    ∷ []

-- then it sent SetWeakOk without children
abbrev pub weak_ok_stays : List Entry
weak_ok_stays =
    (0, Call.Join, Reply.Joined 1)
    ∷ (1, Call.OpenRoot, Reply.Token (key 0) 2)
    ∷ (1, Call.Duplicate (key 0), Reply.Token (key 1) 2)
    ∷ (1, Call.SetWeak (key 1), Reply.Done)
    ∷ (1, Call.SetWeakOk (key 1) true, Reply.Done)
    ∷ (1, Call.SetWeakOk (key 1) false, Reply.Done)
    ∷ (1, Call.Duplicate (key 1), Reply.Token (key 2) 2)
    ∷ (1, Call.Bind (key 0), Reply.Done)
    ∷ (1, Call.Bind (key 1), Reply.Done)
    ∷ (1, Call.Bind (key 2), Reply.Done)
    ∷ (1, Call.SetConstraints (key 0) (asks 1 0 4096), Reply.Done)
    ∷ (1, Call.SetConstraints (key 1) (asks 0 0 1), Reply.Done)
    ∷ (1, Call.SetConstraints (key 2) (asks 0 0 1), Reply.Done)
    ∷ (1, Call.Take (key 2), Reply.Taken 2 Strength.Weak 1)
    ∷ (1, Call.Check (key 0), Reply.Allocated 1 4096)
    ∷ []

-- 1 sent SetWeakOk with children after the birth of 2
abbrev pub weak_ok_too_late : List Entry
weak_ok_too_late =
    (0, Call.Join, Reply.Joined 1)
    ∷ (1, Call.OpenRoot, Reply.Token (key 0) 2)
    ∷ (1, Call.Duplicate (key 0), Reply.Token (key 1) 2)
    ∷ (1, Call.SetWeak (key 1), Reply.Done)
    ∷ (1, Call.Duplicate (key 1), Reply.Token (key 2) 2)
    ∷ (1, Call.SetWeakOk (key 1) true, Reply.Done)
    ∷ (1, Call.Bind (key 0), Reply.Done)
    ∷ (1, Call.Bind (key 1), Reply.Done)
    ∷ (1, Call.Bind (key 2), Reply.Done)
    ∷ (1, Call.SetConstraints (key 0) (asks 1 0 4096), Reply.Done)
    ∷ (1, Call.SetConstraints (key 1) (asks 0 0 1), Reply.Done)
    ∷ (1, Call.SetConstraints (key 2) (asks 0 0 1), Reply.Done)
    ∷ (1, Call.Take (key 2), Reply.Misused Misuse.WeakNotOk)
    ∷ (1, Call.Check (key 0), Reply.PeerClosed (Cause.Misused Misuse.WeakNotOk) (key 2))
    ∷ []

-- 1 sent SetWeakOk with children, and has child 2, which has child 3
abbrev pub weak_ok_for_grandchildren : List Entry
weak_ok_for_grandchildren =
    (0, Call.Join, Reply.Joined 1)
    ∷ (1, Call.OpenRoot, Reply.Token (key 0) 2)
    ∷ (1, Call.Duplicate (key 0), Reply.Token (key 1) 2)
    ∷ (1, Call.SetWeak (key 1), Reply.Done)
    ∷ (1, Call.SetWeakOk (key 1) true, Reply.Done)
    ∷ (1, Call.Duplicate (key 1), Reply.Token (key 2) 2)
    ∷ (1, Call.Duplicate (key 2), Reply.Token (key 3) 2)
    ∷ (1, Call.Bind (key 0), Reply.Done)
    ∷ (1, Call.Bind (key 1), Reply.Done)
    ∷ (1, Call.Bind (key 2), Reply.Done)
    ∷ (1, Call.Bind (key 3), Reply.Done)
    ∷ (1, Call.SetConstraints (key 0) (asks 1 0 4096), Reply.Done)
    ∷ (1, Call.SetConstraints (key 1) (asks 0 0 1), Reply.Done)
    ∷ (1, Call.SetConstraints (key 2) (asks 0 0 1), Reply.Done)
    ∷ (1, Call.SetConstraints (key 3) (asks 0 0 1), Reply.Done)
    ∷ (1, Call.Take (key 3), Reply.Taken 2 Strength.Weak 1)
    ∷ []

-- 2 is attached to weak 1
abbrev pub attached_to_weak : List Entry
attached_to_weak =
    (0, Call.Join, Reply.Joined 1)
    ∷ (1, Call.OpenRoot, Reply.Token (key 0) 2)
    ∷ (1, Call.Duplicate (key 0), Reply.Token (key 1) 2)
    ∷ (1, Call.SetWeak (key 1), Reply.Done)
    ∷ (1, Call.Bind (key 0), Reply.Done)
    ∷ (1, Call.Bind (key 1), Reply.Done)
    ∷ (1, Call.AttachToken (key 1), Reply.Token (key 2) 2)
    ∷ (1, Call.Bind (key 2), Reply.Done)
    ∷ (1, Call.SetConstraints (key 0) (asks 1 0 4096), Reply.Done)
    ∷ (1, Call.SetConstraints (key 1) (asks 0 0 1), Reply.Done)
    ∷ (1, Call.SetConstraints (key 2) (asks 0 0 1), Reply.Done)
    ∷ (1, Call.Take (key 2), Reply.Misused Misuse.WeakNotOk)
    ∷ []

-- 1 sent SetWeakOk with children before
abbrev pub weak_ok_across_attached : List Entry
weak_ok_across_attached =
    (0, Call.Join, Reply.Joined 1)
    ∷ (1, Call.OpenRoot, Reply.Token (key 0) 2)
    ∷ (1, Call.Duplicate (key 0), Reply.Token (key 1) 2)
    ∷ (1, Call.SetWeak (key 1), Reply.Done)
    ∷ (1, Call.SetWeakOk (key 1) true, Reply.Done)
    ∷ (1, Call.Bind (key 0), Reply.Done)
    ∷ (1, Call.Bind (key 1), Reply.Done)
    ∷ (1, Call.AttachToken (key 1), Reply.Token (key 2) 2)
    ∷ (1, Call.Bind (key 2), Reply.Done)
    ∷ (1, Call.SetConstraints (key 0) (asks 1 0 4096), Reply.Done)
    ∷ (1, Call.SetConstraints (key 1) (asks 0 0 1), Reply.Done)
    ∷ (1, Call.SetConstraints (key 2) (asks 0 0 1), Reply.Done)
    ∷ (1, Call.Take (key 2), Reply.Taken 2 Strength.Weak 1)
    ∷ []

-- 1 has child 2 and then is made weak
abbrev pub weak_after_birth : List Entry
weak_after_birth =
    (0, Call.Join, Reply.Joined 1)
    ∷ (1, Call.OpenRoot, Reply.Token (key 0) 2)
    ∷ (1, Call.Duplicate (key 0), Reply.Token (key 1) 2)
    ∷ (1, Call.Duplicate (key 1), Reply.Token (key 2) 2)
    ∷ (1, Call.SetWeak (key 1), Reply.Done)
    ∷ (1, Call.Bind (key 0), Reply.Done)
    ∷ (1, Call.Bind (key 1), Reply.Done)
    ∷ (1, Call.Bind (key 2), Reply.Done)
    ∷ (1, Call.SetConstraints (key 0) (asks 1 0 4096), Reply.Done)
    ∷ (1, Call.SetConstraints (key 1) (asks 0 0 1), Reply.Done)
    ∷ (1, Call.SetConstraints (key 2) (asks 0 0 1), Reply.Done)
    ∷ (1, Call.Take (key 2), Reply.Taken 2 Strength.Strong 1)
    ∷ (1, Call.Take (key 1), Reply.Taken 2 Strength.Weak 1)
    ∷ []

-- root 0 and weak 1 take both buffers; 0 is released, and the handles are dropped one by one
abbrev pub weak_holders : List Entry
weak_holders =
    (0, Call.Join, Reply.Joined 1)
    ∷ (1, Call.OpenRoot, Reply.Token (key 0) 2)
    ∷ (1, Call.Duplicate (key 0), Reply.Token (key 1) 2)
    ∷ (1, Call.SetWeak (key 1), Reply.Done)
    ∷ (1, Call.Bind (key 0), Reply.Done)
    ∷ (1, Call.Bind (key 1), Reply.Done)
    ∷ (1, Call.SetConstraints (key 0) (asks 2 0 4096), Reply.Done)
    ∷ (1, Call.SetConstraints (key 1) (asks 0 0 1), Reply.Done)
    ∷ (1, Call.Take (key 0), Reply.Taken 2 Strength.Strong 3)
    ∷ (1, Call.Take (key 1), Reply.Taken 2 Strength.Weak 3)
    ∷ (1, Call.TrackLifetime (key 1) 0, Reply.Tracker 11)
    ∷ (1, Call.TrackWeak (buffer 2 1), Reply.Tracker 12)
    ∷ (1, Call.Release (key 0), Reply.Done)
    ∷ (1, Call.DropHandle (buffer 2 0) Strength.Strong, Reply.Done)
    ∷ (1, Call.Take (key 1), Reply.Taken 2 Strength.Weak 2)
    ∷ (1, Call.DropHandle (buffer 2 1) Strength.Strong, Reply.Done)
    ∷ (1, Call.Check (key 1), Reply.PeerClosed Cause.NoStrong (key 0))
    ∷ (1, Call.DropHandle (buffer 2 0) Strength.Weak, Reply.Done)
    ∷ (1, Call.DropHandle (buffer 2 1) Strength.Weak, Reply.Done)
    ∷ (1, Call.DropHandle (buffer 2 1) Strength.Weak, Reply.Done)
    ∷ []

-- the root takes a buffer, doubles the handle, is released, and both handles are dropped
abbrev pub last_handle_dropped : List Entry
last_handle_dropped =
    (0, Call.Join, Reply.Joined 1)
    ∷ (1, Call.OpenRoot, Reply.Token (key 0) 2)
    ∷ (1, Call.Bind (key 0), Reply.Done)
    ∷ (1, Call.SetConstraints (key 0) (asks 1 0 4096), Reply.Done)
    ∷ (1, Call.Take (key 0), Reply.Taken 2 Strength.Strong 1)
    ∷ (1, Call.DupHandle (buffer 2 0) Strength.Strong, Reply.Done)
    ∷ (1, Call.Release (key 0), Reply.Done)
    ∷ (1, Call.DropHandle (buffer 2 0) Strength.Strong, Reply.Done)
    ∷ (1, Call.DropHandle (buffer 2 0) Strength.Strong, Reply.Done)
    ∷ (1, Call.DropHandle (buffer 2 0) Strength.Strong, Reply.Refused Refusal.NoSuchHandle)
    ∷ []
