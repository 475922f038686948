-- Runs on trackers, and on when they fire.
use Rattle.std.specs.Prelude.{List, [], ◌∷◌}
use Rattle.sm_names.specs.declared.keys.Strength.{Strength}
use Rattle.sm_names.specs.declared.messages.Call.{Call}
use Rattle.sm_names.specs.declared.messages.Reply.{Reply}
use Rattle.sm_names.specs.declared.outcomes.Cause.{Cause}
use Rattle.sm_names.specs.declared.outcomes.Failure.{Failure}
use Rattle.sm_names.specs.declared.outcomes.Misuse.{Misuse}
use Rattle.sm_names.specs.Marks.{Entry}
use Rattle.worked_runs.specs.Words.{asks, buffer, key}

-- attached 1 with a tracker is released and so ends
abbrev pub attached_tracker : List Entry
attached_tracker =
    (0, Call.Join, Reply.Joined 1)
    ∷ (1, Call.OpenRoot, Reply.Token (key 0) 2)
    ∷ (1, Call.Bind (key 0), Reply.Done)
    ∷ (1, Call.SetConstraints (key 0) (asks 1 1 4096), Reply.Done)
    ∷ (1, Call.AttachToken (key 0), Reply.Token (key 1) 2)
    ∷ (1, Call.TrackNode (key 1), Reply.Tracker 6)
    ∷ (1, Call.Release (key 1), Reply.Done)
    ∷ (1, Call.Release (key 0), Reply.Done)
    ∷ []

-- a tracker for one buffer left, and one for two, on two buffers
abbrev pub few_left : List Entry
few_left =
    (0, Call.Join, Reply.Joined 1)
    ∷ (1, Call.OpenRoot, Reply.Token (key 0) 2)
    ∷ (1, Call.Bind (key 0), Reply.Done)
    ∷ (1, Call.TrackLifetime (key 0) 1, Reply.Tracker 4)
    ∷ (1, Call.SetConstraints (key 0) (asks 2 0 4096), Reply.Done)
    ∷ (1, Call.Take (key 0), Reply.Taken 2 Strength.Strong 3)
    ∷ (1, Call.TrackLifetime (key 0) 2, Reply.Tracker 7)
    ∷ (1, Call.Release (key 0), Reply.Done)
    ∷ (1, Call.DropHandle (buffer 2 0) Strength.Strong, Reply.Done)
    ∷ []

-- the allocation fails
abbrev pub few_left_of_none : List Entry
few_left_of_none =
    (0, Call.Join, Reply.Joined 1)
    ∷ (1, Call.OpenRoot, Reply.Token (key 0) 2)
    ∷ (1, Call.Bind (key 0), Reply.Done)
    ∷ (1, Call.TrackLifetime (key 0) 0, Reply.Tracker 4)
    ∷ (1, Call.SetConstraints (key 0) (asks 0 0 4096), Reply.Done)
    ∷ (1, Call.Check (key 0), Reply.PeerClosed (Cause.Failed Failure.NoBuffers) (key 0))
    ∷ []

-- attached 1 is released before its root was allocated
abbrev pub tracker_of_an_ended : List Entry
tracker_of_an_ended =
    (0, Call.Join, Reply.Joined 1)
    ∷ (1, Call.OpenRoot, Reply.Token (key 0) 2)
    ∷ (1, Call.Bind (key 0), Reply.Done)
    ∷ (1, Call.AttachToken (key 0), Reply.Token (key 1) 2)
    ∷ (1, Call.Bind (key 1), Reply.Done)
    ∷ (1, Call.TrackLifetime (key 1) 5, Reply.Tracker 6)
    ∷ (1, Call.Release (key 1), Reply.Done)
    ∷ []

-- attached 1 is not allocated, though its collection is, and has few enough buffers
abbrev pub tracker_of_an_unallocated_unit : List Entry
tracker_of_an_unallocated_unit =
    (0, Call.Join, Reply.Joined 1)
    ∷ (1, Call.OpenRoot, Reply.Token (key 0) 2)
    ∷ (1, Call.Bind (key 0), Reply.Done)
    ∷ (1, Call.SetConstraints (key 0) (asks 1 0 4096), Reply.Done)
    ∷ (1, Call.AttachToken (key 0), Reply.Token (key 1) 2)
    ∷ (1, Call.Bind (key 1), Reply.Done)
    ∷ (1, Call.TrackLifetime (key 1) 5, Reply.Tracker 7)
    ∷ (1, Call.SetConstraints (key 1) (asks 0 0 1), Reply.Done)
    ∷ []

-- root 0 gets 65 trackers
abbrev pub node_trackers_full : List Entry
node_trackers_full =
    (0, Call.Join, Reply.Joined 1)
    ∷ (1, Call.OpenRoot, Reply.Token (key 0) 2)
    ∷ (1, Call.TrackNode (key 0), Reply.Tracker 3)
    ∷ (1, Call.TrackNode (key 0), Reply.Tracker 4)
    ∷ (1, Call.TrackNode (key 0), Reply.Tracker 5)
    ∷ (1, Call.TrackNode (key 0), Reply.Tracker 6)
    ∷ (1, Call.TrackNode (key 0), Reply.Tracker 7)
    ∷ (1, Call.TrackNode (key 0), Reply.Tracker 8)
    ∷ (1, Call.TrackNode (key 0), Reply.Tracker 9)
    ∷ (1, Call.TrackNode (key 0), Reply.Tracker 10)
    ∷ (1, Call.TrackNode (key 0), Reply.Tracker 11)
    ∷ (1, Call.TrackNode (key 0), Reply.Tracker 12)
    ∷ (1, Call.TrackNode (key 0), Reply.Tracker 13)
    ∷ (1, Call.TrackNode (key 0), Reply.Tracker 14)
    ∷ (1, Call.TrackNode (key 0), Reply.Tracker 15)
    ∷ (1, Call.TrackNode (key 0), Reply.Tracker 16)
    ∷ (1, Call.TrackNode (key 0), Reply.Tracker 17)
    ∷ (1, Call.TrackNode (key 0), Reply.Tracker 18)
    ∷ (1, Call.TrackNode (key 0), Reply.Tracker 19)
    ∷ (1, Call.TrackNode (key 0), Reply.Tracker 20)
    ∷ (1, Call.TrackNode (key 0), Reply.Tracker 21)
    ∷ (1, Call.TrackNode (key 0), Reply.Tracker 22)
    ∷ (1, Call.TrackNode (key 0), Reply.Tracker 23)
    ∷ (1, Call.TrackNode (key 0), Reply.Tracker 24)
    ∷ (1, Call.TrackNode (key 0), Reply.Tracker 25)
    ∷ (1, Call.TrackNode (key 0), Reply.Tracker 26)
    ∷ (1, Call.TrackNode (key 0), Reply.Tracker 27)
    ∷ (1, Call.TrackNode (key 0), Reply.Tracker 28)
    ∷ (1, Call.TrackNode (key 0), Reply.Tracker 29)
    ∷ (1, Call.TrackNode (key 0), Reply.Tracker 30)
    ∷ (1, Call.TrackNode (key 0), Reply.Tracker 31)
    ∷ (1, Call.TrackNode (key 0), Reply.Tracker 32)
    ∷ (1, Call.TrackNode (key 0), Reply.Tracker 33)
    ∷ (1, Call.TrackNode (key 0), Reply.Tracker 34)
    ∷ (1, Call.TrackNode (key 0), Reply.Tracker 35)
    ∷ (1, Call.TrackNode (key 0), Reply.Tracker 36)
    ∷ (1, Call.TrackNode (key 0), Reply.Tracker 37)
    ∷ (1, Call.TrackNode (key 0), Reply.Tracker 38)
    ∷ (1, Call.TrackNode (key 0), Reply.Tracker 39)
    ∷ (1, Call.TrackNode (key 0), Reply.Tracker 40)
    ∷ (1, Call.TrackNode (key 0), Reply.Tracker 41)
    ∷ (1, Call.TrackNode (key 0), Reply.Tracker 42)
    ∷ (1, Call.TrackNode (key 0), Reply.Tracker 43)
    ∷ (1, Call.TrackNode (key 0), Reply.Tracker 44)
    ∷ (1, Call.TrackNode (key 0), Reply.Tracker 45)
    ∷ (1, Call.TrackNode (key 0), Reply.Tracker 46)
    ∷ (1, Call.TrackNode (key 0), Reply.Tracker 47)
    ∷ (1, Call.TrackNode (key 0), Reply.Tracker 48)
    ∷ (1, Call.TrackNode (key 0), Reply.Tracker 49)
    ∷ (1, Call.TrackNode (key 0), Reply.Tracker 50)
    ∷ (1, Call.TrackNode (key 0), Reply.Tracker 51)
    ∷ (1, Call.TrackNode (key 0), Reply.Tracker 52)
    ∷ (1, Call.TrackNode (key 0), Reply.Tracker 53)
    ∷ (1, Call.TrackNode (key 0), Reply.Tracker 54)
    ∷ (1, Call.TrackNode (key 0), Reply.Tracker 55)
    ∷ (1, Call.TrackNode (key 0), Reply.Tracker 56)
    ∷ (1, Call.TrackNode (key 0), Reply.Tracker 57)
    ∷ (1, Call.TrackNode (key 0), Reply.Tracker 58)
    ∷ (1, Call.TrackNode (key 0), Reply.Tracker 59)
    ∷ (1, Call.TrackNode (key 0), Reply.Tracker 60)
    ∷ (1, Call.TrackNode (key 0), Reply.Tracker 61)
    ∷ (1, Call.TrackNode (key 0), Reply.Tracker 62)
    ∷ (1, Call.TrackNode (key 0), Reply.Tracker 63)
    ∷ (1, Call.TrackNode (key 0), Reply.Tracker 64)
    ∷ (1, Call.TrackNode (key 0), Reply.Tracker 65)
    ∷ (1, Call.TrackNode (key 0), Reply.Tracker 66)
    ∷ (1, Call.TrackNode (key 0), Reply.Misused Misuse.TooManyNodeTrackers)
    ∷ []
