-- Runs on ends and handles that travel from client to client.
use Rattle.std.specs.Prelude.{List, [], ◌∷◌}
use Rattle.sm_names.specs.declared.keys.Strength.{Strength}
use Rattle.sm_names.specs.declared.keys.Kind.{Kind}
use Rattle.sm_names.specs.declared.messages.Call.{Call}
use Rattle.sm_names.specs.declared.messages.Reply.{Reply}
use Rattle.sm_names.specs.declared.outcomes.Cause.{Cause}
use Rattle.sm_names.specs.declared.outcomes.Refusal.{Refusal}
use Rattle.sm_names.specs.Marks.{Entry}
use Rattle.worked_runs.specs.Words.{asks, buffer, key}

-- nothing is given to a shut client; a client gives its end to itself
abbrev pub end_given_to_itself : List Entry
end_given_to_itself =
    (0, Call.Join, Reply.Joined 1)
    ∷ (0, Call.Join, Reply.Joined 2)
    ∷ (1, Call.OpenRoot, Reply.Token (key 0) 3)
    ∷ (2, Call.Shut, Reply.Shut 0)
    ∷ (1, Call.Give (key 0) 2, Reply.Refused Refusal.ClientShut)
    ∷ (1, Call.Bind (key 0), Reply.Done)
    ∷ (1, Call.Give (key 0) 1, Reply.Done)
    ∷ (1, Call.Collect, Reply.Collected (key 0) Kind.Collection 3)
    ∷ (1, Call.Check (key 0), Reply.Pending)
    ∷ []

-- client 1 gives child 1 to client 2, which collects it when it is shut, and closes it
abbrev pub end_given_to_another : List Entry
end_given_to_another =
    (0, Call.Join, Reply.Joined 1)
    ∷ (0, Call.Join, Reply.Joined 2)
    ∷ (1, Call.OpenRoot, Reply.Token (key 0) 3)
    ∷ (1, Call.Duplicate (key 0), Reply.Token (key 1) 3)
    ∷ (1, Call.Give (key 1) 2, Reply.Done)
    ∷ (1, Call.Sync (key 1), Reply.Refused Refusal.InTransit)
    ∷ (2, Call.Sync (key 1), Reply.Refused Refusal.InTransit)
    ∷ (2, Call.Sync (key 0), Reply.Refused Refusal.NoSuchEnd)
    ∷ (2, Call.Shut, Reply.Shut 1)
    ∷ (2, Call.Collect, Reply.Collected (key 1) Kind.Token 3)
    ∷ (2, Call.Close (key 1), Reply.Done)
    ∷ (2, Call.Collect, Reply.Empty)
    ∷ (1, Call.Sync (key 0), Reply.PeerClosed Cause.Lost (key 1))
    ∷ []

-- client 1 gives child 1, and closes the root
abbrev pub parcel_of_a_lost_node : List Entry
parcel_of_a_lost_node =
    (0, Call.Join, Reply.Joined 1)
    ∷ (0, Call.Join, Reply.Joined 2)
    ∷ (1, Call.OpenRoot, Reply.Token (key 0) 3)
    ∷ (1, Call.Duplicate (key 0), Reply.Token (key 1) 3)
    ∷ (1, Call.Give (key 1) 2, Reply.Done)
    ∷ (1, Call.Close (key 0), Reply.Done)
    ∷ (2, Call.Collect, Reply.Collected (key 1) Kind.Token 3)
    ∷ (2, Call.Sync (key 1), Reply.PeerClosed Cause.Lost (key 0))
    ∷ (2, Call.Give (key 1) 2, Reply.PeerClosed Cause.Lost (key 0))
    ∷ (2, Call.Shut, Reply.Shut 0)
    ∷ []

-- whoever asks of the end in the parcel, a stranger too, is told that it is in transit
abbrev pub lost_in_transit : List Entry
lost_in_transit =
    (0, Call.Join, Reply.Joined 1)
    ∷ (0, Call.Join, Reply.Joined 2)
    ∷ (0, Call.Join, Reply.Joined 3)
    ∷ (1, Call.OpenRoot, Reply.Token (key 0) 4)
    ∷ (1, Call.Duplicate (key 0), Reply.Token (key 1) 4)
    ∷ (1, Call.Give (key 1) 2, Reply.Done)
    ∷ (1, Call.Close (key 0), Reply.Done)
    ∷ (1, Call.Sync (key 1), Reply.Refused Refusal.InTransit)
    ∷ (3, Call.Close (key 1), Reply.Refused Refusal.InTransit)
    ∷ (2, Call.Shut, Reply.Shut 1)
    ∷ []

-- client 1 gives child 1 and then child 2
abbrev pub two_parcels : List Entry
two_parcels =
    (0, Call.Join, Reply.Joined 1)
    ∷ (0, Call.Join, Reply.Joined 2)
    ∷ (1, Call.OpenRoot, Reply.Token (key 0) 3)
    ∷ (1, Call.Duplicate (key 0), Reply.Token (key 1) 3)
    ∷ (1, Call.Duplicate (key 0), Reply.Token (key 2) 3)
    ∷ (1, Call.Give (key 1) 2, Reply.Done)
    ∷ (1, Call.Give (key 2) 2, Reply.Done)
    ∷ (2, Call.Collect, Reply.Collected (key 1) Kind.Token 3)
    ∷ (2, Call.Collect, Reply.Collected (key 2) Kind.Token 3)
    ∷ (2, Call.Collect, Reply.Empty)
    ∷ []

-- client 1 takes a buffer, gives the handle to client 2, and releases the root
abbrev pub handle_travels : List Entry
handle_travels =
    (0, Call.Join, Reply.Joined 1)
    ∷ (0, Call.Join, Reply.Joined 2)
    ∷ (1, Call.OpenRoot, Reply.Token (key 0) 3)
    ∷ (1, Call.Bind (key 0), Reply.Done)
    ∷ (1, Call.SetConstraints (key 0) (asks 1 0 4096), Reply.Done)
    ∷ (1, Call.Take (key 0), Reply.Taken 3 Strength.Strong 1)
    ∷ (1, Call.GiveHandle (buffer 3 0) Strength.Strong 2, Reply.Done)
    ∷ (1, Call.DropHandle (buffer 3 0) Strength.Strong, Reply.Refused Refusal.NoSuchHandle)
    ∷ (1, Call.Release (key 0), Reply.Done)
    ∷ (2, Call.Collect, Reply.CollectedHandle (buffer 3 0) Strength.Strong)
    ∷ (2, Call.DropHandle (buffer 3 0) Strength.Strong, Reply.Done)
    ∷ []

-- a handle is not given to a shut client
abbrev pub handle_to_a_shut_client : List Entry
handle_to_a_shut_client =
    (0, Call.Join, Reply.Joined 1)
    ∷ (0, Call.Join, Reply.Joined 2)
    ∷ (1, Call.OpenRoot, Reply.Token (key 0) 3)
    ∷ (1, Call.Bind (key 0), Reply.Done)
    ∷ (1, Call.SetConstraints (key 0) (asks 1 0 4096), Reply.Done)
    ∷ (1, Call.Take (key 0), Reply.Taken 3 Strength.Strong 1)
    ∷ (2, Call.Shut, Reply.Shut 0)
    ∷ (1, Call.GiveHandle (buffer 3 0) Strength.Strong 2, Reply.Refused Refusal.ClientShut)
    ∷ (1, Call.DropHandle (buffer 3 0) Strength.Strong, Reply.Done)
    ∷ []

-- client 1 gives its handle to client 2, which is shut, collects it and drops it
abbrev pub handles_counted : List Entry
handles_counted =
    (0, Call.Join, Reply.Joined 1)
    ∷ (0, Call.Join, Reply.Joined 2)
    ∷ (1, Call.OpenRoot, Reply.Token (key 0) 3)
    ∷ (1, Call.Bind (key 0), Reply.Done)
    ∷ (1, Call.SetConstraints (key 0) (asks 1 0 4096), Reply.Done)
    ∷ (1, Call.Take (key 0), Reply.Taken 3 Strength.Strong 1)
    ∷ (1, Call.GiveHandle (buffer 3 0) Strength.Strong 2, Reply.Done)
    ∷ (2, Call.Shut, Reply.Shut 1)
    ∷ (2, Call.Collect, Reply.CollectedHandle (buffer 3 0) Strength.Strong)
    ∷ (2, Call.DropHandle (buffer 3 0) Strength.Strong, Reply.Done)
    ∷ []

-- client 1 is shut, gives its handle to client 2, and asks for a child
abbrev pub handle_of_a_shut_client : List Entry
handle_of_a_shut_client =
    (0, Call.Join, Reply.Joined 1)
    ∷ (0, Call.Join, Reply.Joined 2)
    ∷ (1, Call.OpenRoot, Reply.Token (key 0) 3)
    ∷ (1, Call.Duplicate (key 0), Reply.Token (key 1) 3)
    ∷ (1, Call.Bind (key 0), Reply.Done)
    ∷ (1, Call.SetConstraints (key 0) (asks 1 0 4096), Reply.Done)
    ∷ (1, Call.Release (key 1), Reply.Done)
    ∷ (1, Call.Take (key 0), Reply.Taken 3 Strength.Strong 1)
    ∷ (1, Call.Shut, Reply.Shut 0)
    ∷ (1, Call.DupHandle (buffer 3 0) Strength.Strong, Reply.Done)
    ∷ (1, Call.DropHandle (buffer 3 0) Strength.Strong, Reply.Done)
    ∷ (1, Call.GiveHandle (buffer 3 0) Strength.Strong 2, Reply.Done)
    ∷ (1, Call.AttachToken (key 0), Reply.Refused Refusal.ClientShut)
    ∷ (1, Call.TrackNode (key 0), Reply.Refused Refusal.ClientShut)
    ∷ (1, Call.Give (key 0) 2, Reply.Done)
    ∷ (2, Call.Collect, Reply.CollectedHandle (buffer 3 0) Strength.Strong)
    ∷ []
