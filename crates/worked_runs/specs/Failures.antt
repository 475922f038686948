-- Runs on failures, and on which nodes they take along.
use Rattle.std.specs.Prelude.{List, [], ◌∷◌}
use Rattle.sm_names.specs.declared.messages.Call.{Call}
use Rattle.sm_names.specs.declared.messages.Reply.{Reply}
use Rattle.sm_names.specs.declared.outcomes.Cause.{Cause}
use Rattle.sm_names.specs.declared.outcomes.Failure.{Failure}
use Rattle.sm_names.specs.declared.outcomes.Refusal.{Refusal}
use Rattle.sm_names.specs.Marks.{Entry}
use Rattle.worked_runs.specs.Words.{asks, key}

-- client 1 opens root 0 with children 1 and 2, and closes the first
abbrev pub child_lost : List Entry
child_lost =
    (0, Call.Join, Reply.Joined 1)
    ∷ (1, Call.OpenRoot, Reply.Token (key 0) 2)
    ∷ (1, Call.Duplicate (key 0), Reply.Token (key 1) 2)
    ∷ (1, Call.Duplicate (key 0), Reply.Token (key 2) 2)
    ∷ (1, Call.Close (key 1), Reply.Done)
    ∷ (1, Call.Check (key 0), Reply.PeerClosed Cause.Lost (key 1))
    ∷ (1, Call.Release (key 2), Reply.PeerClosed Cause.Lost (key 1))
    ∷ (1, Call.Close (key 2), Reply.Refused Refusal.NoSuchEnd)
    ∷ (1, Call.Close (key 0), Reply.Done)
    ∷ (1, Call.Close (key 0), Reply.Refused Refusal.NoSuchEnd)
    ∷ []

-- root 0 has child 1, and that child 2; 1 is released and 2 closed
abbrev pub lost_through_orphan : List Entry
lost_through_orphan =
    (0, Call.Join, Reply.Joined 1)
    ∷ (1, Call.OpenRoot, Reply.Token (key 0) 2)
    ∷ (1, Call.Duplicate (key 0), Reply.Token (key 1) 2)
    ∷ (1, Call.Duplicate (key 1), Reply.Token (key 2) 2)
    ∷ (1, Call.Release (key 1), Reply.Done)
    ∷ (1, Call.Close (key 2), Reply.Done)
    ∷ (1, Call.Sync (key 0), Reply.PeerClosed Cause.Lost (key 2))
    ∷ []

-- a dispensable child is closed before the allocation
abbrev pub dispensable_lost_before : List Entry
dispensable_lost_before =
    (0, Call.Join, Reply.Joined 1)
    ∷ (1, Call.OpenRoot, Reply.Token (key 0) 2)
    ∷ (1, Call.Duplicate (key 0), Reply.Token (key 1) 2)
    ∷ (1, Call.SetDispensable (key 1), Reply.Done)
    ∷ (1, Call.Bind (key 0), Reply.Done)
    ∷ (1, Call.SetConstraints (key 0) (asks 1 0 4096), Reply.Done)
    ∷ (1, Call.Close (key 1), Reply.Done)
    ∷ (1, Call.Check (key 0), Reply.PeerClosed Cause.Lost (key 1))
    ∷ []

-- a dispensable child is closed after the allocation
abbrev pub dispensable_lost_after : List Entry
dispensable_lost_after =
    (0, Call.Join, Reply.Joined 1)
    ∷ (1, Call.OpenRoot, Reply.Token (key 0) 2)
    ∷ (1, Call.Duplicate (key 0), Reply.Token (key 1) 2)
    ∷ (1, Call.SetDispensable (key 1), Reply.Done)
    ∷ (1, Call.Bind (key 1), Reply.Done)
    ∷ (1, Call.SetConstraints (key 1) (asks 1 0 4096), Reply.Done)
    ∷ (1, Call.Bind (key 0), Reply.Done)
    ∷ (1, Call.SetConstraints (key 0) (asks 1 0 4096), Reply.Done)
    ∷ (1, Call.Close (key 1), Reply.Done)
    ∷ (1, Call.Check (key 0), Reply.Allocated 2 4096)
    ∷ []

-- root 0, its dispensable child 1, and the child 2 of that; 2 is closed after the allocation
abbrev pub child_of_dispensable_lost : List Entry
child_of_dispensable_lost =
    (0, Call.Join, Reply.Joined 1)
    ∷ (1, Call.OpenRoot, Reply.Token (key 0) 2)
    ∷ (1, Call.Duplicate (key 0), Reply.Token (key 1) 2)
    ∷ (1, Call.SetDispensable (key 1), Reply.Done)
    ∷ (1, Call.Duplicate (key 1), Reply.Token (key 2) 2)
    ∷ (1, Call.Bind (key 0), Reply.Done)
    ∷ (1, Call.Bind (key 1), Reply.Done)
    ∷ (1, Call.Bind (key 2), Reply.Done)
    ∷ (1, Call.SetConstraints (key 0) (asks 1 0 4096), Reply.Done)
    ∷ (1, Call.SetConstraints (key 1) (asks 1 0 4096), Reply.Done)
    ∷ (1, Call.SetConstraints (key 2) (asks 1 0 4096), Reply.Done)
    ∷ (1, Call.Close (key 2), Reply.Done)
    ∷ (1, Call.Check (key 1), Reply.PeerClosed Cause.Lost (key 2))
    ∷ (1, Call.Check (key 0), Reply.Allocated 3 4096)
    ∷ []

-- the same, but 1 is made dispensable after the birth of 2
abbrev pub dispensable_after_its_child : List Entry
dispensable_after_its_child =
    (0, Call.Join, Reply.Joined 1)
    ∷ (1, Call.OpenRoot, Reply.Token (key 0) 2)
    ∷ (1, Call.Duplicate (key 0), Reply.Token (key 1) 2)
    ∷ (1, Call.Duplicate (key 1), Reply.Token (key 2) 2)
    ∷ (1, Call.SetDispensable (key 1), Reply.Done)
    ∷ (1, Call.Bind (key 0), Reply.Done)
    ∷ (1, Call.Bind (key 1), Reply.Done)
    ∷ (1, Call.Bind (key 2), Reply.Done)
    ∷ (1, Call.SetConstraints (key 0) (asks 1 0 4096), Reply.Done)
    ∷ (1, Call.SetConstraints (key 1) (asks 1 0 4096), Reply.Done)
    ∷ (1, Call.SetConstraints (key 2) (asks 1 0 4096), Reply.Done)
    ∷ (1, Call.Close (key 2), Reply.Done)
    ∷ (1, Call.Check (key 1), Reply.PeerClosed Cause.Lost (key 2))
    ∷ (1, Call.Check (key 0), Reply.Allocated 3 4096)
    ∷ []

-- attached 1 asks for more than there is and fails; then root 0 is closed
abbrev pub failed_and_then_lost : List Entry
failed_and_then_lost =
    (0, Call.Join, Reply.Joined 1)
    ∷ (1, Call.OpenRoot, Reply.Token (key 0) 2)
    ∷ (1, Call.Bind (key 0), Reply.Done)
    ∷ (1, Call.SetConstraints (key 0) (asks 1 0 4096), Reply.Done)
    ∷ (1, Call.AttachToken (key 0), Reply.Token (key 1) 2)
    ∷ (1, Call.Bind (key 1), Reply.Done)
    ∷ (1, Call.SetConstraints (key 1) (asks 1 0 4096), Reply.Done)
    ∷ (1, Call.Close (key 0), Reply.Done)
    ∷ (1, Call.Check (key 1), Reply.PeerClosed (Cause.Failed Failure.TooFew) (key 1))
    ∷ []

-- weak attached 2 fails as the strong root 0 is released, whose loss reaches it too; the weak child 1 tells
-- the second cause
abbrev pub failed_and_abandoned : List Entry
failed_and_abandoned =
    (0, Call.Join, Reply.Joined 1)
    ∷ (1, Call.OpenRoot, Reply.Token (key 0) 2)
    ∷ (1, Call.Duplicate (key 0), Reply.Token (key 1) 2)
    ∷ (1, Call.SetWeak (key 1), Reply.Done)
    ∷ (1, Call.Bind (key 0), Reply.Done)
    ∷ (1, Call.SetConstraints (key 0) (asks 1 0 4096), Reply.Done)
    ∷ (1, Call.Bind (key 1), Reply.Done)
    ∷ (1, Call.SetConstraints (key 1) (asks 0 0 1), Reply.Done)
    ∷ (1, Call.AttachToken (key 0), Reply.Token (key 2) 2)
    ∷ (1, Call.SetWeak (key 2), Reply.Done)
    ∷ (1, Call.Bind (key 2), Reply.Done)
    ∷ (1, Call.SetConstraints (key 2) (asks 1 0 4096), Reply.Done)
    ∷ (1, Call.Release (key 0), Reply.Done)
    ∷ (1, Call.Check (key 2), Reply.PeerClosed (Cause.Failed Failure.TooFew) (key 2))
    ∷ (1, Call.Check (key 1), Reply.PeerClosed Cause.NoStrong (key 0))
    ∷ []

-- root 0 is closed, and root 1 is opened
abbrev pub end_spent : List Entry
end_spent =
    (0, Call.Join, Reply.Joined 1)
    ∷ (1, Call.OpenRoot, Reply.Token (key 0) 2)
    ∷ (1, Call.Close (key 0), Reply.Done)
    ∷ (1, Call.OpenRoot, Reply.Token (key 1) 4)
    ∷ (1, Call.Sync (key 0), Reply.Refused Refusal.NoSuchEnd)
    ∷ (1, Call.Sync (key 1), Reply.Done)
    ∷ []
