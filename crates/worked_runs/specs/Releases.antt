-- Runs on nodes that are released, and on what stays of them.
use Rattle.std.specs.Prelude.{List, [], ◌∷◌}
use Rattle.sm_names.specs.declared.messages.Call.{Call}
use Rattle.sm_names.specs.declared.messages.Reply.{Reply}
use Rattle.sm_names.specs.declared.outcomes.Cause.{Cause}
use Rattle.sm_names.specs.declared.outcomes.Failure.{Failure}
use Rattle.sm_names.specs.Marks.{Entry}
use Rattle.worked_runs.specs.Words.{asks, key}

-- root 0 has child 1, which is released as a token
abbrev pub child_released : List Entry
child_released =
    (0, Call.Join, Reply.Joined 1)
    ∷ (1, Call.OpenRoot, Reply.Token (key 0) 2)
    ∷ (1, Call.Duplicate (key 0), Reply.Token (key 1) 2)
    ∷ (1, Call.Release (key 1), Reply.Done)
    ∷ (1, Call.Bind (key 0), Reply.Done)
    ∷ (1, Call.SetConstraints (key 0) (asks 1 0 4096), Reply.Done)
    ∷ (1, Call.Check (key 0), Reply.Allocated 1 4096)
    ∷ []

-- child 1 asks for a buffer, and is released before the allocation
abbrev pub orphan_asks : List Entry
orphan_asks =
    (0, Call.Join, Reply.Joined 1)
    ∷ (1, Call.OpenRoot, Reply.Token (key 0) 2)
    ∷ (1, Call.Duplicate (key 0), Reply.Token (key 1) 2)
    ∷ (1, Call.Bind (key 1), Reply.Done)
    ∷ (1, Call.SetConstraints (key 1) (asks 1 0 4096), Reply.Done)
    ∷ (1, Call.Release (key 1), Reply.Done)
    ∷ (1, Call.Bind (key 0), Reply.Done)
    ∷ (1, Call.SetConstraints (key 0) (asks 1 0 4096), Reply.Done)
    ∷ (1, Call.Check (key 0), Reply.Allocated 2 4096)
    ∷ []

-- dispensable child 1 is closed after the allocation; attached 2 takes its count, and attached 3 finds none
abbrev pub failed_counts_return : List Entry
failed_counts_return =
    (0, Call.Join, Reply.Joined 1)
    ∷ (1, Call.OpenRoot, Reply.Token (key 0) 2)
    ∷ (1, Call.Duplicate (key 0), Reply.Token (key 1) 2)
    ∷ (1, Call.SetDispensable (key 1), Reply.Done)
    ∷ (1, Call.Bind (key 0), Reply.Done)
    ∷ (1, Call.Bind (key 1), Reply.Done)
    ∷ (1, Call.SetConstraints (key 0) (asks 1 0 4096), Reply.Done)
    ∷ (1, Call.SetConstraints (key 1) (asks 1 0 4096), Reply.Done)
    ∷ (1, Call.Close (key 1), Reply.Done)
    ∷ (1, Call.AttachToken (key 0), Reply.Token (key 2) 2)
    ∷ (1, Call.Bind (key 2), Reply.Done)
    ∷ (1, Call.SetConstraints (key 2) (asks 1 0 4096), Reply.Done)
    ∷ (1, Call.Check (key 2), Reply.Allocated 2 4096)
    ∷ (1, Call.AttachToken (key 0), Reply.Token (key 3) 2)
    ∷ (1, Call.Bind (key 3), Reply.Done)
    ∷ (1, Call.SetConstraints (key 3) (asks 1 0 4096), Reply.Done)
    ∷ (1, Call.Check (key 3), Reply.PeerClosed (Cause.Failed Failure.TooFew) (key 3))
    ∷ (1, Call.Check (key 0), Reply.Allocated 2 4096)
    ∷ []

-- it is released in place of that
abbrev pub released_counts_stay : List Entry
released_counts_stay =
    (0, Call.Join, Reply.Joined 1)
    ∷ (1, Call.OpenRoot, Reply.Token (key 0) 2)
    ∷ (1, Call.Duplicate (key 0), Reply.Token (key 1) 2)
    ∷ (1, Call.SetDispensable (key 1), Reply.Done)
    ∷ (1, Call.Bind (key 0), Reply.Done)
    ∷ (1, Call.Bind (key 1), Reply.Done)
    ∷ (1, Call.SetConstraints (key 0) (asks 1 0 4096), Reply.Done)
    ∷ (1, Call.SetConstraints (key 1) (asks 1 0 4096), Reply.Done)
    ∷ (1, Call.Release (key 1), Reply.Done)
    ∷ (1, Call.AttachToken (key 0), Reply.Token (key 2) 2)
    ∷ (1, Call.Bind (key 2), Reply.Done)
    ∷ (1, Call.SetConstraints (key 2) (asks 1 0 4096), Reply.Done)
    ∷ (1, Call.Check (key 2), Reply.PeerClosed (Cause.Failed Failure.TooFew) (key 2))
    ∷ []
