-- Runs on attached subtrees, and on logical allocation.
use Rattle.std.specs.Prelude.{List, [], ◌∷◌}
use Rattle.sm_names.specs.declared.messages.Call.{Call}
use Rattle.sm_names.specs.declared.messages.Reply.{Reply}
use Rattle.sm_names.specs.declared.outcomes.Cause.{Cause}
use Rattle.sm_names.specs.declared.outcomes.Failure.{Failure}
use Rattle.sm_names.specs.Marks.{Entry}
use Rattle.worked_runs.specs.Words.{asks, key}

-- attached 1 is closed; then 2 is attached, and root 0 closed
abbrev pub attached_closed : List Entry
attached_closed =
    (0, Call.Join, Reply.Joined 1)
    ∷ (1, Call.OpenRoot, Reply.Token (key 0) 2)
    ∷ (1, Call.Bind (key 0), Reply.Done)
    ∷ (1, Call.SetConstraints (key 0) (asks 1 0 4096), Reply.Done)
    ∷ (1, Call.AttachToken (key 0), Reply.Token (key 1) 2)
    ∷ (1, Call.Close (key 1), Reply.Done)
    ∷ (1, Call.Check (key 0), Reply.Allocated 1 4096)
    ∷ (1, Call.AttachToken (key 0), Reply.Token (key 2) 2)
    ∷ (1, Call.Close (key 0), Reply.Done)
    ∷ (1, Call.Check (key 2), Reply.PeerClosed Cause.Lost (key 0))
    ∷ []

-- a weak root alone fails; of another collection attached 2 asks for one byte too much
abbrev pub too_large : List Entry
too_large =
    (0, Call.Join, Reply.Joined 1)
    ∷ (1, Call.OpenRoot, Reply.Token (key 0) 2)
    ∷ (1, Call.SetWeak (key 0), Reply.Done)
    ∷ (1, Call.Bind (key 0), Reply.Done)
    ∷ (1, Call.SetConstraints (key 0) (asks 1 0 4096), Reply.Done)
    ∷ (1, Call.Check (key 0), Reply.PeerClosed (Cause.Failed Failure.NoStrong) (key 0))
    ∷ (1, Call.OpenRoot, Reply.Token (key 1) 7)
    ∷ (1, Call.Bind (key 1), Reply.Done)
    ∷ (1, Call.SetConstraints (key 1) (asks 1 2 4096), Reply.Done)
    ∷ (1, Call.AttachToken (key 1), Reply.Token (key 2) 7)
    ∷ (1, Call.Bind (key 2), Reply.Done)
    ∷ (1, Call.SetConstraints (key 2) (asks 1 0 4097), Reply.Done)
    ∷ (1, Call.Check (key 2), Reply.PeerClosed (Cause.Failed Failure.TooSmall) (key 2))
    ∷ (1, Call.Check (key 1), Reply.Allocated 2 4096)
    ∷ []

-- attached 1 camps on none, but wants two to be there, of one
abbrev pub at_least_two : List Entry
at_least_two =
    (0, Call.Join, Reply.Joined 1)
    ∷ (1, Call.OpenRoot, Reply.Token (key 0) 2)
    ∷ (1, Call.Bind (key 0), Reply.Done)
    ∷ (1, Call.SetConstraints (key 0) (asks 1 1 4096), Reply.Done)
    ∷ (1, Call.AttachToken (key 0), Reply.Token (key 1) 2)
    ∷ (1, Call.Bind (key 1), Reply.Done)
    ∷ (1, Call.SetConstraints (key 1) (asks 0 2 1), Reply.Done)
    ∷ (1, Call.Check (key 1), Reply.PeerClosed (Cause.Failed Failure.TooFew) (key 1))
    ∷ []

-- attached 1 asks for one more, and a larger one
abbrev pub too_few_and_too_small : List Entry
too_few_and_too_small =
    (0, Call.Join, Reply.Joined 1)
    ∷ (1, Call.OpenRoot, Reply.Token (key 0) 2)
    ∷ (1, Call.Bind (key 0), Reply.Done)
    ∷ (1, Call.SetConstraints (key 0) (asks 1 1 4096), Reply.Done)
    ∷ (1, Call.AttachToken (key 0), Reply.Token (key 1) 2)
    ∷ (1, Call.Bind (key 1), Reply.Done)
    ∷ (1, Call.SetConstraints (key 1) (asks 1 0 8192), Reply.Done)
    ∷ (1, Call.Check (key 1), Reply.PeerClosed (Cause.Failed Failure.TooFew) (key 1))
    ∷ []

-- attached 1 asks for one byte more, in the same page
abbrev pub bytes_and_not_pages : List Entry
bytes_and_not_pages =
    (0, Call.Join, Reply.Joined 1)
    ∷ (1, Call.OpenRoot, Reply.Token (key 0) 2)
    ∷ (1, Call.Bind (key 0), Reply.Done)
    ∷ (1, Call.SetConstraints (key 0) (asks 1 2 4095), Reply.Done)
    ∷ (1, Call.AttachToken (key 0), Reply.Token (key 1) 2)
    ∷ (1, Call.Bind (key 1), Reply.Done)
    ∷ (1, Call.SetConstraints (key 1) (asks 1 0 4096), Reply.Done)
    ∷ (1, Call.Check (key 1), Reply.PeerClosed (Cause.Failed Failure.TooSmall) (key 1))
    ∷ []

-- attached 1 and 2 are ready before their root; the first born is served
abbrev pub two_attached : List Entry
two_attached =
    (0, Call.Join, Reply.Joined 1)
    ∷ (1, Call.OpenRoot, Reply.Token (key 0) 2)
    ∷ (1, Call.Bind (key 0), Reply.Done)
    ∷ (1, Call.AttachToken (key 0), Reply.Token (key 1) 2)
    ∷ (1, Call.AttachToken (key 0), Reply.Token (key 2) 2)
    ∷ (1, Call.Bind (key 2), Reply.Done)
    ∷ (1, Call.SetConstraints (key 2) (asks 1 0 1), Reply.Done)
    ∷ (1, Call.Bind (key 1), Reply.Done)
    ∷ (1, Call.SetConstraints (key 1) (asks 1 0 1), Reply.Done)
    ∷ (1, Call.Check (key 1), Reply.Pending)
    ∷ (1, Call.SetConstraints (key 0) (asks 1 2 4096), Reply.Done)
    ∷ (1, Call.Check (key 1), Reply.Allocated 2 4096)
    ∷ (1, Call.Check (key 2), Reply.PeerClosed (Cause.Failed Failure.TooFew) (key 2))
    ∷ []

-- attached 2 below attached 1 is ready, and 1 is not
abbrev pub nested_attached : List Entry
nested_attached =
    (0, Call.Join, Reply.Joined 1)
    ∷ (1, Call.OpenRoot, Reply.Token (key 0) 2)
    ∷ (1, Call.Bind (key 0), Reply.Done)
    ∷ (1, Call.SetConstraints (key 0) (asks 1 0 4096), Reply.Done)
    ∷ (1, Call.AttachToken (key 0), Reply.Token (key 1) 2)
    ∷ (1, Call.Bind (key 1), Reply.Done)
    ∷ (1, Call.AttachToken (key 1), Reply.Token (key 2) 2)
    ∷ (1, Call.Bind (key 2), Reply.Done)
    ∷ (1, Call.SetConstraints (key 2) (asks 0 0 1), Reply.Done)
    ∷ (1, Call.Check (key 2), Reply.Pending)
    ∷ (1, Call.Check (key 0), Reply.Allocated 1 4096)
    ∷ []

-- attached 2 below attached 1 is an unbound token, and delays neither 1 nor the root
abbrev pub unready_below : List Entry
unready_below =
    (0, Call.Join, Reply.Joined 1)
    ∷ (1, Call.OpenRoot, Reply.Token (key 0) 2)
    ∷ (1, Call.Bind (key 0), Reply.Done)
    ∷ (1, Call.AttachToken (key 0), Reply.Token (key 1) 2)
    ∷ (1, Call.Bind (key 1), Reply.Done)
    ∷ (1, Call.AttachToken (key 1), Reply.Token (key 2) 2)
    ∷ (1, Call.SetConstraints (key 0) (asks 1 0 4096), Reply.Done)
    ∷ (1, Call.Check (key 0), Reply.Allocated 1 4096)
    ∷ (1, Call.SetConstraints (key 1) (asks 0 0 1), Reply.Done)
    ∷ (1, Call.Check (key 1), Reply.Allocated 1 4096)
    ∷ []

-- attached 1 has sent no constraints: it is told of its own unit
abbrev pub checked_by_its_unit : List Entry
checked_by_its_unit =
    (0, Call.Join, Reply.Joined 1)
    ∷ (1, Call.OpenRoot, Reply.Token (key 0) 2)
    ∷ (1, Call.Bind (key 0), Reply.Done)
    ∷ (1, Call.SetConstraints (key 0) (asks 1 0 4096), Reply.Done)
    ∷ (1, Call.AttachToken (key 0), Reply.Token (key 1) 2)
    ∷ (1, Call.Bind (key 1), Reply.Done)
    ∷ (1, Call.Check (key 1), Reply.Pending)
    ∷ (1, Call.Check (key 0), Reply.Allocated 1 4096)
    ∷ []

-- attached 1 camps on the second buffer and is released; attached 2 takes it
abbrev pub attached_released : List Entry
attached_released =
    (0, Call.Join, Reply.Joined 1)
    ∷ (1, Call.OpenRoot, Reply.Token (key 0) 2)
    ∷ (1, Call.Bind (key 0), Reply.Done)
    ∷ (1, Call.SetConstraints (key 0) (asks 1 2 4096), Reply.Done)
    ∷ (1, Call.AttachToken (key 0), Reply.Token (key 1) 2)
    ∷ (1, Call.Bind (key 1), Reply.Done)
    ∷ (1, Call.SetConstraints (key 1) (asks 1 0 4096), Reply.Done)
    ∷ (1, Call.Check (key 1), Reply.Allocated 2 4096)
    ∷ (1, Call.Release (key 1), Reply.Done)
    ∷ (1, Call.AttachToken (key 0), Reply.Token (key 2) 2)
    ∷ (1, Call.Bind (key 2), Reply.Done)
    ∷ (1, Call.SetConstraints (key 2) (asks 1 0 4096), Reply.Done)
    ∷ (1, Call.Check (key 2), Reply.Allocated 2 4096)
    ∷ (1, Call.Check (key 0), Reply.Allocated 2 4096)
    ∷ []

-- attached 1 is released while its child 2 is live: attached 3 finds no buffer; once 2 is released too,
-- attached 4 does
abbrev pub attached_with_a_child : List Entry
attached_with_a_child =
    (0, Call.Join, Reply.Joined 1)
    ∷ (1, Call.OpenRoot, Reply.Token (key 0) 2)
    ∷ (1, Call.Bind (key 0), Reply.Done)
    ∷ (1, Call.SetConstraints (key 0) (asks 1 2 4096), Reply.Done)
    ∷ (1, Call.AttachToken (key 0), Reply.Token (key 1) 2)
    ∷ (1, Call.Duplicate (key 1), Reply.Token (key 2) 2)
    ∷ (1, Call.Bind (key 1), Reply.Done)
    ∷ (1, Call.SetConstraints (key 1) (asks 1 0 4096), Reply.Done)
    ∷ (1, Call.Release (key 1), Reply.Done)
    ∷ (1, Call.Bind (key 2), Reply.Done)
    ∷ (1, Call.SetConstraints (key 2) (asks 0 0 4096), Reply.Done)
    ∷ (1, Call.Check (key 2), Reply.Allocated 2 4096)
    ∷ (1, Call.AttachToken (key 0), Reply.Token (key 3) 2)
    ∷ (1, Call.Bind (key 3), Reply.Done)
    ∷ (1, Call.SetConstraints (key 3) (asks 1 0 4096), Reply.Done)
    ∷ (1, Call.Check (key 3), Reply.PeerClosed (Cause.Failed Failure.TooFew) (key 3))
    ∷ (1, Call.Release (key 2), Reply.Done)
    ∷ (1, Call.AttachToken (key 0), Reply.Token (key 4) 2)
    ∷ (1, Call.Bind (key 4), Reply.Done)
    ∷ (1, Call.SetConstraints (key 4) (asks 1 0 4096), Reply.Done)
    ∷ (1, Call.Check (key 4), Reply.Allocated 2 4096)
    ∷ []

-- attached 1 is released while attached 2 below it is live, so its count stays
abbrev pub attached_below_attached : List Entry
attached_below_attached =
    (0, Call.Join, Reply.Joined 1)
    ∷ (1, Call.OpenRoot, Reply.Token (key 0) 2)
    ∷ (1, Call.Bind (key 0), Reply.Done)
    ∷ (1, Call.SetConstraints (key 0) (asks 1 3 4096), Reply.Done)
    ∷ (1, Call.AttachToken (key 0), Reply.Token (key 1) 2)
    ∷ (1, Call.Bind (key 1), Reply.Done)
    ∷ (1, Call.SetConstraints (key 1) (asks 1 0 4096), Reply.Done)
    ∷ (1, Call.AttachToken (key 1), Reply.Token (key 2) 2)
    ∷ (1, Call.Bind (key 2), Reply.Done)
    ∷ (1, Call.SetConstraints (key 2) (asks 1 0 4096), Reply.Done)
    ∷ (1, Call.Release (key 1), Reply.Done)
    ∷ (1, Call.AttachToken (key 0), Reply.Token (key 3) 2)
    ∷ (1, Call.Bind (key 3), Reply.Done)
    ∷ (1, Call.SetConstraints (key 3) (asks 1 0 4096), Reply.Done)
    ∷ (1, Call.Check (key 3), Reply.PeerClosed (Cause.Failed Failure.TooFew) (key 3))
    ∷ (1, Call.Check (key 2), Reply.Allocated 3 4096)
    ∷ []

-- root 0 is released, and attached 1 stays
abbrev pub attached_keeps : List Entry
attached_keeps =
    (0, Call.Join, Reply.Joined 1)
    ∷ (1, Call.OpenRoot, Reply.Token (key 0) 2)
    ∷ (1, Call.Bind (key 0), Reply.Done)
    ∷ (1, Call.SetConstraints (key 0) (asks 1 2 4096), Reply.Done)
    ∷ (1, Call.AttachToken (key 0), Reply.Token (key 1) 2)
    ∷ (1, Call.Bind (key 1), Reply.Done)
    ∷ (1, Call.SetConstraints (key 1) (asks 1 0 4096), Reply.Done)
    ∷ (1, Call.Release (key 0), Reply.Done)
    ∷ (1, Call.Check (key 1), Reply.Allocated 2 4096)
    ∷ []

-- root 0 is released before it asked for anything, and attached 1 is a token
abbrev pub attached_token_keeps : List Entry
attached_token_keeps =
    (0, Call.Join, Reply.Joined 1)
    ∷ (1, Call.OpenRoot, Reply.Token (key 0) 2)
    ∷ (1, Call.Bind (key 0), Reply.Done)
    ∷ (1, Call.AttachToken (key 0), Reply.Token (key 1) 2)
    ∷ (1, Call.Release (key 0), Reply.Done)
    ∷ (1, Call.Sync (key 1), Reply.PeerClosed (Cause.Failed Failure.NoBuffers) (key 0))
    ∷ []
