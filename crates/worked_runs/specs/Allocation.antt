-- Runs on the initial allocation, and on where buffers go in the pool.
use Rattle.std.specs.Prelude.{List, [], ◌∷◌}
use Rattle.sm_names.specs.declared.messages.Call.{Call}
use Rattle.sm_names.specs.declared.messages.Reply.{Reply}
use Rattle.sm_names.specs.declared.outcomes.Cause.{Cause}
use Rattle.sm_names.specs.declared.outcomes.Failure.{Failure}
use Rattle.sm_names.specs.Marks.{Entry}
use Rattle.worked_runs.specs.Words.{asks, key}

-- no call was made
abbrev pub nothing : List Entry
nothing = []

-- client 1 opens collection 2 with root 0, binds it, and asks for two buffers of two pages
abbrev pub two_buffers : List Entry
two_buffers =
    (0, Call.Join, Reply.Joined 1)
    ∷ (1, Call.OpenRoot, Reply.Token (key 0) 2)
    ∷ (1, Call.Bind (key 0), Reply.Done)
    ∷ (1, Call.SetConstraints (key 0) (asks 2 0 8192), Reply.Done)
    ∷ (1, Call.Check (key 0), Reply.Allocated 2 8192)
    ∷ []

-- two participants camp on 32 buffers each
abbrev pub most_buffers : List Entry
most_buffers =
    (0, Call.Join, Reply.Joined 1)
    ∷ (1, Call.OpenRoot, Reply.Token (key 0) 2)
    ∷ (1, Call.Duplicate (key 0), Reply.Token (key 1) 2)
    ∷ (1, Call.Bind (key 0), Reply.Done)
    ∷ (1, Call.Bind (key 1), Reply.Done)
    ∷ (1, Call.SetConstraints (key 0) (asks 32 0 4096), Reply.Done)
    ∷ (1, Call.SetConstraints (key 1) (asks 32 0 1), Reply.Done)
    ∷ (1, Call.Check (key 0), Reply.Allocated 64 4096)
    ∷ []

-- they camp on 32 and 33
abbrev pub too_many_buffers : List Entry
too_many_buffers =
    (0, Call.Join, Reply.Joined 1)
    ∷ (1, Call.OpenRoot, Reply.Token (key 0) 2)
    ∷ (1, Call.Duplicate (key 0), Reply.Token (key 1) 2)
    ∷ (1, Call.Bind (key 0), Reply.Done)
    ∷ (1, Call.Bind (key 1), Reply.Done)
    ∷ (1, Call.SetConstraints (key 0) (asks 32 0 4096), Reply.Done)
    ∷ (1, Call.SetConstraints (key 1) (asks 33 0 1), Reply.Done)
    ∷ (1, Call.Check (key 0), Reply.PeerClosed (Cause.Failed Failure.TooManyBuffers) (key 0))
    ∷ []

-- they camp on 64 and 1, in a pool of 16 pages
abbrev pub too_many_for_the_pool_too : List Entry
too_many_for_the_pool_too =
    (0, Call.Join, Reply.Joined 1)
    ∷ (1, Call.OpenRoot, Reply.Token (key 0) 2)
    ∷ (1, Call.Duplicate (key 0), Reply.Token (key 1) 2)
    ∷ (1, Call.Bind (key 0), Reply.Done)
    ∷ (1, Call.Bind (key 1), Reply.Done)
    ∷ (1, Call.SetConstraints (key 0) (asks 64 0 4096), Reply.Done)
    ∷ (1, Call.SetConstraints (key 1) (asks 1 0 4096), Reply.Done)
    ∷ (1, Call.Check (key 0), Reply.PeerClosed (Cause.Failed Failure.TooManyBuffers) (key 0))
    ∷ []

-- client 1 asks for 17 pages of 16
abbrev pub pool_full : List Entry
pool_full =
    (0, Call.Join, Reply.Joined 1)
    ∷ (1, Call.OpenRoot, Reply.Token (key 0) 2)
    ∷ (1, Call.Bind (key 0), Reply.Done)
    ∷ (1, Call.SetConstraints (key 0) (asks 1 0 65537), Reply.Done)
    ∷ (1, Call.Check (key 0), Reply.PeerClosed (Cause.Failed Failure.PoolFull) (key 0))
    ∷ []

-- a weak root asks for nothing
abbrev pub weak_and_no_buffers : List Entry
weak_and_no_buffers =
    (0, Call.Join, Reply.Joined 1)
    ∷ (1, Call.OpenRoot, Reply.Token (key 0) 2)
    ∷ (1, Call.SetWeak (key 0), Reply.Done)
    ∷ (1, Call.Bind (key 0), Reply.Done)
    ∷ (1, Call.SetConstraints (key 0) (asks 0 0 1), Reply.Done)
    ∷ (1, Call.Check (key 0), Reply.PeerClosed (Cause.Failed Failure.NoStrong) (key 0))
    ∷ []

-- three collections fill the pool; the second is released and a fourth finds no five pages; a fifth takes its
-- four; then that one and the first are released, and a sixth takes their eight
abbrev pub holes : List Entry
holes =
    (0, Call.Join, Reply.Joined 1)
    ∷ (1, Call.OpenRoot, Reply.Token (key 0) 2)
    ∷ (1, Call.Bind (key 0), Reply.Done)
    ∷ (1, Call.SetConstraints (key 0) (asks 1 0 16384), Reply.Done)
    ∷ (1, Call.OpenRoot, Reply.Token (key 1) 5)
    ∷ (1, Call.Bind (key 1), Reply.Done)
    ∷ (1, Call.SetConstraints (key 1) (asks 1 0 16384), Reply.Done)
    ∷ (1, Call.OpenRoot, Reply.Token (key 2) 8)
    ∷ (1, Call.Bind (key 2), Reply.Done)
    ∷ (1, Call.SetConstraints (key 2) (asks 1 0 32768), Reply.Done)
    ∷ (1, Call.Release (key 1), Reply.Done)
    ∷ (1, Call.OpenRoot, Reply.Token (key 3) 12)
    ∷ (1, Call.Bind (key 3), Reply.Done)
    ∷ (1, Call.SetConstraints (key 3) (asks 1 0 20480), Reply.Done)
    ∷ (1, Call.Check (key 3), Reply.PeerClosed (Cause.Failed Failure.PoolFull) (key 3))
    ∷ (1, Call.OpenRoot, Reply.Token (key 4) 16)
    ∷ (1, Call.Bind (key 4), Reply.Done)
    ∷ (1, Call.SetConstraints (key 4) (asks 1 0 16384), Reply.Done)
    ∷ (1, Call.Release (key 4), Reply.Done)
    ∷ (1, Call.Release (key 0), Reply.Done)
    ∷ (1, Call.OpenRoot, Reply.Token (key 5) 21)
    ∷ (1, Call.Bind (key 5), Reply.Done)
    ∷ (1, Call.SetConstraints (key 5) (asks 1 0 32768), Reply.Done)
    ∷ []

-- eight pages are free, four and four
abbrev pub scattered_pages : List Entry
scattered_pages =
    (0, Call.Join, Reply.Joined 1)
    ∷ (1, Call.OpenRoot, Reply.Token (key 0) 2)
    ∷ (1, Call.Bind (key 0), Reply.Done)
    ∷ (1, Call.SetConstraints (key 0) (asks 1 0 16384), Reply.Done)
    ∷ (1, Call.OpenRoot, Reply.Token (key 1) 5)
    ∷ (1, Call.Bind (key 1), Reply.Done)
    ∷ (1, Call.SetConstraints (key 1) (asks 1 0 16384), Reply.Done)
    ∷ (1, Call.OpenRoot, Reply.Token (key 2) 8)
    ∷ (1, Call.Bind (key 2), Reply.Done)
    ∷ (1, Call.SetConstraints (key 2) (asks 1 0 16384), Reply.Done)
    ∷ (1, Call.OpenRoot, Reply.Token (key 3) 11)
    ∷ (1, Call.Bind (key 3), Reply.Done)
    ∷ (1, Call.SetConstraints (key 3) (asks 1 0 16384), Reply.Done)
    ∷ (1, Call.Release (key 0), Reply.Done)
    ∷ (1, Call.Release (key 2), Reply.Done)
    ∷ (1, Call.OpenRoot, Reply.Token (key 4) 16)
    ∷ (1, Call.Bind (key 4), Reply.Done)
    ∷ (1, Call.SetConstraints (key 4) (asks 1 0 20480), Reply.Done)
    ∷ (1, Call.Check (key 4), Reply.PeerClosed (Cause.Failed Failure.PoolFull) (key 4))
    ∷ []

-- five pages are free, and further up three: a buffer of three pages goes to the first hole, though the
-- second fits it better
abbrev pub two_holes : List Entry
two_holes =
    (0, Call.Join, Reply.Joined 1)
    ∷ (1, Call.OpenRoot, Reply.Token (key 0) 2)
    ∷ (1, Call.Bind (key 0), Reply.Done)
    ∷ (1, Call.SetConstraints (key 0) (asks 1 0 20480), Reply.Done)
    ∷ (1, Call.OpenRoot, Reply.Token (key 1) 5)
    ∷ (1, Call.Bind (key 1), Reply.Done)
    ∷ (1, Call.SetConstraints (key 1) (asks 1 0 16384), Reply.Done)
    ∷ (1, Call.OpenRoot, Reply.Token (key 2) 8)
    ∷ (1, Call.Bind (key 2), Reply.Done)
    ∷ (1, Call.SetConstraints (key 2) (asks 1 0 12288), Reply.Done)
    ∷ (1, Call.OpenRoot, Reply.Token (key 3) 11)
    ∷ (1, Call.Bind (key 3), Reply.Done)
    ∷ (1, Call.SetConstraints (key 3) (asks 1 0 16384), Reply.Done)
    ∷ (1, Call.Release (key 0), Reply.Done)
    ∷ (1, Call.Release (key 2), Reply.Done)
    ∷ (1, Call.OpenRoot, Reply.Token (key 4) 16)
    ∷ (1, Call.Bind (key 4), Reply.Done)
    ∷ (1, Call.SetConstraints (key 4) (asks 1 0 12288), Reply.Done)
    ∷ []

-- four pages are free, and further up eight: of two buffers of three pages the first goes to the first hole,
-- and the second to the other
abbrev pub buffers_apart : List Entry
buffers_apart =
    (0, Call.Join, Reply.Joined 1)
    ∷ (1, Call.OpenRoot, Reply.Token (key 0) 2)
    ∷ (1, Call.Bind (key 0), Reply.Done)
    ∷ (1, Call.SetConstraints (key 0) (asks 1 0 16384), Reply.Done)
    ∷ (1, Call.OpenRoot, Reply.Token (key 1) 5)
    ∷ (1, Call.Bind (key 1), Reply.Done)
    ∷ (1, Call.SetConstraints (key 1) (asks 1 0 16384), Reply.Done)
    ∷ (1, Call.Release (key 0), Reply.Done)
    ∷ (1, Call.OpenRoot, Reply.Token (key 2) 9)
    ∷ (1, Call.Bind (key 2), Reply.Done)
    ∷ (1, Call.SetConstraints (key 2) (asks 2 0 12288), Reply.Done)
    ∷ []
