-- Calls that change nothing but the number of events.
use Rattle.history_laws.proofs.Common.{Call, Called, Reply, Timeline, ap, events, false≢true, fired, live_nodes, readings, refl, standing}
use Rattle.history_laws.proofs.Common.{tracked, true, unfired, world, ℕ, ◌+◌, ◌∙◌, ◌∷◌, ◌≡◌}
use Rattle.sm_names.specs.Changes.{is_quiet}
use Rattle.sm_names.specs.Views.{held_by_page}
use Rattle.history_laws.proofs.FiredLaws.{unfired-same, fired-same}

-- what answers read, but for the trackers that have not fired
read-quiet : (marks : Timeline) (client : ℕ) (reply : Reply) (call : Call) → is_quiet call reply ≡ true →
    readings (Called client reply call ∷ marks) ≡ record (readings
    marks) { events = events marks + 1; unfired = unfired (Called client reply call ∷ marks) }
read-quiet marks client (Reply.Refused refusal) call h = refl
read-quiet marks client (Reply.Misused misuse) call h = refl
read-quiet marks client (Reply.Allocated count size) call h = refl
read-quiet marks client Reply.Pending call h = refl
read-quiet marks client Reply.Empty call h = refl
read-quiet marks client Reply.Done (Call.Sync key) h = refl
read-quiet marks client (Reply.PeerClosed cause origin) (Call.Release key) h = cc
read-quiet marks client (Reply.PeerClosed cause origin) _ h = refl
read-quiet marks client _ _ h = absurd (false≢true h)

-- what trackers look at, and the trackers
world-quiet : (marks : Timeline) (client : ℕ) (reply : Reply) (call : Call) → is_quiet call reply ≡ true →
    (world (Called client reply call ∷ marks) ≡ world marks) × (tracked (Called client reply call ∷ marks) ≡ tracked marks)
world-quiet marks client (Reply.Refused refusal) call h = (refl, refl)
world-quiet marks client (Reply.Misused misuse) call h = (refl, refl)
world-quiet marks client (Reply.Allocated count size) call h = (refl, refl)
world-quiet marks client Reply.Pending call h = (refl, refl)
world-quiet marks client Reply.Empty call h = (refl, refl)
world-quiet marks client Reply.Done (Call.Sync key) h = (refl, refl)
world-quiet marks client (Reply.PeerClosed cause origin) call h = (refl, refl)
world-quiet marks client _ _ h = absurd (false≢true h)

-- so all that answers read
pub readings-quiet : (marks : Timeline) (client : ℕ) (reply : Reply) (call : Call) → is_quiet call reply ≡ true →
    readings (Called client reply call ∷ marks) ≡ record (readings marks) { events = events marks + 1 }
readings-quiet marks client reply call h =
    let w = world-quiet marks client reply call h in
    read-quiet marks client reply call h
    ∙ ap (λ n. record (readings marks) { events = events marks + 1; unfired = n }) (unfired-same marks client reply call w.0 w.1)

-- what the forced steps read
pub standing-quiet : (pool : ℕ) (marks : Timeline) (client : ℕ) (reply : Reply) (call : Call) (collection : ℕ) →
    is_quiet call reply ≡ true →
    standing pool (Called client reply call ∷ marks) collection ≡ standing pool marks collection
standing-quiet pool marks client (Reply.Refused refusal) call collection h = refl
standing-quiet pool marks client (Reply.Misused misuse) call collection h = refl
standing-quiet pool marks client (Reply.Allocated count size) call collection h = refl
standing-quiet pool marks client Reply.Pending call collection h = refl
standing-quiet pool marks client Reply.Empty call collection h = refl
standing-quiet pool marks client Reply.Done (Call.Sync key) collection h = refl
standing-quiet pool marks client (Reply.PeerClosed cause origin) call collection h = refl
standing-quiet pool marks client _ _ collection h = absurd (false≢true h)

-- what is seen of nodes, pages and trackers
pub seen-quiet : (pool : ℕ) (marks : Timeline) (client : ℕ) (reply : Reply) (call : Call) → is_quiet call reply ≡ true →
    (live_nodes (Called client reply call ∷ marks) ≡ live_nodes marks) ×
    (held_by_page pool (Called client reply call ∷ marks) ≡ held_by_page pool marks)
seen-quiet pool marks client (Reply.Refused refusal) call h = (refl, refl)
seen-quiet pool marks client (Reply.Misused misuse) call h = (refl, refl)
seen-quiet pool marks client (Reply.Allocated count size) call h = (refl, refl)
seen-quiet pool marks client Reply.Pending call h = (refl, refl)
seen-quiet pool marks client Reply.Empty call h = (refl, refl)
seen-quiet pool marks client Reply.Done (Call.Sync key) h = (refl, refl)
seen-quiet pool marks client (Reply.PeerClosed cause origin) (Call.Release key) h = cc
seen-quiet pool marks client (Reply.PeerClosed cause origin) _ h = (refl, refl)
seen-quiet pool marks client _ _ h = absurd (false≢true h)

-- and which trackers fired
pub fired-quiet : (marks : Timeline) (client : ℕ) (reply : Reply) (call : Call) → is_quiet call reply ≡ true →
    fired (Called client reply call ∷ marks) ≡ fired marks
fired-quiet marks client reply call h = let w = world-quiet marks client reply call h in fired-same marks client reply call w.0 w.1
