-- A call that is refused changes nothing but the number of events.
use Rattle.history_laws.proofs.Common.{Call, Called, Refusal, Reply, Timeline, ap, events, fired, readings, refl, unfired, ℕ, ◌+◌, ◌∙◌}
use Rattle.history_laws.proofs.Common.{◌∷◌, ◌≡◌}
use Rattle.history_laws.proofs.FiredLaws.{unfired-same, fired-same}

-- what answers read, but for the trackers that have not fired
read-Refused : (marks : Timeline) (client : ℕ) (refusal : Refusal) (call : Call) →
    readings (Called client (Reply.Refused refusal) call ∷ marks) ≡
    record (readings marks) { events = events marks + 1; unfired = unfired (Called client (Reply.Refused refusal) call ∷ marks) }
read-Refused marks client refusal call = refl

-- and with them
pub readings-Refused : (marks : Timeline) (client : ℕ) (refusal : Refusal) (call : Call) →
    readings (Called client (Reply.Refused refusal) call ∷ marks) ≡ record (readings marks) { events = events marks + 1 }
readings-Refused marks client refusal call =
    read-Refused marks client refusal call
    ∙ ap (λ n. record (readings marks) { events = events marks + 1; unfired = n }) (unfired-same marks client (Reply.Refused refusal) call
    refl refl)

-- and which trackers fired
pub fired-Refused : (marks : Timeline) (client : ℕ) (refusal : Refusal) (call : Call) →
    fired (Called client (Reply.Refused refusal) call ∷ marks) ≡ fired marks
fired-Refused marks client refusal call = fired-same marks client (Reply.Refused refusal) call refl refl
