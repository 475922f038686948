-- The clients of two cores, by the entries.
use Rattle.core_likeness.proofs.Common.{Entry, List, Shows, State, ap, client_after, map, map-map, reverse, sym, timeline, ℕ, ◌∙◌, ◌≡◌}
use Rattle.sm_names.specs.Ends.{clients}
use Rattle.core_state.specs.State.{Client}

-- The same clients joined, and each stands alike.
pub clients-alike : (f : Client → Client) (s t : State) (first second : List Entry) → Shows s first → Shows t second → (ids others
    : List ℕ) →
    ids ≡ reverse (clients (timeline s.pool first)) → others ≡ reverse (clients (timeline t.pool second)) → others ≡ ids →
    map (client_after (timeline t.pool second)) ids ≡ map (λ client. f (client_after (timeline s.pool first) client)) ids →
    t.clients ≡ map f s.clients
clients-alike f s t first second one other ids others first_ids second_ids same each =
    other.shown.clients
    ∙ (ap (map (client_after (timeline t.pool second))) (sym second_ids ∙ same)
    ∙ (each
    ∙ (sym (map-map f (client_after (timeline s.pool first)) ids)
    ∙ ap (map f) (ap (map (client_after (timeline s.pool first))) first_ids ∙ sym one.shown.clients))))
