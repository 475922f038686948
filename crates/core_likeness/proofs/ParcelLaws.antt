-- What the entries tell of clients and parcels.
use Rattle.core_likeness.proofs.Common.{Allocated, Called, Ended, Entry, List, Loss, Mark, None, ap, collects, drop, entry_mark, false}
use Rattle.core_likeness.proofs.Common.{filter_map, given_at, is_event, list_any, refl, reverse, timeline, times, ℕ, ◌∙◌, ◌≡◌}
use Rattle.sm_names.specs.Ends.{is_shut, parcels, shuts}
use Rattle.core_likeness.proofs.Calls.{any, counted, found}

-- What is forced shuts nobody,
shuts-quiet : (client : ℕ) (mark : Mark) → is_event mark ≡ false → shuts client mark ≡ false
shuts-quiet client (Called caller reply call) quiet = cc
shuts-quiet client (Loss origin cause) quiet = refl
shuts-quiet client (Allocated head) quiet = refl
shuts-quiet client (Ended top) quiet = refl

-- collects nothing,
collects-quiet : (client : ℕ) (mark : Mark) → is_event mark ≡ false → collects client mark ≡ false
collects-quiet client (Called caller reply call) quiet = cc
collects-quiet client (Loss origin cause) quiet = refl
collects-quiet client (Allocated head) quiet = refl
collects-quiet client (Ended top) quiet = refl

-- and gives nothing.
given-quiet : (client : ℕ) (mark : Mark) → is_event mark ≡ false → given_at client mark ≡ None
given-quiet client (Called caller reply call) quiet = cc
given-quiet client (Loss origin cause) quiet = refl
given-quiet client (Allocated head) quiet = refl
given-quiet client (Ended top) quiet = refl

-- Some entry shuts the client.
pub shut-told : (client pool : ℕ) (history : List Entry) →
    is_shut (timeline pool history) client ≡ list_any (λ (e : Entry). shuts client (entry_mark e)) history
shut-told client pool history = any (shuts client) (shuts-quiet client) pool history

-- Those that entries give, without the first ones.
pub parcels-told : (client pool : ℕ) (history : List Entry) → parcels (timeline pool history) client
    ≡ drop (times (λ (e : Entry). collects client (entry_mark e)) history) (filter_map (λ (e : Entry). given_at client (entry_mark
    e)) history)
parcels-told client pool history =
    ap (λ (n : ℕ). drop n (reverse (filter_map (given_at client) (timeline pool history))))
    (counted (collects client) (collects-quiet client) pool history)
    ∙ ap (drop (times (λ (e : Entry). collects client (entry_mark e)) history)) (found (given_at client) (given-quiet client) pool history)
