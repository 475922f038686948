-- A sweep where no tracker is due.
use Rattle.core_state.proofs.Common.{In, List, TrackerTable, Waiting, World, ap, append-nil, false, filter-all, filter-none, firings}
use Rattle.core_state.proofs.Common.{is_due, map, not, swept, ℕ, ◌++◌, ◌∙◌, ◌≡◌}
use Rattle.trackers.specs.Table.{firing, still_waiting}

-- where none is due, a sweep leaves the trackers
pub none_swept : (w : World) (event : ℕ) (t : TrackerTable) → ((x : Waiting) → In x t.unfired → is_due w x ≡ false) → swept w event t ≡ t
none_swept w event t none =
    let still : still_waiting w t.unfired ≡ t.unfired = filter-all (λ x. not (is_due w x)) t.unfired (λ x on. ap not (none x on)) in
    let fired : t.fired ++ firings w event t.unfired ≡ t.fired =
    ap (λ (l : List Waiting). t.fired ++ map (firing event) l) (filter-none (is_due w) t.unfired none) ∙ append-nil t.fired in
    λ i. record t { unfired = still i; fired = fired i }
