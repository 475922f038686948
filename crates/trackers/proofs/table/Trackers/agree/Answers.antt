use Rattle.trackers.proofs.Common.{Some, TrackerRow, ap, firing_of_row, get_or, sym, ℕ, ◌∙◌, ◌≡◌}
use Rattle.trackers.proofs.FoundLemmas.{found_within, found_row, found_cell, found_told, known_same}
use Rattle.trackers.proofs.table.Trackers.agree.Goals as goal

pub agree-requires-clause-within : goal.agree-requires-clause-within
agree-requires-clause-within c = found_within _ c.in-Some.ensures.1

-- the cell of the row is found under the id of the reader
pub agree-requires-clause-own : goal.agree-requires-clause-own
agree-requires-clause-own c = λ d.
    let own = rw (← c.self.view_is, ← c.id.ensures) at c.requires.own in
    same_name (sym own ∙ found_cell _ c.in-Some.ensures.1) ∙ ap (λ (r : TrackerRow). r.cell) (sym (found_row _ c.in-Some.ensures.1 d))
  where
    same_name : {a b : ℕ} → Some a ≡ Some b → a ≡ b
    same_name e = cc

-- the firing of the row is found under its id
pub returns-clause-same : goal.returns-clause-same
returns-clause-same c =
    let found = c.in-Some.ensures.1 in
    let d : TrackerRow = c.in-Some.ensures.0 in
    let told = found_told _ c.self.inside.rows.fired found c.self.invariant.held.told ∙ ap firing_of_row (sym (found_row _ found d)) in
    rw (← c.self.view_is, ← c.id.ensures, told) (c.agree.ensures.same d)

-- so it is where it has none
pub returns-clause-waiting : goal.returns-clause-waiting
returns-clause-waiting c =
    let found = c.in-Some.ensures.1 in
    let d : TrackerRow = c.in-Some.ensures.0 in
    let told = found_told _ c.self.inside.rows.fired found c.self.invariant.held.told ∙ ap firing_of_row (sym (found_row _ found d)) in
    rw (← c.self.view_is, ← c.id.ensures, told) (c.agree.ensures.waiting d)

-- and where the answer is true it is what the reader knows
pub returns-clause-known : goal.returns-clause-known
returns-clause-known c =
    let found = c.in-Some.ensures.1 in
    let d : TrackerRow = c.in-Some.ensures.0 in
    let told = found_told _ c.self.inside.rows.fired found c.self.invariant.held.told ∙ ap firing_of_row (sym (found_row _ found d)) in
    rw (← c.self.view_is, ← c.id.ensures, told) (known_same c.agree.result c.args.tracker.now.known
    (firing_of_row (get_or c.self.inside.rows.rows c.in-Some.at d)) (c.agree.ensures.same d))
