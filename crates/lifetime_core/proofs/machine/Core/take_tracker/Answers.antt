use Rattle.lifetime_core.proofs.Common.{ShowsBut, State, recalling, rules, subst, sym}
use Rattle.core_state.specs.Shown.{Shows}
use Rattle.core_state.proofs.theorem.GoesOn.{take_shows}
use Rattle.core_state.proofs.theorem.Keeps.{core_took}
use Rattle.lifetime_core.proofs.machine.Core.take_tracker.Goals as goal

-- no history tells which readers were taken
pub returns-clause-shows : goal.returns-clause-shows
returns-clause-shows c history shows =
    let s : State =
    record {
      pool = c.self.inside.contents.pool.size;
      limits = c.self.inside.limits;
      events = c.self.inside.events;
      clients = c.self.inside.contents.clients.items;
      forest = c.self.inside.contents.forest;
      holds = c.self.inside.contents.holds;
      trackers = c.self.inside.contents.trackers;
    } in
    rw c.take_tracker.ensures.taken (take_shows s c.args.id history (subst (λ (x : State). Shows x history) (sym c.self.view_is) shows))

-- nor does one of a core that forgot firings
pub returns-clause-shows_but : goal.returns-clause-shows_but
returns-clause-shows_but c gone history shows =
    let s : State =
    record {
      pool = c.self.inside.contents.pool.size;
      limits = c.self.inside.limits;
      events = c.self.inside.events;
      clients = c.self.inside.contents.clients.items;
      forest = c.self.inside.contents.forest;
      holds = c.self.inside.contents.holds;
      trackers = c.self.inside.contents.trackers;
    } in
    rw c.take_tracker.ensures.taken (take_shows (recalling gone s) c.args.id history
    (subst (λ (x : State). ShowsBut gone x history) (sym c.self.view_is) shows))

pub returns-clause-attached : goal.returns-clause-attached
returns-clause-attached c = search rules

pub returns-clause-cell : goal.returns-clause-cell
returns-clause-cell c = search rules

pub returns-clause-taken : goal.returns-clause-taken
returns-clause-taken c = search rules

pub returns-clause-tracker : goal.returns-clause-tracker
returns-clause-tracker c = search rules

-- and the history is the same
pub invariant_of-self : goal.invariant_of-self
invariant_of-self c = rw c.take_tracker.ensures.taken (core_took _ _ c.args.id c.self.invariant)
