use Rattle.lifetime_core.proofs.Common.{IsCore, ShowsBut, State, ap, subst, sym, ◌∙◌, ◌≡◌}
use Rattle.std.proofs.Common.{◌++◌, Result, Ok, Err, OnOk, OnErr}
use Rattle.std.proofs.lemmas.Result.{on_ok_weaker, on_err_weaker}
use Rattle.trackers.specs.Table.{TrackerTable, forgetful}
use Rattle.core_state.specs.Shown.{forgetting}
use Rattle.core_state.proofs.theorem.Keeps.{core_forgot}
use Rattle.core_state.proofs.theorem.Recalling.{forgetting_shows}
use Rattle.lifetime_core.specs.declared.machine.Core.TheInside.{Inside}
use Rattle.lifetime_core.proofs.machine.Core.forget_fired.Goals as goal

-- what holds of the table without its firings, and as it was, holds of it now
either_way : {A E : Type 0} (r : Result A E) (old new : TrackerTable) (P : TrackerTable → Type 0) → OnOk r (new ≡ forgetful old) →
    OnErr r (new ≡ old) → P (forgetful old) → P old → P new
either_way (Ok a) old new P forgot kept less all = subst P (sym forgot) less
either_way (Err e) old new P forgot kept less all = subst P (sym kept) all

-- the core with these trackers
abbrev core_with : Inside → TrackerTable → State
core_with core trackers = record {
  pool = core.contents.pool.size;
  limits = core.limits;
  events = core.events;
  clients = core.contents.clients.items;
  forest = core.contents.forest;
  holds = core.contents.holds;
  trackers = trackers;
}

-- without its firings it is still a core
pub invariant_of-self : goal.invariant_of-self
invariant_of-self c =
    let old : TrackerTable = c.self.inside.contents.trackers in
    either_way c.forget_fired.result old c.forget_fired.new.self
    (λ (t : TrackerTable). IsCore c.self.inside.contents.pool (core_with c.self.inside t))
    c.forget_fired.ensures.ok c.forget_fired.ensures.err
    (core_forgot c.self.inside.contents.pool (core_with c.self.inside old) c.self.invariant) c.self.invariant

-- the table forgets in each case
pub returns-clause-done : goal.returns-clause-done
returns-clause-done c = c.forget_fired.ensures.done

pub returns-clause-forgot : goal.returns-clause-forgot
returns-clause-forgot c =
    on_ok_weaker c.forget_fired.result (λ new. ap (core_with c.self.inside) new ∙ ap forgetting c.self.view_is) c.forget_fired.ensures.ok

pub returns-clause-kept : goal.returns-clause-kept
returns-clause-kept c = on_err_weaker c.forget_fired.result (λ new. ap (core_with c.self.inside) new
    ∙ c.self.view_is) c.forget_fired.ensures.err

-- no history tells which firings were forgotten
pub returns-clause-shows : goal.returns-clause-shows
returns-clause-shows c =
    on_ok_weaker c.forget_fired.result (λ new gone history shows.
    let forgot = subst (λ (s : State). ShowsBut (gone ++ s.trackers.fired) (forgetting s) history) c.self.view_is
    (forgetting_shows gone (core_with c.self.inside c.self.inside.contents.trackers) history
    (subst (λ (s : State). ShowsBut gone s history) (sym c.self.view_is) shows)) in
    subst (λ (s : State). ShowsBut (gone ++ c.args.self.now.trackers.fired) s history)
    (sym (ap (core_with c.self.inside) new ∙ ap forgetting c.self.view_is)) forgot) c.forget_fired.ensures.ok
