use Rattle.lifetime_core.proofs.Common.{Some, false, sym, total, ◌≡◌}
use Rattle.sm_names.specs.Trackers.{World}
use Rattle.trackers.specs.declared.waiting.Waiting.{Waiting}
use Rattle.trackers.specs.Table.{is_due}
use Rattle.core_state.specs.Reads.{world_in}
use Rattle.core_state.proofs.firing.Sweeps.{none_swept}
use Rattle.event_laws.proofs.NumberLaws.{In-all}
use Rattle.lifetime_core.proofs.sweeping.sweep.Goals as goal

-- where no collection is concerned, none is due
pub returns-in_default : goal.returns-in_default
returns-in_default c =
    let w : World = world_in c.args.forest.now (total c.args.holds.now) in
    sym (none_swept w c.args.event c.args.trackers.now
    (λ t on. In-all (λ (t : Waiting). (c.args.collection ≡ Some t.collection → ⊥) →
    is_due w t ≡ false) c.args.trackers.now.unfired c.requires.elsewhere t on (c.in_default.not-Some t.collection)))
