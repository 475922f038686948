use Rattle.std.proofs.Common.{◌≡◌, ap}
use Rattle.std.proofs.lemmas.List.Elements.{All-filter}
use Rattle.trackers.specs.declared.waiting.Waiting.{Waiting}
use Rattle.trackers.specs.Table.{TrackerTable}
use Rattle.test_part_rows.specs.declared.watch.TheConstants.{HERE}
use Rattle.test_part_rows.proofs.watch.Watch.sweep.Goals as goal

-- the cells stay, and those that wait did so before
pub invariant_of-self : goal.invariant_of-self
invariant_of-self c = record {
  numbered = rw (ap (λ (t : TrackerTable). t.cells) c.sweep.ensures.rest) c.args.self.now.numbered;
  here = rw c.sweep.ensures.unfired (All-filter _ (λ (t : Waiting). t.collection ≡ HERE) _ c.args.self.now.here);
}
