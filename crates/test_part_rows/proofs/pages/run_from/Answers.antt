-- The next of them is one of those that are held.
use Rattle.std.proofs.Common.{◌≡◌, arith, get_or, subst, sym, Contains}
use Rattle.std.proofs.lemmas.List.{get_or_default}
use Rattle.sm_names.specs.declared.keys.Interval.{Interval}
use Rattle.buffer_pool.specs.Holdings.{in_run}
use Rattle.buffer_pool.proofs.Runs.{HasRun-more}
use Rattle.test_part_rows.proofs.pages.run_from.Goals as goal

pub loop-next-preserved : goal.loop-next-preserved
loop-next-preserved c =
    let none : Interval = record { start = 0; pages = 0 } in
    let next : Interval = get_or c.args.held.now c.loop-next.next-index none in
    let is : next ≡ in_run c.args.start c.args.pages c.loop-next.count = c.is_next.ensures c.if-not-is_next.false in
    let there : Contains c.args.held.now next = (
      c.loop-next.next-index,
      c.loop-next-test.true,
      sym (get_or_default c.args.held.now c.loop-next.next-index none next c.loop-next-test.true),
    ) in
    record {
      few = omega (arith, c.loop-next.invariant.few, c.if-count-eq-MAX_PAGES.false);
      run = HasRun-more c.args.start c.args.pages c.loop-next.count c.args.held.now c.loop-next.invariant.run
          (subst (Contains c.args.held.now) is there);
    }
