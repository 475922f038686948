use Rattle.client_vanish.proofs.Common.{[], arith, length-append, map, object_of, ◌++◌, ◌∷◌}
use Rattle.client_vanish.proofs.VanishingLaws.{collects_more}
use Rattle.client_vanish.proofs.vanishing.collect_all.Goals as goal

pub loop-left-preserved : goal.loop-left-preserved
loop-left-preserved g c =
    let so = c.loop-left.invariant in
    let one = c.in_ok-collect_one.ensures.made in
    let told = so.made.0 in
    let longer = length-append told (one.reply ∷ []) in
    record {
      made = (
        told ++ one.reply ∷ [],
        collects_more c.args.client.now c.loop-left.client c.collect_one.new.client told (map object_of c.loop-left.ends.items)
            (map object_of c.loop-left.handles.items)
            (map object_of c.collect_one.new.ends.items) (map object_of c.collect_one.new.handles.items) so.made.1 one,
        omega (arith, longer, so.made.2, c.loop-left-test.true),
      );
      ends = omega (arith, so.ends, c.collect_one.ensures.ends.0, c.collect_one.ensures.ends.1, c.loop-left-test.true);
      handles = omega (arith, so.handles, c.collect_one.ensures.handles.0, c.collect_one.ensures.handles.1, c.loop-left-test.true);
      few_ends = omega (arith, so.few_ends, c.collect_one.ensures.ends.1, c.loop-left-test.true);
      few_handles = omega (arith, so.few_handles, c.collect_one.ensures.handles.1, c.loop-left-test.true);
    }
