-- Each interval is held until it is given back.
use Rattle.std.proofs.Common.{◌≡◌, ◌∙◌, arith, ap, get_or}
use Rattle.std.proofs.lemmas.List.{get_or_default}
use Rattle.sm_names.specs.declared.keys.Interval.{Interval}
use Rattle.buffer_pool.specs.Holdings.{Holdings, without}
use Rattle.test_part_rows.proofs.Comings.{all_to_come, one_goes}
use Rattle.test_part_rows.proofs.pages.give_back.Goals as goal

pub give_back-requires : goal.give_back-requires
give_back-requires c = c.loop-back.invariant.there c.loop-back.back-index (record {
  start = 0;
  pages = 0;
}) (omega arith) c.loop-back-test.true

pub loop-back-init : goal.loop-back-init
loop-back-init c = all_to_come c.args.pool.now c.deref-back-items.result.now c.in-Ok.ensures.sound (c.deref-back-items.ensures.value
    ∙ c.in-Ok.ensures.ok)

pub loop-back-preserved : goal.loop-back-preserved
loop-back-preserved c =
    let none : Interval = record { start = 0; pages = 0 } in
    let back : Interval = get_or c.deref-back-items.result.now c.loop-back.back-index none in
    let gone : c.give_back.new.self.held ≡ without back.start c.loop-back.pool.held =
    ap (λ (p : Holdings). p.held) c.give_back.ensures.held in
    rw gone
    (one_goes c.loop-back.back-index c.deref-back-items.result.now c.loop-back.pool.held back c.loop-back-test.true
    (get_or_default c.deref-back-items.result.now c.loop-back.back-index none back c.loop-back-test.true) c.loop-back.invariant)
