use Rattle.forced_marks.proofs.Common.{arith, common_steps, rules, sym, ◌∙◌}
use Rattle.forced_marks.proofs.Places.{place_next, place_none}
use Rattle.forced_marks.proofs.placement.place.Goals as goal

pub returns-in_default-clause-placed : goal.returns-in_default-clause-placed
returns-in_default-clause-placed c =
    let none = rw c.deref.ensures.value at c.in_default.ensures in
    sym (place_none c.args.pool c.args.pages c.args.count c.loop.counter c.loop.held.items c.loop.starts.items c.loop-test.true (sym none))
    ∙ c.loop.invariant.placed

pub loop-preserved : goal.loop-preserved
loop-preserved c =
    let some = rw c.deref.ensures.value at c.in-Some.ensures in
    record {
      placed = rw (c.in_ok-push-2.ensures.items, c.in_ok-push.ensures.items)
          (sym (place_next c.args.pool c.args.pages c.args.count c.loop.counter c.loop.held.items c.in-Some.start c.loop.starts.items
          c.loop-test.true (sym some)) ∙ c.loop.invariant.placed);
      many = grind (arith, common_steps);
    }

pub returns-in_default-clause-many : goal.returns-in_default-clause-many
returns-in_default-clause-many c = search rules

pub returns-clause-many : goal.returns-clause-many
returns-clause-many c = search rules

pub returns-clause-placed : goal.returns-clause-placed
returns-clause-placed c = search rules
