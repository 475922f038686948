-- A block that is passed has no room.
use Rattle.buffer_pool.proofs.Common.{MAX_PAGES, [], all_in, ap, arith, get_or, get_or_read, length, rooms, rules, sym, ◌+◌, ◌<◌, ◌∙◌}
use Rattle.buffer_pool.proofs.Common.{◌≡◌, ◌≤◌}
use Rattle.buffer_pool.proofs.Joins.{within-all}
use Rattle.buffer_pool.proofs.Filling.{passed-next}
use Rattle.buffer_pool.proofs.blocks.Blocks.first.Goals.{After-len-before}
use Rattle.buffer_pool.proofs.blocks.Blocks.first.Goals as goal

there : (c : After-len-before) → c.loop-block.block < length c.self.inside.used.items
there c = omega (arith, c.loop-block-test.true, c.len.ensures, c.self.inside.used.ok.0)

size : (c : After-len-before) → c.len-before.result ≡ length (get_or c.self.inside.used.items c.loop-block.block [])
size c = c.len-before.ensures.count ∙ ap length (get_or_read c.self.inside.used.items c.loop-block.block
    c.index-in-loop-block.result.now (there c) c.index-in-loop-block.ensures [])

pub overflow_add-before : goal.overflow_add-before
overflow_add-before c =
    let m = (goal.at.overflow_add-before c).After-len-before in
    let few : length (all_in c.self.inside.used.items) ≤ MAX_PAGES = rw (← c.self.view_is) at c.requires.few in
    let small : c.loop-block.before + c.len-before.result ≤ MAX_PAGES =
    omega (arith, within-all c.self.inside.used.items c.loop-block.block (there m), size m, c.loop-block.invariant.before) in
    search rules

pub loop-block-preserved : goal.loop-block-preserved
loop-block-preserved c =
    let m = (goal.at.loop-block-preserved c).After-len-before in
    rw (size m)
    (passed-next c.args.pages_each c.loop-block.block c.loop-block.before c.self.inside.used.items (there m)
    (ap (rooms c.args.pages_each)
    (sym (get_or_read c.self.inside.used.items c.loop-block.block c.index.result.now (there m) c.index.ensures []))
    ∙ c.may_fit.ensures c.if-not-may_fit.true)
    c.loop-block.invariant)
