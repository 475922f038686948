-- The intervals are the same.
use Rattle.buffer_pool.proofs.Common.{HALF, [], all_in, ap, arith, get_or, length, length-remove, length-set, remove, ◌*◌, ◌++◌, ◌+◌, ◌-◌}
use Rattle.buffer_pool.proofs.Common.{◌<◌, ◌∙◌, ◌≡◌}
use Rattle.buffer_pool.proofs.Joins.{merge_in}
use Rattle.buffer_pool.proofs.blocks.Blocks.gather.Goals.{After-merge}
use Rattle.buffer_pool.proofs.blocks.Blocks.gather.Goals as goal

there : (c : After-merge) → c.short_pair-at.result + 1 < length c.args.self.now.lists
there c = rw (← c.self.view_is) (omega (arith, c.if-at-len.true, c.len.ensures, c.self.inside.used.ok.0))

pub returns-then-at-len-clause-items : goal.returns-then-at-len-clause-items
returns-then-at-len-clause-items c =
    ap all_in c.merge.ensures.lists ∙ merge_in c.args.self.now.lists c.short_pair-at.result (there c)

pub returns-then-at-len-clause-capacity : goal.returns-then-at-len-clause-capacity
returns-then-at-len-clause-capacity c =
    let short = length-remove c.args.self.now.lists (c.short_pair-at.result + 1) (there c) in
    let same = length-set (remove c.args.self.now.lists (c.short_pair-at.result + 1)) c.short_pair-at.result
    (get_or c.args.self.now.lists c.short_pair-at.result [] ++ get_or c.args.self.now.lists (c.short_pair-at.result + 1) []) in
    let long = ap length c.merge.ensures.lists in
    let more = c.merge.ensures.spares in
    let all : length c.merge.new.self.lists + c.merge.new.self.spares ≡ length c.args.self.now.lists + c.args.self.now.spares = omega
    arith in
    ap (λ n. (n - 1) * HALF) all
