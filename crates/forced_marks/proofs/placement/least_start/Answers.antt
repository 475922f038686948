use Rattle.std.proofs.Common.{◌<◌, ◌∙◌, sym, arith}
use Rattle.forced_marks.proofs.Starts.{start_here, start_moves, start_over, start_past, start_rises}
use Rattle.forced_marks.proofs.placement.least_start.Goals as goal

-- the first with room is not before the next start
pub starts-preserved : goal.starts-preserved
starts-preserved c =
    start_moves c.args.pool c.args.pages c.starts.start c.next_start-start.result c.args.held.now c.in-Some.met c.starts-test.true
    c.in-Some.ensures c.next_start-start.ensures
    ∙ c.starts.invariant

-- which is behind this one
pub starts-smaller : goal.starts-smaller
starts-smaller c =
    let less : c.starts.start < c.args.pool = c.starts-test.true in
    let rises : c.starts.start < c.next_start-start.result =
    start_rises c.args.pool c.args.pages c.starts.start c.next_start-start.result c.args.held.now c.in-Some.met c.starts-test.true
    c.in-Some.ensures c.next_start-start.ensures in
    omega arith

-- the pages leave the pool
pub returns-then-not-is_in_pool : goal.returns-then-not-is_in_pool
returns-then-not-is_in_pool c =
    sym (start_past c.args.pool c.args.pages c.starts.start c.args.held.now (sym c.is_in_pool.ensures ∙ c.if-not-is_in_pool.true))
    ∙ c.starts.invariant

-- nothing is met
pub returns-in_default : goal.returns-in_default
returns-in_default c =
    sym (start_here c.args.pool c.args.pages c.starts.start c.args.held.now c.starts-test.true
    (sym c.is_in_pool.ensures ∙ c.if-not-is_in_pool.false) c.in_default.ensures)
    ∙ c.starts.invariant

-- no start is left
pub returns : goal.returns
returns c = sym (start_over _ c.starts.start c.args.pool c.starts-test.false) ∙ c.starts.invariant
