-- What is passed for fewer pages is passed for more.
use Rattle.buffer_pool.proofs.Filling.{passed-more, passed-start}
use Rattle.buffer_pool.proofs.holes.seek.Goals as goal
use Rattle.buffer_pool.proofs.holes.seek.Goals.{then-known-pages_each, else-known-pages_each}

pub first-requires-clause-from : goal.first-requires-clause-from
first-requires-clause-from c =
    elim c.if-known-pages_each.branch [
      | then-known-pages_each w ↦
          rw w.from-is
          (passed-more c.args.known c.args.pages_each c.args.reach c.args.blocks.now.lists w.if-known-pages_each.true c.requires.known)
      | else-known-pages_each w ↦ rw w.from-is (passed-start c.args.pages_each c.args.blocks.now.lists c.requires.pages)
    ]
