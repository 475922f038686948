-- The ends rise, and the blocks before the place stay.
use Rattle.buffer_pool.proofs.Common.{IsNonDecreasingBy, all_in, end_of, subst, sym}
use Rattle.buffer_pool.proofs.Spaces.{spaced-rises}
use Rattle.buffer_pool.proofs.Filling.{passed-kept}
use Rattle.buffer_pool.proofs.holes.Holes.release.Goals as goal

pub find-found-requires : goal.find-found-requires
find-found-requires c =
    let rises = rw (← c.self.view_is) at c.requires.spaced in
    subst (IsNonDecreasingBy end_of) (sym c.loosened-reach.ensures.items)
    (spaced-rises 0 (all_in c.self.inside.blocks.lists) rises)

pub invariant_of-self : goal.invariant_of-self
invariant_of-self c =
    let known = c.loosened-reach.ensures.passed c.self.inside.pages c.self.invariant in
    passed-kept c.self.inside.pages c.settle-spot.result.block c.lowered-self-inside.result c.loosened-reach.new.blocks.lists
    c.put_back.new.blocks.lists c.lowered-self-inside.ensures.block c.settle-spot.ensures.settled.within.0 c.put_back.ensures.front
    (c.lowered-self-inside.ensures.passed c.self.inside.pages c.loosened-reach.new.blocks.lists known)
