-- No interval has more pages than the greatest number.
use Rattle.buffer_pool.proofs.Common.{leb-false}
use Rattle.buffer_pool.proofs.Taking.{rooms-few}
use Rattle.buffer_pool.proofs.block.Block.may_fit.Goals as goal

pub returns : goal.returns
returns c = λ no.
    rw (← c.self.view_is)
    (rooms-few c.args.pages_each c.self.inside.greatest c.self.inside.cells.items c.self.invariant.bound (leb-false _ _ no))
