use Rattle.picture_dot.proofs.Common.{after, codes, last, on_ok_weaker}
use Rattle.core_state.specs.Reads.{views_of}
use Rattle.picture_model.specs.Features.{free_words}
use Rattle.picture_dot.specs.DotPictures.{pool_words}
use Rattle.picture_dot.proofs.picture.push_pool.Goals as goal

-- the numbers are the core's
pub returns : goal.returns
unfolding pool_words
returns c = on_ok_weaker c.push_free_pages.result
    (λ put. after _ (codes "  foot [shape=plaintext, label=\"pool ") _ _ _ c.in_ok-push.ensures.ok
    (last _ (free_words (views_of c.args.core.now).free c.args.core.now.pool) _
    (rw c.free_pages.ensures.value at (rw c.pages.ensures at put))))
    c.push_free_pages.ensures
