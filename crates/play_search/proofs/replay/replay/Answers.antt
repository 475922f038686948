use Rattle.play_search.proofs.Common.{refl}
use Rattle.play_search.proofs.replay.replay.Goals as goal

-- it tells
pub returns-clause-play : goal.returns-clause-play
returns-clause-play c = c.made_again.ensures.play refl

pub returns-clause-told : goal.returns-clause-told
returns-clause-told c = c.made_again.ensures.told refl
