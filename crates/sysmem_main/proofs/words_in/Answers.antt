use Rattle.std.proofs.Common.{ℕ, Ok, refl}
use Rattle.std.proofs.lemmas.Iterator.{items_from_collect}
use Rattle.std.proofs.lemmas.Iterator.Adapters.{YieldsList-from_vec}
use Rattle.sysmem_main.proofs.words_in.Goals as goal

-- what was collected are the words that were left
pub returns-in-Ok-collect : goal.returns-in-Ok-collect
returns-in-Ok-collect g c = rw c.in-Ok.is
    (items_from_collect {E = ℕ} (Ok c.in-Ok-collect.words) c.in-Ok-collect.ensures.ran
    (YieldsList-from_vec c.in-Ok.args.rest.items refl c.in-Ok.args.rest.ok.0))
