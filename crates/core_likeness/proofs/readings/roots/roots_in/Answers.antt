use Rattle.std.proofs.Common.{sym, ◌∙◌}
use Rattle.core_likeness.proofs.RootLaws.{roots-told}
use Rattle.core_likeness.proofs.readings.roots.roots_in.Goals as goal

-- by the entries alone
pub returns : goal.returns
returns c = λ pool. c.in_ok-ids.ensures ∙ sym (roots-told pool c.args.entries.now)
