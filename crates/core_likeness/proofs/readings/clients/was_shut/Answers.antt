use Rattle.std.proofs.Common.{sym, ◌∙◌}
use Rattle.core_likeness.proofs.ParcelLaws.{shut-told}
use Rattle.core_likeness.proofs.readings.clients.was_shut.Goals as goal

-- by the entries alone
pub returns : goal.returns
returns c = λ pool. c.is_any_shut-shut.ensures ∙ sym (shut-told c.args.client pool c.args.entries.now)
