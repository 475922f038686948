use Rattle.std.proofs.Common.{sym, ◌∙◌}
use Rattle.core_likeness.proofs.ParcelLaws.{parcels-told}
use Rattle.core_likeness.proofs.readings.clients.waiting_for.Goals as goal

-- by the entries alone
pub returns : goal.returns
returns c = λ pool. c.in_ok-waiting.ensures ∙ sym (parcels-told c.args.client pool c.args.entries.now)
