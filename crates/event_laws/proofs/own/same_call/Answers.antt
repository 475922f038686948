use Rattle.std.proofs.Common.{◌∙◌, sym}
use Rattle.event_laws.proofs.SameLaws.{call_one}
use Rattle.event_laws.proofs.own.same_call.Goals as goal

pub returns-clause-yes : goal.returns-clause-yes
returns-clause-yes c = λ so. call_one c.args.a.now c.args.b.now (sym c.eq.ensures ∙ so)
