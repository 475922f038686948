use Rattle.std.proofs.Common.{◌∙◌, sym}
use Rattle.event_laws.proofs.SameLaws.{reply_one}
use Rattle.event_laws.proofs.own.same_reply.Goals as goal

pub returns-clause-yes : goal.returns-clause-yes
returns-clause-yes c = λ so. reply_one c.args.a.now c.args.b.now (sym c.eq.ensures ∙ so)
