use Rattle.std.proofs.Common.{◌∙◌, sym, ap, Some}
use Rattle.std.proofs.lemmas.Result.{on_ok_weaker}
use Rattle.script_draw.specs.Played.{is_call}
use Rattle.script_draw.proofs.Playing.{far-look, far-make, held-full, held-made}
use Rattle.script_draw.proofs.draw.Scroll.take_act.Goals as goal

pub returns-then-is_full-clause-err : goal.returns-then-is_full-clause-err
returns-then-is_full-clause-err c = λ setting until lines far asks.
    held-full setting until c.args.self.now lines far c.args.line.now c.in-Ask.client c.in-Ask.call c.in-Ask.binds
    asks.whole (asks.good ∙ ap Some c.in-Ask.is) (sym c.is_full.ensures ∙ c.if-is_full.true)

pub returns-else-is_full-clause-ok : goal.returns-else-is_full-clause-ok
returns-else-is_full-clause-ok c = on_ok_weaker c.make.result
    (λ made setting until lines far asks before.
    far-make setting until c.args.self.now lines far before c.make.new.self c.args.line.now c.in-Ask.client c.in-Ask.call
    c.in-Ask.binds asks.whole (asks.good ∙ ap Some c.in-Ask.is) made)
    c.make.ensures.ok

pub returns-else-is_full-clause-err : goal.returns-else-is_full-clause-err
returns-else-is_full-clause-err c = held-made c.make.result c.args.self.now c.args.line.now c.args.act c.make.ensures.err

pub returns-in-Nothing-clause-ok : goal.returns-in-Nothing-clause-ok
returns-in-Nothing-clause-ok c = λ setting until lines far asks before.
    far-look setting until c.args.self.now lines far before c.args.line.now c.args.act asks.whole asks.good (ap is_call c.in-Nothing.is)

pub returns-in-Poll-clause-ok : goal.returns-in-Poll-clause-ok
returns-in-Poll-clause-ok c = λ setting until lines far asks before.
    far-look setting until c.args.self.now lines far before c.args.line.now c.args.act asks.whole asks.good (ap is_call c.in-Poll.is)

pub returns-in-Show-clause-ok : goal.returns-in-Show-clause-ok
returns-in-Show-clause-ok c = λ setting until lines far asks before.
    far-look setting until c.args.self.now lines far before c.args.line.now c.args.act asks.whole asks.good (ap is_call c.in-Show.is)
