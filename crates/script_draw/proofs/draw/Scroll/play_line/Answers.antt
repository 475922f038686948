use Rattle.std.proofs.Common.{◌∙◌, sym}
use Rattle.std.proofs.lemmas.Result.{on_ok_weaker}
use Rattle.script_draw.proofs.Playing.{far-pass, held-on}
use Rattle.script_draw.proofs.draw.Scroll.play_line.Goals as goal

pub returns-then-is_indented-clause-ok : goal.returns-then-is_indented-clause-ok
returns-then-is_indented-clause-ok c = λ setting until lines far before.
    far-pass setting until c.args.self.now lines far before c.args.line.now (sym c.is_indented.ensures ∙ c.if-is_indented.true)

pub returns-in-Some-clause-ok : goal.returns-in-Some-clause-ok
returns-in-Some-clause-ok c = on_ok_weaker c.take_act.result
    (λ made setting until lines far before. made setting until lines far (record {
      whole = sym c.is_indented.ensures ∙ c.if-is_indented.false;
      good = sym (c.read.ensures far.scene far.knows.is_at) ∙ c.in-Some.is;
    }) before)
    c.take_act.ensures.ok

pub returns-in-Some-clause-err : goal.returns-in-Some-clause-err
returns-in-Some-clause-err c = held-on c.take_act.result c.args.self.now c.args.line.now c.in-Some.act
    (λ setting until lines far. record {
      whole = sym c.is_indented.ensures ∙ c.if-is_indented.false;
      good = sym (c.read.ensures far.scene far.knows.is_at) ∙ c.in-Some.is;
    })
    c.take_act.ensures.err

pub returns-in-None-clause-err : goal.returns-in-None-clause-err
returns-in-None-clause-err c = λ setting until lines far. (
  sym c.is_indented.ensures ∙ c.if-is_indented.false,
  sym (c.read.ensures far.scene far.knows.is_at) ∙ c.in-None.is,
)
