use Rattle.std.proofs.Common.{inr, sym, ◌∙◌, subst}
use Rattle.script_labels.specs.Tables.{Keeps}
use Rattle.sm_script.specs.declared.session.Session.{Session}
use Rattle.sm_script.specs.Sessions.{setting_of}
use Rattle.script_explain.proofs.Telling.{seen-stop, took-more, took-pass}
use Rattle.script_explain.proofs.explain.ExplainerTakesLines.take_line.Goals as goal

-- an indented line is passed over
pub returns-then-is_indented-clause-ok : goal.returns-then-is_indented-clause-ok
returns-then-is_indented-clause-ok c = λ first lines whole took numbered.
    took-pass first c.args.self.now lines whole _ c.args.line.now (sym c.is_indented.ensures ∙ c.if-is_indented.true) took

-- any other is explained
pub returns-in-Ok-clause-ok : goal.returns-in-Ok-clause-ok
returns-in-Ok-clause-ok c = λ first lines whole took numbered.
    took-more first c.args.self.now c.explain.new.self lines whole _ _ c.args.line.now c.explain.new.self.reply.items
    c.explain.new.self.facts.items c.args.number (sym c.is_indented.ensures ∙ c.if-is_indented.false) c.in-Ok.ensures.tells
    c.in-Ok.ensures.failing c.explain.ensures.scope c.in-Ok.ensures.text took numbered

-- or is not, and its fault tells why
pub returns-in-Err-clause-err : goal.returns-in-Err-clause-err
returns-in-Err-clause-err c = inr (λ first lines whole took numbered.
    let far = took.2 in
    seen-stop (setting_of first.seen.event_writer.session) first.only_failures c.args.self.now.seen lines whole far c.args.line.now
    c.in-Err.stop c.args.number c.fault_of.result (sym c.is_indented.ensures ∙ c.if-is_indented.false) c.in-Err.ensures.err
    c.fault_of.ensures.line (λ is bad. c.fault_of.ensures.known far.scene.names
    (subst (λ (s : Session). Keeps s.tables far.scene.names) (sym (c.in-Err.ensures.same far.scene far.knows.is_at is))
    far.knows.is_at.keeps) bad) numbered)
