use Rattle.std.proofs.Common.{◌++◌, refl, ap, sym, subst, inl, ◌∙◌}
use Rattle.script_labels.specs.Tables.{Keeps}
use Rattle.sm_script.specs.declared.session.Session.{Session}
use Rattle.script_explain.specs.Progress.{lines_counted}
use Rattle.script_explain.proofs.Comparing.{far-play, far-unplayed}
use Rattle.script_explain.proofs.check.Comparison.play.Goals as goal

pub returns-in-Err-clause-err : goal.returns-in-Err-clause-err
returns-in-Err-clause-err c = λ setting lines text whole so_far numbered. (so_far.0, inl refl)

pub returns-in-Ok-answer-clause-ok : goal.returns-in-Ok-answer-clause-ok
returns-in-Ok-answer-clause-ok c = λ setting lines whole far numbered.
    far-play setting c.args.self.now lines far _ c.args.line.now c.args.number whole numbered c.requires c.in-Ok-answer.ensures.tells
    refl (c.in-Ok.ensures.items ∙ ap (λ front. front ++ c.args.line.now) c.clear.ensures.items) (c.counted-self.ensures
    ∙ ap (lines_counted c.args.self.now.lines) c.deref.ensures.value) refl

pub returns-in-Err-answer-clause-err : goal.returns-in-Err-answer-clause-err
returns-in-Err-answer-clause-err c = λ setting lines text whole so_far numbered.
    let far = so_far.1 in
    far-unplayed setting c.args.self.now lines far text c.args.line.now c.in-Err-answer.stop c.args.number c.fault_of.result so_far.0 whole
    c.in-Err-answer.ensures.err c.fault_of.ensures.line (λ is bad. c.fault_of.ensures.known far.scene.names
    (subst (λ (s : Session). Keeps s.tables far.scene.names) (sym (c.in-Err-answer.ensures.same far.scene far.knows.is_at is))
    far.knows.is_at.keeps) bad) numbered
