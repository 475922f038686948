use Rattle.std.proofs.Common.{Ok, sym, ap, ◌∙◌, subst}
use Rattle.std.specs.Process.{exit_status}
use Rattle.sm_names.specs.Bounds.{Bound}
use Rattle.report_io.proofs.Reporting.{reported_fault, reported_none}
use Rattle.script_explain.specs.Comparisons.{EndsChecked, checking_status}
use Rattle.script_explain.proofs.Comparing.{ends_checked}
use Rattle.script_explain.proofs.program.check_to_exit.Goals as goal

pub returns-in-Ok-Agrees-clause-ends : goal.returns-in-Ok-Agrees-clause-ends
returns-in-Ok-Agrees-clause-ends g c =
    let told = g.F.Write.contents c.args.faults.now in
    let is = c.in-Ok-Agrees.is ∙ ap Ok c.in-Ok-Agrees.field-0-is in
    subst
    (λ (limits : Bound). EndsChecked (record { pool = c.args.pages.count; limits = limits })
    (g.R.Read.remaining c.args.reader.now) (g.R.Read.remaining c.check_script.new.reader)
    (g.W.Write.contents c.args.writer.now) (g.W.Write.contents c.check_script.new.writer) told told 0)
    c.full.ensures
    (ends_checked _ _ _ _ _ told told c.check_script.result _ c.check_script.ensures
    (sym (ap checking_status is)) (reported_none told _ _ is))

pub returns-in-Ok-Differs-clause-ends : goal.returns-in-Ok-Differs-clause-ends
returns-in-Ok-Differs-clause-ends g c =
    let told = g.F.Write.contents c.args.faults.now in
    let is = c.in-Ok-Differs.is ∙ ap Ok c.in-Ok-Differs.field-0-is in
    subst
    (λ (limits : Bound). EndsChecked (record { pool = c.args.pages.count; limits = limits })
    (g.R.Read.remaining c.args.reader.now) (g.R.Read.remaining c.check_script.new.reader)
    (g.W.Write.contents c.args.writer.now) (g.W.Write.contents c.check_script.new.writer) told told (exit_status c.from.result))
    c.full.ensures
    (ends_checked _ _ _ _ _ told told c.check_script.result _ c.check_script.ensures
    (c.from.ensures ∙ sym (ap checking_status is)) (reported_none told _ _ is))

pub returns-in-Ok-Empty-clause-ends : goal.returns-in-Ok-Empty-clause-ends
returns-in-Ok-Empty-clause-ends g c =
    let told = g.F.Write.contents c.args.faults.now in
    let is = c.in-Ok-Empty.is ∙ ap Ok c.in-Ok-Empty.field-0-is in
    subst
    (λ (limits : Bound). EndsChecked (record { pool = c.args.pages.count; limits = limits })
    (g.R.Read.remaining c.args.reader.now) (g.R.Read.remaining c.check_script.new.reader)
    (g.W.Write.contents c.args.writer.now) (g.W.Write.contents c.check_script.new.writer) told told (exit_status c.from-in-Ok-Empty.result))
    c.full.ensures
    (ends_checked _ _ _ _ _ told told c.check_script.result _ c.check_script.ensures
    (c.from-in-Ok-Empty.ensures ∙ sym (ap checking_status is)) (reported_none told _ _ is))

pub returns-in-Err-clause-ends : goal.returns-in-Err-clause-ends
returns-in-Err-clause-ends g c =
    let before = g.F.Write.contents c.args.faults.now in
    let told = g.F.Write.contents c.end_with.new.faults in
    subst
    (λ (limits : Bound). EndsChecked (record { pool = c.args.pages.count; limits = limits })
    (g.R.Read.remaining c.args.reader.now) (g.R.Read.remaining c.check_script.new.reader)
    (g.W.Write.contents c.args.writer.now) (g.W.Write.contents c.check_script.new.writer) before told (exit_status c.end_with.result))
    c.full.ensures
    (ends_checked _ _ _ _ _ before told c.check_script.result _ c.check_script.ensures
    (c.end_with.ensures.status ∙ sym (ap checking_status c.in-Err.is))
    (reported_fault before told _ _ c.in-Err.is c.end_with.ensures.told))
