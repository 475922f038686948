use Rattle.std.proofs.lemmas.Result.{IfErr-weaker, IfOk-weaker}
use Rattle.outcome_runs.proofs.Reading.{unheld_told, unlisted_told}
use Rattle.outcome_runs.proofs.telling.told_of_script.Goals as goal

pub returns-in-Err-clause-err : goal.returns-in-Err-clause-err
returns-in-Err-clause-err g c = unlisted_told c.args.job c.args.script.now c.in-Err.fault c.in-Err.ensures.err

pub returns-clause-ok : goal.returns-clause-ok
returns-clause-ok g c = IfOk-weaker c.told_in.result _ _
    (λ told searched. record { list = c.in-Ok.list; is_list = c.in-Ok.ensures.ok; searched = searched }) c.told_in.ensures.ok

pub returns-clause-err : goal.returns-clause-err
returns-clause-err g c = IfErr-weaker c.told_in.result _ _
    (λ fault why. unheld_told c.args.job c.args.script.now c.in-Ok.list fault c.in-Ok.ensures.ok why) c.told_in.ensures.err
