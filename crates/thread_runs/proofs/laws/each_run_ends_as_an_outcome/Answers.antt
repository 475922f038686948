use Rattle.thread_runs.proofs.OutcomeLaws.{ends-as-outcome}
use Rattle.thread_runs.proofs.laws.each_run_ends_as_an_outcome.Goals as goal

pub returns : goal.returns
returns c output pages limits company text run plans same vanishing ends setting pages_are limits_are outcomes none =
    ends-as-outcome pages limits company.scripts run.history run.came run.first run.played plans same vanishing ends setting pages_are
    limits_are outcomes none
