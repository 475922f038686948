use Rattle.thread_runs.proofs.report.tell_all.Given as goal

-- each ledger is that of its blank
abbrev pub ghosts-run_on-E-Ledger : goal.ghosts-run_on-E-Ledger
ghosts-run_on-E-Ledger g a = record { name = a.blanks.events.name; parts = a.blanks.events.parts }

abbrev pub ghosts-run_on-S-Ledger : goal.ghosts-run_on-S-Ledger
ghosts-run_on-S-Ledger g a = record { name = a.blanks.strong.name; parts = a.blanks.strong.parts }

abbrev pub ghosts-run_on-W-Ledger : goal.ghosts-run_on-W-Ledger
ghosts-run_on-W-Ledger g a = record { name = a.blanks.weak.name; parts = a.blanks.weak.parts }

-- and the service is what was asked for
abbrev pub ghosts-run_on-E-Setup : goal.ghosts-run_on-E-Setup
ghosts-run_on-E-Setup g a = record { pages = a.setting.job.pages.count; limits = a.setting.limits }
