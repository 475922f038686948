use Rattle.thread_runs.proofs.Common.{EndsUntold, ThreadsFault, subst, sym}
use Rattle.std.specs.Process.{exit_status}
use Rattle.thread_runs.proofs.Endings.{bad-untold}
use Rattle.thread_runs.proofs.program.end_untold.Goals as goal

pub returns-in-BadLine : goal.returns-in-BadLine
returns-in-BadLine g c =
    subst (λ (fault : ThreadsFault). EndsUntold c.args.script.now fault (g.F.Write.contents c.args.faults.now)
    (g.F.Write.contents c.end_with.new.faults) (exit_status c.end_with.result)) (sym c.in-BadLine.is)
    (bad-untold c.args.script.now c.in-BadLine.number _ _ c.bad_actor_line.result _ c.bad_actor_line.ensures.line
    c.bad_actor_line.ensures.reason c.end_with.ensures.told c.end_with.ensures.status)
