use Rattle.outcome_runs.proofs.Exploring.{explores_told, explores_unread}
use Rattle.outcome_runs.proofs.explore.explore_script.Goals as goal

pub returns-in-Err : goal.returns-in-Err
returns-in-Err g c = explores_unread _ _ _ _ c.in-Err.fault c.in-Err.ensures.err

pub returns : goal.returns
returns g c =
    explores_told _ _ _ _ _ c.in-Ok.script.items c.in-Ok.ensures.ok c.in-Ok.ensures.end c.in-Ok.ensures.within c.tell.result
    (rw c.deref.ensures.value at c.tell.ensures.ok) (rw c.deref.ensures.value at c.tell.ensures.err)
