use Rattle.lifetime_core.proofs.Common.{rules}
use Rattle.lifetime_core.proofs.by_kind.dispatch.Goals as goal

-- the closure answers this call alone
pub step_kind-requires-clause-same : goal.step_kind-requires-clause-same
step_kind-requires-clause-same c = λ made is. search rules

pub step_kind-requires-in-Shut-clause-same : goal.step_kind-requires-in-Shut-clause-same
step_kind-requires-in-Shut-clause-same c = λ made is. search rules

pub step_kind-requires-in-OpenRoot-clause-same : goal.step_kind-requires-in-OpenRoot-clause-same
step_kind-requires-in-OpenRoot-clause-same c = λ made is. search rules

pub step_kind-requires-in-Duplicate-clause-same : goal.step_kind-requires-in-Duplicate-clause-same
step_kind-requires-in-Duplicate-clause-same c = λ made is. search rules

pub step_kind-requires-in-AttachToken-clause-same : goal.step_kind-requires-in-AttachToken-clause-same
step_kind-requires-in-AttachToken-clause-same c = λ made is. search rules

pub step_kind-requires-in-Sync-clause-same : goal.step_kind-requires-in-Sync-clause-same
step_kind-requires-in-Sync-clause-same c = λ made is. search rules

pub step_kind-requires-in-Give-clause-same : goal.step_kind-requires-in-Give-clause-same
step_kind-requires-in-Give-clause-same c = λ made is. search rules

pub step_kind-requires-in-Collect-clause-same : goal.step_kind-requires-in-Collect-clause-same
step_kind-requires-in-Collect-clause-same c = λ made is. search rules

pub step_kind-requires-in-Bind-clause-same : goal.step_kind-requires-in-Bind-clause-same
step_kind-requires-in-Bind-clause-same c = λ made is. search rules

pub step_kind-requires-in-SetDispensable-clause-same : goal.step_kind-requires-in-SetDispensable-clause-same
step_kind-requires-in-SetDispensable-clause-same c = λ made is. search rules

pub step_kind-requires-in-SetWeak-clause-same : goal.step_kind-requires-in-SetWeak-clause-same
step_kind-requires-in-SetWeak-clause-same c = λ made is. search rules

pub step_kind-requires-in-SetWeakOk-clause-same : goal.step_kind-requires-in-SetWeakOk-clause-same
step_kind-requires-in-SetWeakOk-clause-same c = λ made is. search rules

pub step_kind-requires-in-SetConstraints-clause-same : goal.step_kind-requires-in-SetConstraints-clause-same
step_kind-requires-in-SetConstraints-clause-same c = λ made is. search rules

pub step_kind-requires-in-Check-clause-same : goal.step_kind-requires-in-Check-clause-same
step_kind-requires-in-Check-clause-same c = λ made is. search rules

pub step_kind-requires-in-Take-clause-same : goal.step_kind-requires-in-Take-clause-same
step_kind-requires-in-Take-clause-same c = λ made is. search rules

pub step_kind-requires-in-Release-clause-same : goal.step_kind-requires-in-Release-clause-same
step_kind-requires-in-Release-clause-same c = λ made is. search rules

pub step_kind-requires-in-Close-clause-same : goal.step_kind-requires-in-Close-clause-same
step_kind-requires-in-Close-clause-same c = λ made is. search rules

pub step_kind-requires-in-DupHandle-clause-same : goal.step_kind-requires-in-DupHandle-clause-same
step_kind-requires-in-DupHandle-clause-same c = λ made is. search rules

pub step_kind-requires-in-DropHandle-clause-same : goal.step_kind-requires-in-DropHandle-clause-same
step_kind-requires-in-DropHandle-clause-same c = λ made is. search rules

pub step_kind-requires-in-GiveHandle-clause-same : goal.step_kind-requires-in-GiveHandle-clause-same
step_kind-requires-in-GiveHandle-clause-same c = λ made is. search rules

pub step_kind-requires-in-TrackNode-clause-same : goal.step_kind-requires-in-TrackNode-clause-same
step_kind-requires-in-TrackNode-clause-same c = λ made is. search rules

pub step_kind-requires-in-TrackLifetime-clause-same : goal.step_kind-requires-in-TrackLifetime-clause-same
step_kind-requires-in-TrackLifetime-clause-same c = λ made is. search rules

pub step_kind-requires-in-TrackWeak-clause-same : goal.step_kind-requires-in-TrackWeak-clause-same
step_kind-requires-in-TrackWeak-clause-same c = λ made is. search rules
