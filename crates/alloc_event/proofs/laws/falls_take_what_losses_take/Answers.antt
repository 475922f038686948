use Rattle.forest_steps.proofs.failures.Ties.{losses_by_fall}
use Rattle.alloc_event.proofs.laws.falls_take_what_losses_take.Goals as goal

pub returns : goal.returns
returns c t nodes tied = losses_by_fall tied
