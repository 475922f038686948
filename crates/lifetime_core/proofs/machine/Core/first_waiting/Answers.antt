use Rattle.lifetime_core.proofs.Common.{core_known, rules}
use Rattle.lifetime_core.proofs.machine.Core.first_waiting.Goals as goal

-- the clients stand by their numbers, as in the history that the core shows
pub first_waiting-requires : goal.first_waiting-requires
first_waiting-requires c = let rise = (core_known _ _ c.self.invariant).rising in search rules
