use Rattle.actor_scripts.proofs.Common.{known}
use Rattle.actor_scripts.proofs.FitLaws.{fits_if}
use Rattle.actor_scripts.proofs.actor_state.ActorState.call.Goals as goal

pub returns-clause-fits : goal.returns-clause-fits
returns-clause-fits c = fits_if c.args.clients.now (known c.args.self.now) c.args.step c.call_at.result c.call_at.ensures
