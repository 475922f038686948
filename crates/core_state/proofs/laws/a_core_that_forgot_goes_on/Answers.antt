use Rattle.core_state.proofs.theorem.Recalling.{forgetting_shows, leads_on_but}
use Rattle.core_state.proofs.laws.a_core_that_forgot_goes_on.Goals as goal

pub returns-clause-whole : goal.returns-clause-whole
returns-clause-whole c s history shows = shows

pub returns-clause-forgets : goal.returns-clause-forgets
returns-clause-forgets c = forgetting_shows

pub returns-clause-events : goal.returns-clause-events
returns-clause-events c gone old new entries history leads shows = leads_on_but gone old entries new leads history shows

pub returns-clause-fired : goal.returns-clause-fired
returns-clause-fired c gone s history shows = shows.shown.trackers.fired
