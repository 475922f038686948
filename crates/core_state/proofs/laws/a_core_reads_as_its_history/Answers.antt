use Rattle.core_state.proofs.Common.{legal_grows, timeline}
use Rattle.core_state.proofs.views.Readings.{readings_are, was_given}
use Rattle.core_state.proofs.laws.a_core_reads_as_its_history.Goals as goal

pub returns-clause-readings : goal.returns-clause-readings
returns-clause-readings c s history shows =
    readings_are s (timeline s.pool history) shows.shown s.limits (legal_grows s.pool s.limits history shows.legal)

pub returns-clause-given : goal.returns-clause-given
returns-clause-given c s history shows = was_given s (timeline s.pool history) shows.shown
