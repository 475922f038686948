use Rattle.core_state.proofs.Common.{legal_grows, timeline}
use Rattle.core_state.proofs.views.SameAnswers.{answer_is, answers_are}
use Rattle.core_state.proofs.laws.a_core_answers_as_its_history.Goals as goal

pub returns-clause-told : goal.returns-clause-told
returns-clause-told c s history shows =
    answers_are s (timeline s.pool history) shows.shown s.limits (legal_grows s.pool s.limits history shows.legal)

pub returns-clause-answers : goal.returns-clause-answers
returns-clause-answers c s history shows =
    answer_is s (timeline s.pool history) shows.shown s.limits (legal_grows s.pool s.limits history shows.legal)
