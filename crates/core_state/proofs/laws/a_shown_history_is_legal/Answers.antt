use Rattle.core_state.proofs.laws.a_shown_history_is_legal.Goals as goal

-- what a core shows says so
pub returns : goal.returns
returns c s history shows = shows.legal
