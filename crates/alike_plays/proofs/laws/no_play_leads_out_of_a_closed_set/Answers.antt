use Rattle.alike_plays.proofs.Common.{AreAlikeAhead, AreAlikePlays, true, ◌≡◌}
use Rattle.alike_plays.proofs.AheadTurns.{ahead_simulates}
use Rattle.alike_plays.proofs.Closing.{alike_simulates, all_met, rested_met}
use Rattle.alike_plays.proofs.laws.no_play_leads_out_of_a_closed_set.Goals as goal

pub returns-clause-all : goal.returns-clause-all
returns-clause-all c setup rows closed p reached = all_met setup AreAlikePlays (alike_simulates setup) rows closed p reached

pub returns-clause-rested : goal.returns-clause-rested
returns-clause-rested c setup rows closed p reached rest =
    rested_met setup AreAlikePlays (alike_simulates setup) rows closed p reached rest

pub returns-clause-ahead : goal.returns-clause-ahead
returns-clause-ahead c setup early by_early rows closed p reached =
    all_met setup (AreAlikeAhead early) (ahead_simulates setup early by_early) rows closed p reached

pub returns-clause-ahead_rested : goal.returns-clause-ahead_rested
returns-clause-ahead_rested c setup early by_early rows closed p reached rest =
    rested_met setup (AreAlikeAhead early) (ahead_simulates setup early by_early) rows closed p reached rest

pub returns-clause-like : goal.returns-clause-like
returns-clause-like c setup like simulates rows closed p reached =
    all_met setup (λ one other. like one other ≡ true) simulates rows closed p reached
