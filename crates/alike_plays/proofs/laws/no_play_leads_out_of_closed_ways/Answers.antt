use Rattle.alike_plays.proofs.Common.{AreAlikeAhead, AreAlikePlays, true, ◌≡◌}
use Rattle.alike_plays.proofs.AheadTurns.{ahead_simulates}
use Rattle.alike_plays.proofs.Closing.{alike_simulates}
use Rattle.alike_plays.proofs.SameTurns.{way_met}
use Rattle.alike_plays.proofs.laws.no_play_leads_out_of_closed_ways.Goals as goal

-- by the positions to which the ways lead
pub returns-clause-alike : goal.returns-clause-alike
returns-clause-alike c = λ setup. way_met setup AreAlikePlays (alike_simulates setup)

-- the same but for what lies behind actors that leave
pub returns-clause-ahead : goal.returns-clause-ahead
returns-clause-ahead c = λ setup early by_early. way_met setup (AreAlikeAhead early) (ahead_simulates setup early by_early)

-- the same for each likeness
pub returns-clause-like : goal.returns-clause-like
returns-clause-like c = λ setup like. way_met setup (λ one other. like one other ≡ true)
