use Rattle.alike_plays.proofs.Common.{AreAlikeAhead, AreAlikePlays, true, ◌≡◌}
use Rattle.alike_plays.proofs.AheadTurns.{ahead_simulates}
use Rattle.alike_plays.proofs.Closing.{alike_simulates}
use Rattle.alike_plays.proofs.SameTurns.{same_turns}
use Rattle.alike_plays.proofs.laws.the_same_turns_lead_to_the_same.Goals as goal

-- by the turns of both
pub returns-clause-alike : goal.returns-clause-alike
returns-clause-alike c = λ setup. same_turns setup AreAlikePlays (alike_simulates setup)

-- the same but for what lies behind actors that leave
pub returns-clause-ahead : goal.returns-clause-ahead
returns-clause-ahead c = λ setup early by_early. same_turns setup (AreAlikeAhead early) (ahead_simulates setup early by_early)

-- the same for each likeness
pub returns-clause-like : goal.returns-clause-like
returns-clause-like c = λ setup like. same_turns setup (λ one other. like one other ≡ true)
