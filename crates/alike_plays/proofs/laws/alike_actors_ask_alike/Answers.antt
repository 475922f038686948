use Rattle.alike_plays.proofs.Asking.{asks-alike}
use Rattle.alike_plays.proofs.VanishLaws.{leaves-alike, next-alike, polls-alike}
use Rattle.alike_plays.proofs.laws.alike_actors_ask_alike.Goals as goal

pub returns-clause-step : goal.returns-clause-step
returns-clause-step c to id number one other alike plans actor = next-alike to id number one other alike plans actor

pub returns-clause-asks : goal.returns-clause-asks
returns-clause-asks c to id number one other alike clients step = asks-alike to id number one other alike clients step

pub returns-clause-leaves : goal.returns-clause-leaves
returns-clause-leaves c to id number one other alike = leaves-alike to id number one other alike

pub returns-clause-polls : goal.returns-clause-polls
returns-clause-polls c to id number one other alike first later same next = polls-alike to id number one other alike first later same next
