use Rattle.alike_plays.proofs.Knowing.{knows-alike}
use Rattle.alike_plays.proofs.VanishLaws.{after-alike, left-alike, passed-alike}
use Rattle.alike_plays.proofs.laws.alike_actors_stay_alike.Goals as goal

pub returns-clause-knows : goal.returns-clause-knows
returns-clause-knows c to id number keeps kept one other alike step asked reply =
    knows-alike to id number keeps kept one other alike step asked reply

pub returns-clause-passes : goal.returns-clause-passes
returns-clause-passes c to id number one other alike = passed-alike to id number one other alike

pub returns-clause-calls : goal.returns-clause-calls
returns-clause-calls c to id number keeps kept one other alike next asked reply =
    after-alike to id number one other alike keeps kept next asked reply

pub returns-clause-leaves : goal.returns-clause-leaves
returns-clause-leaves c to id number one other alike reply = left-alike to id number one other alike reply
