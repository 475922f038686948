use Rattle.event_laws.proofs.HandleCaseLaws.{take_each, take_all, take_moves_none}
use Rattle.event_laws.proofs.handles.a_take_opens_its_set.Goals as goal

pub returns-clause-each : goal.returns-clause-each
returns-clause-each c = take_each

pub returns-clause-in_all : goal.returns-clause-in_all
returns-clause-in_all c = take_all

pub returns-clause-in_parcels : goal.returns-clause-in_parcels
returns-clause-in_parcels c = take_moves_none
