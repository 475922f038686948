use Rattle.std.proofs.Common.{rules}
use Rattle.core_state.proofs.theorem.Leads.{makes}
use Rattle.core_state.proofs.theorem.Recalling.{goes_on_but}
use Rattle.core_vanish.proofs.StepLemmas.{same_stays}
use Rattle.sysmem.proofs.stepping.step_by_words.Goals as goal

-- the event found room, so that each history goes on by it, whatever firings were forgotten
pub returns-in-Ok-clause-done : goal.returns-in-Ok-clause-done
returns-in-Ok-clause-done c done = record {
  call = c.in-Some.call;
  reply = c.step_into.new.out;
  says = search rules;
  tells = search rules;
  answer = c.in-Ok.ensures.answer;
  kind = c.in-Ok.ensures.kind;
  follows = c.in-Ok.ensures.after;
  goes_on = λ gone. goes_on_but gone c.args.core.now c.step_into.new.self c.args.client c.in-Some.call c.step_into.new.out
      (makes c.args.core.now c.step_into.new.self c.args.client c.in-Some.call c.step_into.new.out
      c.step_into.result c.in-Ok.is c.step_into.ensures.full c.in-Ok.ensures.answer c.in-Ok.ensures.after);
  untaken = c.in-Ok.ensures.untaken;
}

-- no event was made, and the state is the same
pub returns-in-Err-HistoryFull-clause-failed : goal.returns-in-Err-HistoryFull-clause-failed
returns-in-Err-HistoryFull-clause-failed c failed = record {
  same = c.in-Err-HistoryFull.ensures.kept;
  shows = same_stays c.args.core.now c.step_into.new.self c.in-Err-HistoryFull.ensures.kept;
}

pub returns-in-Err-NoMemory-clause-failed : goal.returns-in-Err-NoMemory-clause-failed
returns-in-Err-NoMemory-clause-failed c failed = record {
  same = c.in-Err-NoMemory.ensures.kept;
  shows = same_stays c.args.core.now c.step_into.new.self c.in-Err-NoMemory.ensures.kept;
}
