use Rattle.play_search.proofs.Common.{Ok, ap, position_of}
use Rattle.play_search.proofs.graph.Graph.is_ended.Goals as goal

-- it ends so
pub returns-in-Some : goal.returns-in-Some
returns-in-Some c = λ yes. record {
  end = position_of c.args.play.now;
  is_at = record { reached = c.requires.here.reached; rests = c.requires.here.rests };
  ends = λ over. c.in_ok-ends.ensures (ap Ok yes);
}

-- it is not over
pub returns : goal.returns
returns c = λ yes. record {
  end = position_of c.args.play.now;
  is_at = record { reached = c.requires.here.reached; rests = c.requires.here.rests };
  ends = λ over. absurd (c.in_ok-goes.ensures yes over);
}
