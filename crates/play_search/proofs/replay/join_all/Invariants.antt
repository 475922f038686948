use Rattle.play_search.proofs.Common.{◌≡◌}
use Rattle.actor_plays.specs.Plays.{AreJoining}
use Rattle.play_search.proofs.replay.join_all.Given as goal

-- so far clients have joined
abbrev pub invariant-joining : goal.invariant-joining
invariant-joining l = record {
  joining : AreJoining l.play;
  pages : l.play.core.pool ≡ l.fn.play.core.pool;
  limits : l.play.core.limits ≡ l.fn.play.core.limits;
}
