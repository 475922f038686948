use Rattle.actor_scripts.proofs.Common.{length, script_actors_from, seen, ◌+◌, ◌≡◌}
use Rattle.std.proofs.Common.{◌≤◌}
use Rattle.actor_scripts.specs.ActorLists.{BuilderInvariant}
use Rattle.actor_scripts.proofs.script.judge.Given as goal

abbrev pub invariant-loop-at : goal.invariant-loop-at
invariant-loop-at l =
    (script_actors_from (seen l.initial.builder) l.script ≡ script_actors_from (seen l.builder) l.rest)
    × BuilderInvariant l.builder l.builder.lines
    × (l.builder.lines + length l.rest ≤ l.initial.builder.lines + length l.script)

abbrev pub decreases-loop-at : goal.decreases-loop-at
decreases-loop-at l = length l.rest
