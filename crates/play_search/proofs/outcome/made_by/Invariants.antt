use Rattle.play_search.proofs.Common.{position_of, take, ◌≡◌}
use Rattle.std.specs.List.{flat_map}
use Rattle.actor_plays.specs.Endings.{told_of}
use Rattle.play_search.proofs.outcome.made_by.Given as goal

-- so far what became of what these calls made
abbrev pub invariant-replies : goal.invariant-replies
invariant-replies l = l.made.items ≡ flat_map (told_of (position_of l.play)) (take l.at-index l.replies)
