use Rattle.picture_dot.proofs.Common.{Keeps, Names, flat_map, take, ◌++◌, ◌≡◌}
use Rattle.picture_dot.specs.DotPictures.{firing_text}
use Rattle.picture_dot.proofs.picture.push_firings.Given as goal

-- those so far
abbrev pub invariant-loop-firing : goal.invariant-loop-firing
invariant-loop-firing l = (names : Names) → Keeps l.tables names →
    l.text.items ≡ l.initial.text.items ++ flat_map (firing_text names) (take l.firing-index l.fired)
