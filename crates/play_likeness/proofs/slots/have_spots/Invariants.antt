use Rattle.play_likeness.proofs.Common.{In, NodeKey, known, new_key, take, ◌≡◌}
use Rattle.play_likeness.proofs.slots.have_spots.Given as goal

-- so far each has the same
abbrev pub invariant-loop-key : goal.invariant-loop-key
invariant-loop-key l = (x : NodeKey) → In x (take l.key-index l.keys) → (known l.other).spots (new_key l.names x)
    ≡ (known l.one).spots x
