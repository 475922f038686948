use Rattle.play_likeness.proofs.Common.{GoneNode, In, new_key, take, ◌≡◌}
use Rattle.play_likeness.proofs.falls.are_fallen.Given as goal

-- so far each is one of the ones
abbrev pub invariant-loop-gone : goal.invariant-loop-gone
invariant-loop-gone l = (h : GoneNode) → In h (take l.gone-index l.other) → (g : GoneNode) × In g l.one × (new_key l.names g.key
    ≡ h.key)
