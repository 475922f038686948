use Rattle.play_likeness.proofs.Common.{GoneNode, In, fall_renamed, fault_fallen, new_key, option_map, take, ◌≡◌}
use Rattle.play_likeness.proofs.falls.have_fallen.Given as goal

-- so far each fell alike
abbrev pub invariant-loop-gone : goal.invariant-loop-gone
invariant-loop-gone l = (g : GoneNode) → In g (take l.gone-index l.one) → fault_fallen l.other (new_key l.names g.key)
    ≡ option_map (fall_renamed (new_key l.names)) (fault_fallen l.one g.key)
