use Rattle.sysmem.proofs.Common.{map, take}
use Rattle.std.proofs.Common.{◌≡◌, ◌++◌, drop}
use Rattle.sysmem.proofs.arrays.write_array.Given as goal

abbrev pub invariant-loop-i : goal.invariant-loop-i
invariant-loop-i g l = l.out ≡ take l.i (map g.W.Encode.encoded l.items) ++ drop l.i l.initial.out
