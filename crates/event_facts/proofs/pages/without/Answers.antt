use Rattle.std.proofs.Common.{◌∙◌, ap, min, w64, arith}
use Rattle.std.specs.Int.{bit_at}
use Rattle.std.proofs.lemmas.Nat.Bits.{bit_at_and, bit_at_not}
use Rattle.event_facts.proofs.pages.without.Goals as goal

-- a bit of an intersection is the least of both, and one of the complement the other bit
pub returns : goal.returns
returns c i low =
    bit_at_and c.args.set _ i ∙ ap (min (bit_at c.args.set i)) (bit_at_not w64 c.args.other i (omega arith) low)
