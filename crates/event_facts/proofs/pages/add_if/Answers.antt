use Rattle.event_facts.proofs.Common.{arith, common_steps, w64}
use Rattle.std.proofs.lemmas.Nat.Bits.{bit_at_set_other, bit_at_set_same}
use Rattle.event_facts.proofs.pages.add_if.Goals as goal

-- the bit of the index is one, and the others stay
pub returns-then-is_in-clause-same : goal.returns-then-is_in-clause-same
returns-then-is_in-clause-same c = grind (arith, common_steps, bit_at_set_same w64 c.args.set c.args.index c.requires)

pub returns-then-is_in-clause-other : goal.returns-then-is_in-clause-other
returns-then-is_in-clause-other c i apart = bit_at_set_other w64 c.args.set c.args.index c.requires i apart
