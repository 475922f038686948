use Rattle.std.proofs.Common.{arith}
use Rattle.std.proofs.lemmas.Grind.{common_steps}
use Rattle.script_lines.proofs.Listing.{among_read}
use Rattle.script_lines.proofs.client_list.is_among.Goals as goal

pub returns-then-is_all : goal.returns-then-is_all
returns-then-is_all c = grind (arith, common_steps, among_read)

pub returns-else-is_all : goal.returns-else-is_all
returns-else-is_all c = grind (arith, common_steps, among_read)
