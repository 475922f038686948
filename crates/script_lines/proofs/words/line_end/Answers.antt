use Rattle.script_lines.proofs.Ends.{first_is_position}
use Rattle.script_lines.proofs.words.line_end.Goals as goal

pub returns-clause-value : goal.returns-clause-value
returns-clause-value c = first_is_position 10 c.args.bytes.now c.memchr.result c.memchr.ensures
