use Rattle.script_lines.proofs.Telling.{tells}
use Rattle.thread_runs.proofs.program.end_by_text.Goals as goal

pub returns-clause-told : goal.returns-clause-told
returns-clause-told g c = tells _ _ _ c.write_line.result c.write_line.ensures.ok c.write_line.ensures.part
