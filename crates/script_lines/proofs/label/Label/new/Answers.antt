use Rattle.std.proofs.Common.{◌∙◌, ap, rules, []}
use Rattle.script_lines.specs.Labels.{spelled}
use Rattle.script_lines.proofs.Digits.{spelled-word}
use Rattle.script_lines.proofs.label.Label.new.Goals as goal

pub returns-clause-text : goal.returns-clause-text
returns-clause-text c = ap (λ code. spelled 16 code []) c.packed.ensures ∙ spelled-word c.args.word.now (search rules)
