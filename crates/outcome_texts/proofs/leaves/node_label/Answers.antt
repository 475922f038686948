use Rattle.outcome_texts.proofs.Common.{Entry, ap, label_told, position, ◌∙◌}
use Rattle.outcome_texts.specs.Leaves.{brings_node}
use Rattle.outcome_texts.proofs.leaves.node_label.Goals as goal

-- by the call that made it
pub returns : goal.returns
returns c = c.label_at.ensures
    ∙ ap (label_told c.args.telling.now c.args.found.now)
    (c.birth_of.ensures ∙ ap (position (λ (e : Entry). brings_node c.args.key e.2)) c.deref.ensures.value)
