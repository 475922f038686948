use Rattle.outcome_texts.proofs.Common.{Entry, ap, label_told, position, ◌∙◌}
use Rattle.outcome_texts.specs.Leaves.{brings_into}
use Rattle.outcome_texts.proofs.leaves.root_label.Goals as goal

-- by the call that made it
pub returns : goal.returns
returns c = c.label_at.ensures
    ∙ ap (label_told c.args.telling.now c.args.found.now)
    (c.opening_of.ensures ∙ ap (position (λ (e : Entry). brings_into c.args.collection e.2)) c.deref.ensures.value)
