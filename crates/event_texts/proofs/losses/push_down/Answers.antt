use Rattle.event_texts.proofs.Common.{List, ap, flat_map, handing_text, on_ok_weaker, ◌++◌, ◌∙◌}
use Rattle.forest_store.specs.declared.node.Node.{Node}
use Rattle.event_texts.specs.LossTexts.{handed_text}
use Rattle.event_texts.proofs.losses.push_down.Goals as goal

-- each hands on to those in its row
pub returns : goal.returns
returns c = on_ok_weaker c.push_handings.result
    (λ put names keeps. (rw c.deref.ensures.value at (put names keeps))
    ∙ ((λ i. c.args.text.now.items ++ flat_map (λ (above : Node). handing_text names above.key (c.in_ok-rows.ensures above.key i))
    c.in_ok-taken.taken.items)
    ∙ ap (λ (nodes : List Node). c.args.text.now.items ++ flat_map (handed_text names c.args.way.now nodes) nodes) c.in_ok-taken.ensures))
    c.push_handings.ensures
