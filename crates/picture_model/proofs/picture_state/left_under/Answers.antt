use Rattle.picture_model.proofs.Common.{List, Node, ap, ◌∙◌}
use Rattle.forest_store.specs.Questions.{is_below}
use Rattle.picture_model.proofs.picture_state.left_under.Goals as goal

-- those under the top one leave
pub returns : goal.returns
returns c = c.in_ok-later.ensures (is_below c.args.nodes.now.items c.args.top)
    (λ key. c.in_ok-under.ensures key ∙ ap (λ (ns : List Node). is_below ns c.args.top key) c.deref.ensures.value)
