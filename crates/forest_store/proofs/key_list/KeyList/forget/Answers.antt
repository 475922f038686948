-- Each goal that is proved at once by the tactic that is named.
use Rattle.forest_store.proofs.Common.{not, ap, ◌∙◌, filter, NodeKey, same_key, rules, filter_same, Listed}
use Rattle.forest_store.proofs.key_list.KeyList.forget.Goals as goal

-- the closure computes the test
pub returns : goal.returns
returns c = filter_same _ _ _ (λ x b f' h. search rules) _ _ c.retain.ensures.filtered
    ∙ ap (filter (λ (other : NodeKey). not (same_key c.args.key other)))
    (c.move_down.ensures.items ∙ ap (λ (l : Listed). l.items) c.self.view_is)
