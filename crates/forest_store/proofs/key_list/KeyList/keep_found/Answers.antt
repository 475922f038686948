-- The closure computes the test.
use Rattle.forest_store.proofs.Common.{ap, ◌∙◌, filter, rules, filter_same, is_found, Listed}
use Rattle.forest_store.proofs.key_list.KeyList.keep_found.Goals as goal

pub returns : goal.returns
returns c = filter_same _ _ _ (λ x b f' h. search rules) _ _ c.retain.ensures.filtered
    ∙ ap (filter (is_found c.args.table.now)) (c.move_down.ensures.items ∙ ap (λ (l : Listed). l.items) c.self.view_is)
