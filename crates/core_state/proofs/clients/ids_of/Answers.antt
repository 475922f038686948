use Rattle.core_state.proofs.Common.{Client, [], ap, map, sym, ◌++◌, ◌∙◌, ◌∷◌}
use Rattle.std.proofs.lemmas.List.{map_more, take_all}
use Rattle.std.proofs.lemmas.Result.{IfOk-from_err}
use Rattle.core_state.proofs.clients.ids_of.Goals as goal

-- the number of one client more
pub loop-client-preserved : goal.loop-client-preserved
loop-client-preserved c =
    let id = ap (λ (k : Client). k.id) (c.client.view_is ∙ c.client-item.is) in
    c.in_ok-push.ensures.items ∙ (λ i. c.loop-client.invariant i ++ id i ∷ [])
    ∙ sym (map_more (λ (k : Client). k.id) c.args.clients.now c.loop-client.client-index c.client-item.result c.loop-client-test.true)

-- the numbers of all
pub returns : goal.returns
returns c = c.loop-client.invariant ∙ ap (map (λ (k : Client). k.id)) (take_all _ c.args.clients.now c.loop-client-test.false)

pub returns-in_err-push : goal.returns-in_err-push
returns-in_err-push c = IfOk-from_err c.from_residual-in_err-push.result _ c.from_residual-in_err-push.ensures.0
