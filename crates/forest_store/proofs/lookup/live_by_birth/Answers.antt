-- The nodes of one entry more come last.
use Rattle.forest_store.proofs.Common.{List, arith, map, ap, ◌∙◌, filter, Entry, all_keys, nodes_with, rows_of}
use Rattle.forest_store.proofs.Common.{Node, is_live_node, rules, common_steps, flat_map-append, map-append}
use Rattle.forest_store.proofs.Common.{take_all, filter_map-append, filter-append, answers_always, sorted_by}
use Rattle.forest_store.proofs.lists.StableSort.{stable_sorted}
use Rattle.std.proofs.lemmas.Result.{IfOk-from_err}
use Rattle.forest_store.proofs.lookup.live_by_birth.Goals as goal

pub loop-entry-preserved : goal.loop-entry-preserved
loop-entry-preserved c = grind (arith, common_steps, map-append, flat_map-append, filter_map-append, filter-append)

-- the sort keeps those born at one event in their order
pub returns : goal.returns
returns c =
    let all = c.loop-entry.invariant
    ∙ ap (λ (es : List Entry). filter is_live_node (nodes_with c.args.table.now (all_keys (rows_of es))))
    (take_all c.loop-entry.entry-index c.args.entries.now c.loop-entry-test.false) in
    let sorted = stable_sorted (λ (n : Node). n.event) _ _ (c.in_ok-sort_by_key.ensures.sorted (λ n.
    n.event) (answers_always _ _ _ (λ f a r g h. search rules)))
    (c.sort_by_key.ensures.stable (λ n. n.event) (answers_always _ _ _ (λ f a r g h. search rules))) in
    let whole = take_all c.loop-node.node-index c.deref-node-items.result.now c.loop-node-test.false ∙ c.deref-node-items.ensures.value in
    c.loop-node.invariant
    ∙ ap (map (λ (n : Node). n.key)) (whole ∙ (sorted ∙ ap (sorted_by (λ (n : Node). n.event)) all))

pub loop-entry-init : goal.loop-entry-init
loop-entry-init c = c.new-nodes.ensures.items

pub returns-in_err-add_live : goal.returns-in_err-add_live
returns-in_err-add_live c = IfOk-from_err _ _ c.from_residual.ensures.0

pub returns-in_err-sort_by_key : goal.returns-in_err-sort_by_key
returns-in_err-sort_by_key c = IfOk-from_err _ _ c.from_residual-in_err-sort_by_key.ensures.0

pub returns-in_err-keys : goal.returns-in_err-keys
returns-in_err-keys c = IfOk-from_err _ _ c.from_residual-in_err-keys.ensures.0

pub loop-node-init : goal.loop-node-init
loop-node-init c = c.in_ok-keys.ensures.items

pub returns-in_err-push : goal.returns-in_err-push
returns-in_err-push c = IfOk-from_err _ _ c.from_residual-in_err-push.ensures.0

pub loop-node-preserved : goal.loop-node-preserved
loop-node-preserved c = grind (arith, common_steps)
