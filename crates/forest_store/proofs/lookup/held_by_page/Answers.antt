-- The buffers of one entry more come last.
use Rattle.forest_store.proofs.Common.{List, arith, ap, ◌∙◌, Entry, HeldBuffer, rules, flat_map}
use Rattle.forest_store.proofs.Common.{common_steps, flat_map-append, take_all, answers_always, sorted_by}
use Rattle.forest_store.proofs.lists.StableSort.{stable_sorted}
use Rattle.forest_store.proofs.lookup.held_by_page.Goals as goal

pub loop-entry-preserved : goal.loop-entry-preserved
loop-entry-preserved c = grind (arith, common_steps, flat_map-append)

-- the sort keeps buffers that begin at one page in their order
pub returns : goal.returns
returns c =
    let all = c.loop-entry.invariant
    ∙ ap (λ (es : List Entry). flat_map (λ (e : Entry). e.held.items) es) (take_all c.loop-entry.entry-index c.args.entries.now
    c.loop-entry-test.false) in
    let sorted = stable_sorted (λ (h : HeldBuffer). h.pages.start) _ _ (c.in_ok-sort_by_key.ensures.sorted (λ h.
    h.pages.start) (answers_always _ _ _ (λ f a r g h. search rules)))
    (c.sort_by_key.ensures.stable (λ h. h.pages.start) (answers_always _ _ _ (λ f a r g h. search rules))) in
    sorted ∙ ap (sorted_by (λ (h : HeldBuffer). h.pages.start)) all
