use Rattle.buffer_holds.proofs.Common.{Cells, IsMasked, None, SetsCell, ap, count_in, masked, subst, sym, ◌∙◌}
use Rattle.buffer_holds.proofs.Masks.{cleared_masks, cleared_sets, count_masked, without_bit}
use Rattle.buffer_holds.proofs.page.Page.clear.Goals as goal

-- the count is 0, and its bit goes
pub invariant_of-self : goal.invariant_of-self
invariant_of-self c =
    let cells = c.deref_mut.result.now in
    let masks = subst (λ (v : Cells). IsMasked v.full v.counts) (sym c.deref_mut.ensures.value) c.self.invariant in
    cleared_masks cells.full cells.counts masks c.args.at c.requires.there
    (count_masked cells.full cells.counts masks c.args.at c.requires.there
    ∙ ap (λ (v : Cells). count_in (masked v.full v.counts) c.args.at) c.deref_mut.ensures.value
    ∙ ap (λ page. count_in page c.args.at) c.self.view_is ∙ c.requires.none)

pub returns : goal.returns
returns c =
    let cells = c.deref_mut.result.now in
    let masks = subst (λ (v : Cells). IsMasked v.full v.counts) (sym c.deref_mut.ensures.value) c.self.invariant in
    subst (λ page. SetsCell page (masked (without_bit cells.full c.args.at) cells.counts) c.args.at None)
    (ap (λ (v : Cells). masked v.full v.counts) c.deref_mut.ensures.value ∙ c.self.view_is)
    (cleared_sets cells.full cells.counts masks c.args.at c.requires.there)
