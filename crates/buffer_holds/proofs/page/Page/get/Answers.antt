use Rattle.buffer_holds.proofs.Common.{Cells, IsMasked, ap, count_in, masked, subst, sym, ◌∙◌}
use Rattle.buffer_holds.proofs.Masks.{count_masked}
use Rattle.buffer_holds.proofs.page.Page.get.Goals as goal

-- the count is that of the cell
pub returns : goal.returns
returns c =
    let cells = c.deref.result.now in
    let masks = subst (λ (v : Cells). IsMasked v.full v.counts) (sym c.deref.ensures) c.self.invariant in
    count_masked cells.full cells.counts masks c.args.at c.requires
    ∙ ap (λ (v : Cells). count_in (masked v.full v.counts) c.args.at) c.deref.ensures ∙ ap (λ page. count_in page c.args.at) c.self.view_is
