use Rattle.buffer_holds.proofs.Common.{Cells, IsBlank, IsMasked, ap, eqb-true, masked, subst, sym, ◌<◌, ◌==◌, ◌^◌, ◌∙◌}
use Rattle.std.proofs.Common.{rules}
use Rattle.buffer_holds.proofs.Masks.{blank_masked, no_bits}
use Rattle.buffer_holds.proofs.page.Page.is_blank.Goals as goal

-- no count has a bit
pub returns : goal.returns
returns c =
    let cells = c.deref.result.now in
    let view = ap (λ (v : Cells). masked v.full v.counts) c.deref.ensures ∙ c.self.view_is in
    let masks = subst (λ (v : Cells). IsMasked v.full v.counts) (sym c.deref.ensures) c.self.invariant in
    let fits : cells.full < 2 ^ 128 = search rules in (
      λ is. subst IsBlank view (blank_masked cells.full cells.counts (eqb-true _ _ is)),
      λ blank. ap (λ n. n == 0) (no_bits cells.full cells.counts masks.0 fits (subst IsBlank (sym view) blank)),
    )
