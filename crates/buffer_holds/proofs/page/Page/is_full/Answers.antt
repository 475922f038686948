use Rattle.buffer_holds.proofs.Common.{Cells, IsMasked, ap, arith, bit_at, bit_at-lt, cell_at, get_or, is_some, masked, refl, subst, suc}
use Rattle.buffer_holds.proofs.Common.{sym, zero, ℕ, ◌<◌, ◌==◌, ◌∙◌, ◌≡◌}
use Rattle.buffer_holds.proofs.Masks.{cell_of, cell_within}
use Rattle.buffer_holds.proofs.page.Page.is_full.Goals as goal

-- by the bit
by_bit : (b count : ℕ) → b < 2 → (b == 1) ≡ is_some (cell_of b count)
by_bit zero count less = refl
by_bit (suc zero) count less = refl
by_bit (suc (suc b)) count less = absurd (omega (arith, less))

pub returns : goal.returns
returns c =
    let cells = c.deref.result.now in
    let masks = subst (λ (v : Cells). IsMasked v.full v.counts) (sym c.deref.ensures) c.self.invariant in
    by_bit (bit_at cells.full c.args.at) (get_or cells.counts c.args.at 0) (bit_at-lt cells.full c.args.at)
    ∙ ap is_some (sym (cell_within cells.full cells.counts c.args.at (omega (arith, c.requires, masks.0))))
    ∙ ap (λ (v : Cells). is_some (cell_at (masked v.full v.counts) c.args.at)) c.deref.ensures
    ∙ ap (λ page. is_some (cell_at page c.args.at)) c.self.view_is
