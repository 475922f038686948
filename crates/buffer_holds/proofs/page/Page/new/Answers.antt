use Rattle.buffer_holds.proofs.Common.{Cells, IsBlank, IsMasked, masked, refl, replicate, subst, sym}
use Rattle.buffer_holds.proofs.Masks.{blank_masked, none_in}
use Rattle.buffer_holds.proofs.page.Page.new.Goals as goal

-- no count has a bit
pub invariant_of-result : goal.invariant_of-result
invariant_of-result c =
    subst (λ (v : Cells). IsMasked v.full v.counts) (sym c.in-Ok.ensures.ok) (refl, λ at none. none_in 128 at)

pub returns-in-Ok : goal.returns-in-Ok
returns-in-Ok c =
    subst (λ (v : Cells). IsBlank (masked v.full v.counts)) (sym c.in-Ok.ensures.ok) (blank_masked 0 (replicate 128 0) refl)
