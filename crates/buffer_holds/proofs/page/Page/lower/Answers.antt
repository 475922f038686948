use Rattle.buffer_holds.proofs.Common.{Cells, IsMasked, SetsCell, Some, ap, arith, bit_at, count_in, get_or, masked, set, subst, sym, ◌-◌}
use Rattle.buffer_holds.proofs.Common.{◌∙◌, ◌≡◌}
use Rattle.buffer_holds.proofs.Masks.{bit_there, count_masked, lowered_masks, lowered_sets}
use Rattle.buffer_holds.proofs.page.Page.lower.Goals.{After-deref_mut}
use Rattle.buffer_holds.proofs.page.Page.lower.Goals as goal

-- the fields are a page's
masks : (c : After-deref_mut) → IsMasked c.deref_mut.result.now.full c.deref_mut.result.now.counts
masks c = subst (λ (v : Cells). IsMasked v.full v.counts) (sym c.deref_mut.ensures.value) c.self.invariant

-- the count is that of the cell
count : (c : After-deref_mut) → get_or c.deref_mut.result.now.counts c.args.at 0 ≡ count_in c.args.self.now c.args.at
count c =
    count_masked c.deref_mut.result.now.full c.deref_mut.result.now.counts (masks c) c.args.at c.requires.there
    ∙ ap (λ (v : Cells). count_in (masked v.full v.counts) c.args.at) c.deref_mut.ensures.value
    ∙ ap (λ page. count_in page c.args.at) c.self.view_is

-- one that is not 0 has its bit
bit : (c : After-deref_mut) → bit_at c.deref_mut.result.now.full c.args.at ≡ 1
bit c =
    bit_there c.deref_mut.result.now.full c.deref_mut.result.now.counts (masks c) c.args.at c.requires.there
    (omega (arith, count c, c.requires.some))

pub overflow_sub-deref_mut : goal.overflow_sub-deref_mut
overflow_sub-deref_mut c = omega (arith, count (goal.at.overflow_sub-deref_mut c).After-deref_mut, c.requires.some)

pub invariant_of-self : goal.invariant_of-self
invariant_of-self c =
    let at = (goal.at.invariant_of-self c).After-deref_mut in
    lowered_masks c.deref_mut.result.now.full c.deref_mut.result.now.counts (masks at) c.args.at c.requires.there _ (bit at)

pub returns : goal.returns
returns c =
    let at = (goal.at.returns c).After-deref_mut in
    let cells = c.deref_mut.result.now in
    let new = masked cells.full (set cells.counts c.args.at (get_or cells.counts c.args.at 0 - 1)) in
    subst (λ page. SetsCell page new c.args.at (Some (count_in c.args.self.now c.args.at - 1)))
    (ap (λ (v : Cells). masked v.full v.counts) c.deref_mut.ensures.value ∙ c.self.view_is)
    (subst (λ n. SetsCell (masked cells.full cells.counts) new c.args.at (Some (n - 1))) (count at)
    (lowered_sets cells.full cells.counts (masks at) c.args.at c.requires.there _ (bit at)))
