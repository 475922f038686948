use Rattle.buffer_holds.proofs.Common.{Cells, IsMasked, RaisesSet, ap, arith, count_in, get_or, if◌then◌else◌, is_in, masked, subst, sym}
use Rattle.buffer_holds.proofs.Common.{ℕ, ◌+◌, ◌∙◌, ◌≡◌}
use Rattle.buffer_holds.proofs.Masks.{count_masked, raised_masks, raised_sets}
use Rattle.buffer_holds.proofs.page.Page.raise.Goals.{After-deref_mut, After-raise_counts}
use Rattle.buffer_holds.proofs.page.Page.raise.Goals as goal

-- the fields are a page's
masks : (c : After-deref_mut) → IsMasked c.deref_mut.result.now.full c.deref_mut.result.now.counts
masks c = subst (λ (v : Cells). IsMasked v.full v.counts) (sym c.deref_mut.ensures.value) c.self.invariant

pub raise_counts-requires-clause-fits : goal.raise_counts-requires-clause-fits
raise_counts-requires-clause-fits c = λ at is.
    let cells = c.deref_mut.result.now in
    omega (
      arith,
      c.requires.fits at is,
      ap (λ (v : Cells). get_or v.counts at 0) c.deref_mut-2.ensures.value,
      count_masked cells.full cells.counts (masks (goal.at.raise_counts-requires-clause-fits c).After-deref_mut) at
          (c.requires.there at is),
      ap (λ (v : Cells). count_in (masked v.full v.counts) at) c.deref_mut.ensures.value,
      ap (λ page. count_in page at) c.self.view_is,
    )

-- the counts are raised
raises : (c : After-raise_counts) (at : ℕ) → get_or c.raise_counts.new.counts at 0 ≡ get_or c.deref_mut.result.now.counts at 0
    + (if is_in c.args.first c.args.set at then 1 else 0)
raises c at =
    c.raise_counts.ensures.raised at
    ∙ ap (λ (v : Cells). get_or v.counts at 0 + (if is_in c.args.first c.args.set at then 1 else 0)) c.deref_mut-2.ensures.value

-- and so are the bits
fields : (c : After-raise_counts) → After-deref_mut → IsMasked c.deref_mut-2.result.now.full c.raise_counts.new.counts
fields c at =
    subst (λ n. IsMasked n c.raise_counts.new.counts) (sym (ap (λ (v : Cells). v.full) c.deref_mut-2.ensures.value))
    (raised_masks c.deref_mut.result.now.full c.deref_mut.result.now.counts
    (subst (λ (v : Cells). IsMasked v.full v.counts) (sym c.deref_mut.ensures.value) c.self.invariant) c.args.first c.args.set
    c.requires.there c.raise_counts.new.counts c.raise_counts.ensures.size (raises c))

pub invariant_of-self : goal.invariant_of-self
invariant_of-self c = fields (goal.at.invariant_of-self c).After-raise_counts (goal.at.invariant_of-self c).After-deref_mut

pub returns-clause-raised : goal.returns-clause-raised
returns-clause-raised c =
    let cells = c.deref_mut.result.now in
    let at = goal.at.returns-clause-raised c in
    subst (λ page. RaisesSet page (masked c.deref_mut-2.result.now.full c.raise_counts.new.counts) c.args.first c.args.set)
    (ap (λ (v : Cells). masked v.full v.counts) c.deref_mut.ensures.value ∙ c.self.view_is)
    (subst (λ n. RaisesSet (masked cells.full cells.counts) (masked n c.raise_counts.new.counts) c.args.first c.args.set)
    (sym (ap (λ (v : Cells). v.full) c.deref_mut-2.ensures.value))
    (raised_sets cells.full cells.counts (masks at.After-deref_mut) c.args.first c.args.set c.requires.there c.raise_counts.new.counts
    c.raise_counts.ensures.size (raises at.After-raise_counts)))

-- each count is that of its cell
pub returns-clause-most : goal.returns-clause-most
returns-clause-most c = λ i is.
    let at = goal.at.returns-clause-most c in
    omega (
      arith,
      c.raise_counts.ensures.most i is,
      count_masked c.deref_mut-2.result.now.full c.raise_counts.new.counts (fields at.After-raise_counts at.After-deref_mut) i
          (c.requires.there i is),
    )

pub returns-clause-least : goal.returns-clause-least
returns-clause-least c = λ most all.
    let at = goal.at.returns-clause-least c in
    c.raise_counts.ensures.least most (λ i is. omega (
      arith,
      all i is,
      count_masked c.deref_mut-2.result.now.full c.raise_counts.new.counts (fields at.After-raise_counts at.After-deref_mut) i
          (c.requires.there i is),
    ))
