use Rattle.buffer_holds.proofs.Common.{IsBlank, IsSome, [], ap, arith, refl, subst, sym, unwrap_or, ◌-◌, ◌∙◌}
use Rattle.buffer_holds.proofs.spares.take_spare.Goals as goal

-- all are blank
pub returns-clause-blank : goal.returns-clause-blank
returns-clause-blank c =
    let spares = c.args.spares.now.pages in
    let some : IsSome c.pop.result = subst IsSome (sym c.unwrap.ensures) refl in
    let filled = c.pop.ensures.variant.0 some in
    let popped = c.pop.ensures.value [] filled in
    subst IsBlank (ap (λ o. unwrap_or o []) (sym popped ∙ c.unwrap.ensures))
    (c.requires.blank (spares.len - 1) [] (omega (arith, filled, spares.ok)))
