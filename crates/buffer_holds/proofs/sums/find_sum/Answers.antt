use Rattle.buffer_holds.proofs.Common.{Some, ap, lookup_key_passes, subst, sym, true, ◌∙◌, ◌≡◌}
use Rattle.buffer_holds.proofs.PageNames.{derived_part, same_part-one}
use Rattle.buffer_holds.proofs.sums.find_sum.Goals as goal

-- a look-up found it
pub returns-in-Some-clause-found : goal.returns-in-Some-clause-found
returns-in-Some-clause-found c =
    let key = c.in-Some.field-0-1.now in
    let value = c.in-Some.field-0-2.now in
    let passes = lookup_key_passes _ c.args.sums.now.entries key (sym c.in-Some.ensures.key) in
    let this : c.args.part ≡ key = same_part-one c.args.part key (subst (λ test. test c.args.part key ≡ true) derived_part passes) in
    (value, c.in-Some.ensures.entry ∙ ap (λ k. Some (k, value)) (sym this))
