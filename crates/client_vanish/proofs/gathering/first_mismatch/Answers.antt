use Rattle.client_vanish.proofs.Common.{DifferAt, IsFound, ap, own_of, part, subst, sym, ℕ, ◌∙◌}
use Rattle.client_vanish.proofs.GatherLaws.{FoundSoFar, found_first, found_other, found_same}
use Rattle.client_vanish.proofs.gathering.first_mismatch.Goals as goal

pub loop-part-preserved-in-Some-differ : goal.loop-part-preserved-in-Some-differ
loop-part-preserved-in-Some-differ g c =
    let history = c.args.view.now in
    let event = c.in-Some-differ.event in
    let own = subst (λ o. DifferAt event o (part c.id.result history)) c.own.ensures c.in-Some-differ.ensures in
    let differs = subst (λ i. DifferAt event (own_of c.in-Some.part.now) (part i history)) c.id.ensures own in
    let found = subst (λ i. IsFound c.loop-part.found i event c.earlier.result) c.id-in-Some-differ.ensures c.earlier.ensures in
    found_other history c.args.parts.now c.loop-part.rest.now c.in-Some.others.now c.in-Some.part.now event c.loop-part.found
    c.earlier.result c.loop-part.invariant c.in-Some.ensures.cases.0 differs found

pub loop-part-preserved : goal.loop-part-preserved
loop-part-preserved g c =
    let history = c.args.view.now in
    let same = sym c.own.ensures ∙ (c.in_default-differ.ensures ∙ ap (λ i. part i history) c.id.ensures) in
    found_same history c.args.parts.now c.loop-part.rest.now c.in-Some.others.now c.in-Some.part.now c.loop-part.found c.loop-part.invariant
    c.in-Some.ensures.cases.0 same

pub returns-in-Some-found : goal.returns-in-Some-found
returns-in-Some-found g c =
    let at : ℕ × ℕ = (c.in-Some-found.field-0-0, c.in-Some-found.event) in
    found_first c.args.view.now c.args.parts.now c.loop-part.rest.now at c.in_default.ensures.cases
    (subst (FoundSoFar c.args.view.now c.args.parts.now c.loop-part.rest.now) c.in-Some-found.is c.loop-part.invariant)
