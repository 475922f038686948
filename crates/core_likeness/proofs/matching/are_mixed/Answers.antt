use Rattle.core_likeness.proofs.Common.{List, Mixed, Nothing, [], arith, common_steps, drop, drop_all, get_or, length, nil_from_length}
use Rattle.core_likeness.proofs.Common.{subst, sym, ℕ, ◌+◌, ◌<◌, ◌≡◌, ◌≤◌}
use Rattle.core_likeness.proofs.MixedLaws.{mixed-step}
use Rattle.core_likeness.proofs.matching.are_mixed.Goals as goal

-- one more is taken
pub loop-number-preserved : goal.loop-number-preserved
loop-number-preserved c = λ rest.
    let within : c.loop-number.number-index < length c.args.one.now = omega arith in
    let there : c.in-Some.at < length c.loop-number.other.items =
    subst (λ (l : List ℕ). c.in-Some.at < length l) c.deref.ensures.value c.in-Some.ensures.0 in
    let same : get_or c.loop-number.other.items c.in-Some.at 0 ≡ get_or c.args.one.now c.loop-number.number-index 0 =
    subst (λ (l : List ℕ). get_or l c.in-Some.at 0 ≡ get_or c.args.one.now c.loop-number.number-index 0) c.deref.ensures.value
    c.in-Some.ensures.1 in
    c.loop-number.invariant (mixed-step c.args.one.now c.loop-number.other.items c.loop-number.number-index c.in-Some.at 0 within
    there same
    (subst (Mixed (drop (c.loop-number.number-index + 1) c.args.one.now)) c.remove.ensures.items rest))

-- where none is left of either, nothing is left to show
pub returns : goal.returns
returns c = λ h.
    let all : length c.args.one.now ≤ c.loop-number.number-index = omega arith in
    let few : length c.loop-number.other.items ≡ 0 = grind (arith, common_steps) in
    c.loop-number.invariant (subst (Mixed (drop c.loop-number.number-index c.args.one.now))
    (sym (nil_from_length c.loop-number.other.items few))
    (subst (λ (l : List ℕ). Mixed l []) (sym (drop_all c.loop-number.number-index c.args.one.now all)) Nothing))
