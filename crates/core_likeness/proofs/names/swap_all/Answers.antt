use Rattle.core_likeness.proofs.Common.{ap, arith, drop, length, same_number, sym, under, ◌+◌, ◌<◌, ◌∙◌, ◌≤◌}
use Rattle.core_likeness.proofs.Swapping.{under-done, under-more}
use Rattle.core_likeness.proofs.names.swap_all.Goals as goal

-- by one swap more
pub loop-swap-preserved : goal.loop-swap-preserved
loop-swap-preserved c =
    let within : c.loop-swap.swap-index < length c.args.swaps.now = omega arith in
    ap (under same_number (drop (c.loop-swap.swap-index + 1) c.args.swaps.now)) c.swap_number-name.ensures
    ∙ (sym (under-more same_number c.args.swaps.now c.loop-swap.swap-index _ c.loop-swap.name within) ∙ c.loop-swap.invariant)

-- none is left
pub returns : goal.returns
returns c =
    let all : length c.args.swaps.now ≤ c.loop-swap.swap-index = omega arith in
    sym (under-done same_number c.args.swaps.now c.loop-swap.swap-index c.loop-swap.name all) ∙ c.loop-swap.invariant
