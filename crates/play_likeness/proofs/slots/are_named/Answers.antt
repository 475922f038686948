use Rattle.play_likeness.proofs.Common.{In, NodeKey, arith, length, new_key, refl, ◌<◌, ◌≡◌, ◌≤◌}
use Rattle.play_likeness.proofs.Listed.{each-all, each-more}
use Rattle.play_likeness.proofs.slots.are_named.Goals as goal

-- one more is a new name
pub loop-other-preserved : goal.loop-other-preserved
loop-other-preserved c =
    let within : c.loop-other.other-index < length c.args.others.now = omega arith in
    each-more (λ (new : NodeKey). (key : NodeKey) × In key c.args.keys.now × (new_key c.args.names.now key ≡ new))
    c.args.others.now c.loop-other.other-index (record { slot = 0; generation = 0 }) within c.loop-other.invariant
    (c.if-not-has_name.ensures refl)

-- all are
pub returns : goal.returns
returns c = λ _.
    let all : length c.args.others.now ≤ c.loop-other.other-index = omega arith in
    each-all (λ (new : NodeKey). (key : NodeKey) × In key c.args.keys.now × (new_key c.args.names.now key ≡ new))
    c.args.others.now c.loop-other.other-index all c.loop-other.invariant
