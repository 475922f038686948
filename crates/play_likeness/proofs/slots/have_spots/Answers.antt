use Rattle.play_likeness.proofs.Common.{NodeKey, ap, arith, known, length, new_key, refl, sym, ◌<◌, ◌∙◌, ◌≡◌, ◌≤◌}
use Rattle.play_likeness.proofs.Listed.{each-all, each-more}
use Rattle.play_likeness.proofs.slots.have_spots.Goals as goal

-- one more has the same
pub loop-key-preserved : goal.loop-key-preserved
loop-key-preserved c =
    let within : c.loop-key.key-index < length c.args.keys.now = omega arith in
    each-more (λ (x : NodeKey). (known c.args.other.now).spots (new_key c.args.names.now x) ≡ (known c.args.one.now).spots x)
    c.args.keys.now c.loop-key.key-index (record { slot = 0; generation = 0 }) within c.loop-key.invariant
    (ap (known c.args.other.now).spots (sym c.key.ensures) ∙ (sym c.spot-in-loop-key.ensures ∙ (c.if-not-is_slot.ensures refl
    ∙ c.spot.ensures)))

-- all have
pub returns : goal.returns
returns c = λ _.
    let all : length c.args.keys.now ≤ c.loop-key.key-index = omega arith in
    each-all (λ (x : NodeKey). (known c.args.other.now).spots (new_key c.args.names.now x) ≡ (known c.args.one.now).spots x)
    c.args.keys.now c.loop-key.key-index all c.loop-key.invariant
