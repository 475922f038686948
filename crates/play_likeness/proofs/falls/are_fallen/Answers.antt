use Rattle.play_likeness.proofs.Common.{GoneNode, In, None, arith, length, new_key, refl, ◌<◌, ◌≡◌, ◌≤◌}
use Rattle.play_likeness.proofs.Listed.{each-all, each-more}
use Rattle.play_likeness.proofs.falls.are_fallen.Goals as goal

-- one more is
pub loop-gone-preserved : goal.loop-gone-preserved
loop-gone-preserved c =
    let within : c.loop-gone.gone-index < length c.args.other.now = omega arith in
    each-more (λ (h : GoneNode). (g : GoneNode) × In g c.args.one.now × (new_key c.args.names.now g.key
    ≡ h.key)) c.args.other.now c.loop-gone.gone-index (record { key = record { slot = 0; generation = 0 }; fault = None }) within
    c.loop-gone.invariant
    (c.if-not-has_fallen.ensures refl)

-- all are
pub returns : goal.returns
returns c = λ _.
    let all : length c.args.other.now ≤ c.loop-gone.gone-index = omega arith in
    each-all (λ (h : GoneNode). (g : GoneNode) × In g c.args.one.now × (new_key c.args.names.now g.key
    ≡ h.key)) c.args.other.now c.loop-gone.gone-index all c.loop-gone.invariant
