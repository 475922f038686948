use Rattle.play_likeness.proofs.Common.{GoneNode, None, Option, ap, arith, fall_renamed, fault_fallen, length, new_key, option_map, refl}
use Rattle.play_likeness.proofs.Common.{sym, ◌<◌, ◌∙◌, ◌≡◌, ◌≤◌}
use Rattle.play_likeness.proofs.Listed.{each-all, each-more}
use Rattle.play_likeness.proofs.falls.have_fallen.Goals as goal

-- one more fell alike
pub loop-gone-preserved : goal.loop-gone-preserved
loop-gone-preserved c =
    let within : c.loop-gone.gone-index < length c.args.one.now = omega arith in
    let told = λ (o : Option GoneNode). option_map (λ (f : GoneNode). f.fault) o in
    each-more (λ (g : GoneNode). fault_fallen c.args.other.now (new_key c.args.names.now g.key)
    ≡ option_map (fall_renamed (new_key c.args.names.now)) (fault_fallen c.args.one.now g.key))
    c.args.one.now c.loop-gone.gone-index (record { key = record { slot = 0; generation = 0 }; fault = None }) within
    c.loop-gone.invariant
    (ap (fault_fallen c.args.other.now) (sym c.key-new.ensures) ∙ (ap told (sym c.fall_of-in-loop-gone.ensures)
    ∙ (c.if-not-is_new_fall.ensures refl
    ∙ ap (λ (o : Option GoneNode). option_map (fall_renamed (new_key c.args.names.now)) (told o)) c.fall_of.ensures)))

-- all did
pub returns : goal.returns
returns c = λ _.
    let all : length c.args.one.now ≤ c.loop-gone.gone-index = omega arith in
    each-all (λ (g : GoneNode). fault_fallen c.args.other.now (new_key c.args.names.now g.key)
    ≡ option_map (fall_renamed (new_key c.args.names.now)) (fault_fallen c.args.one.now g.key))
    c.args.one.now c.loop-gone.gone-index all c.loop-gone.invariant
