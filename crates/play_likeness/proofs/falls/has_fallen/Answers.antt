use Rattle.play_likeness.proofs.Common.{GoneNode, In-get_or, None, arith, get_or, length, refl, sym, ◌<◌}
use Rattle.play_likeness.proofs.falls.has_fallen.Goals as goal

-- this one has the name
pub returns-then-is_new_key : goal.returns-then-is_new_key
returns-then-is_new_key c = λ _.
    let nothing : GoneNode = record { key = record { slot = 0; generation = 0 }; fault = None } in
    let within : c.loop-gone.gone-index < length c.args.falls.now = omega arith in (
      get_or c.args.falls.now c.loop-gone.gone-index nothing,
      In-get_or c.args.falls.now c.loop-gone.gone-index nothing within,
      sym (c.if-is_new_key.ensures.same refl),
    )
