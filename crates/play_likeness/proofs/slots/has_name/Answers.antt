use Rattle.play_likeness.proofs.Common.{In-get_or, NodeKey, arith, get_or, length, refl, sym, ◌<◌}
use Rattle.play_likeness.proofs.slots.has_name.Goals as goal

-- this one has the name
pub returns-then-is_new_key : goal.returns-then-is_new_key
returns-then-is_new_key c = λ _.
    let nothing : NodeKey = record { slot = 0; generation = 0 } in
    let within : c.loop-key.key-index < length c.args.keys.now = omega arith in (
      get_or c.args.keys.now c.loop-key.key-index nothing,
      In-get_or c.args.keys.now c.loop-key.key-index nothing within,
      sym (c.if-is_new_key.ensures.same refl),
    )
