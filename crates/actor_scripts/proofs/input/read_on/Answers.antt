use Rattle.std.proofs.KnownBytes.{Consumes-trans}
use Rattle.actor_scripts.proofs.input.read_on.Goals as goal

pub returns-in-Ok-clause-err : goal.returns-in-Ok-clause-err
returns-in-Ok-clause-err g c = record {
  came = _;
  taken = Consumes-trans _ _ _ _ _ c.turns.invariant.taken c.in-Ok.ensures.bytes.0;
}

pub returns-in-Err-extend_from_slice-clause-err : goal.returns-in-Err-extend_from_slice-clause-err
returns-in-Err-extend_from_slice-clause-err g c = record {
  came = _;
  taken = Consumes-trans _ _ _ _ _ c.turns.invariant.taken c.in-Ok-2.ensures.bytes.0;
}
