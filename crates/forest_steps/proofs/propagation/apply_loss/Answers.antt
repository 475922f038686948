-- What the fault takes is removed, and what nothing holds then ends: nothing more is due.
use Rattle.forest_steps.proofs.mid_event.Playing.{played_lost}
use Rattle.forest_steps.proofs.propagation.apply_loss.Goals as goal

pub returns-clause-out : goal.returns-clause-out
returns-clause-out c ss u left = played_lost (c.fall_by.ensures.after_fall _ ss _ u left)
