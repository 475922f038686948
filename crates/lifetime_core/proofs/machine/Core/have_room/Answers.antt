use Rattle.lifetime_core.proofs.Common.{State, arith, false, is_at_limit, readings_of, subst, ◌≡◌}
use Rattle.std.proofs.lemmas.Bool.{lt-leb}
use Rattle.lifetime_core.proofs.machine.Core.have_room.Goals as goal

-- the counts have the core's own limit
pub returns : goal.returns
returns c = λ known buffer strength.
    subst (λ (s : State). is_at_limit s.limits (readings_of s) strength buffer ≡ false) c.self.view_is
    (lt-leb _ _ (omega (arith, c.have_room.ensures known buffer strength, c.self.invariant.whole.handle_limit)))
