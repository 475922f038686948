use Rattle.sm_script.proofs.Running.{Come}
use Rattle.sm_script.proofs.run.read_on.Given as goal

abbrev pub invariant-turns : goal.invariant-turns
invariant-turns g l =
    Come (g.R.Read.remaining l.initial.reader) (g.W.Write.contents l.initial.writer) l.initial.player
    (g.R.Read.remaining l.reader) (g.W.Write.contents l.writer) l.player l.intake l.left

abbrev pub decreases-turns : goal.decreases-turns
decreases-turns g l = l.left
