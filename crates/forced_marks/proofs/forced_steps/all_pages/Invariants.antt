use Rattle.forced_marks.proofs.Common.{HeldBuffer, map, take, ◌≡◌}
use Rattle.forced_marks.proofs.forced_steps.all_pages.Given as goal

-- so far the pages of these buffers
abbrev pub invariant-loop-buffer : goal.invariant-loop-buffer
invariant-loop-buffer l = l.all.items ≡ map (λ (h : HeldBuffer). h.pages) (take l.buffer-index l.held)
