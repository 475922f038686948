use Rattle.forest_steps.proofs.Common.{◌≡◌, length, list_all, total, is_out}
use Rattle.forest_steps.proofs.home_buffers.no_buffer_home.Given as goal

-- none of the rest is home exactly if none of all is
abbrev pub invariant-on : goal.invariant-on
invariant-on l = list_all (is_out (total l.holds) l.strong_live) l.rest ≡ list_all (is_out (total l.holds) l.strong_live) l.held

-- each buffer is looked at once
abbrev pub decreases-on : goal.decreases-on
decreases-on l = length l.rest
