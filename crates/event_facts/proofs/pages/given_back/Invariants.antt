use Rattle.event_facts.proofs.Common.{filter, take, ◌≡◌}
use Rattle.event_facts.specs.Facts.{is_back}
use Rattle.event_facts.proofs.pages.given_back.Given as goal

-- so far those among these nodes
abbrev pub invariant-loop-buffer : goal.invariant-loop-buffer
invariant-loop-buffer l = l.freed.items ≡ filter (is_back l.later) (take l.buffer-index l.held.items)
