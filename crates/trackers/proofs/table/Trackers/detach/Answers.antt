use Rattle.trackers.proofs.DetachLemmas.{shown_again, sound_detached}
use Rattle.trackers.proofs.table.Trackers.detach.Goals as goal

-- the rows that are left are right
pub invariant_of-self : goal.invariant_of-self
invariant_of-self c =
    let last = rw (← c.self.view_is) at c.requires.last in
    rw (c.pop.ensures.fired, c.pop.ensures.room) (sound_detached _ _ _ _ _ _ _ _ c.self.invariant c.pop.ensures.last.0
    c.pop.ensures.last.1
    c.pop.ensures.last.2
    last.0
    last.1
    last.2
    (rw last.3 c.remove_last.ensures))

-- the table is as it was
pub returns : goal.returns
returns c = λ before tracker attaches.
    rw c.pop.ensures.fired (shown_again _ _ _ _ _ _ c.self.inside.index c.self.inside.index c.self.invariant c.pop.ensures.last.0
    c.pop.ensures.last.1
    c.pop.ensures.last.2
    before
    tracker
    (rw (← c.self.view_is) at attaches))
