use Rattle.trackers.proofs.ForgetLemmas.{sound_forgotten, table_forgotten}
use Rattle.trackers.proofs.table.Trackers.forget_fired.Goals as goal

-- the rows that wait are sound
pub invariant_of-self : goal.invariant_of-self
invariant_of-self c =
    rw c.forget.ensures.room (sound_forgotten _ _ _ c.self.inside.rows.rows c.forget.new.self.rows c.self.inside.rows.fired
    c.forget.new.self.fired _ c.self.invariant c.forget.ensures.rows c.forget.ensures.fired)

-- and show what waits
pub returns-clause-ok : goal.returns-clause-ok
returns-clause-ok c =
    rw (← c.self.view_is) (table_forgotten c.self.inside.limit c.self.inside.rows.rows c.forget.new.self.rows c.self.inside.rows.fired
    c.forget.new.self.fired c.self.invariant.held.rising c.forget.ensures.rows c.forget.ensures.fired)
