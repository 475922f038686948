use Rattle.trackers.proofs.Common.{filter_same, rules}
use Rattle.trackers.proofs.ForgetLemmas.{is_in_slot, places_kept, rows_kept}
use Rattle.trackers.proofs.rows.Rows.forget.Goals as goal

-- the closure computes the test, and the rows that are left are sound by themselves
pub invariant_of-self : goal.invariant_of-self
invariant_of-self c =
    rw (filter_same _ is_in_slot _ (λ x b f' h. search rules) _ _ c.retain.ensures.filtered, c.clear.ensures.items)
    (places_kept c.self.inside.slots.slots c.self.inside.fired.items c.self.inside.places.items c.self.invariant)

pub returns-clause-rows : goal.returns-clause-rows
returns-clause-rows c =
    rw (← c.self.view_is, filter_same _ is_in_slot _ (λ x b f' h. search rules) _ _ c.retain.ensures.filtered, c.clear.ensures.items)
    (rows_kept c.self.inside.slots.slots c.self.inside.fired.items c.self.inside.places.items)
