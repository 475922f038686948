use Rattle.service_lock.proofs.Common.{Option, SameHandles, Strength, no_amounts, subst, sym, with_gain}
use Rattle.service_lock.proofs.UnitLaws.{has_gained}
use Rattle.service_lock.proofs.account.Account.make_gaining.Goals as goal

-- the client had no handle, and has the one that the event brought
pub give_gain-requires-clause-has : goal.give_gain-requires-clause-has
give_gain-requires-clause-has g c =
    subst (λ (gain : Option Strength). SameHandles c.apply_and_count.new.self.units (with_gain gain no_amounts)) (sym c.gained.ensures)
    (has_gained c.args.call c.in-Ok.reply c.args.self.now.units c.apply_and_count.new.self.units
    c.requires.call c.requires.none c.in-Ok.ensures.counts)
