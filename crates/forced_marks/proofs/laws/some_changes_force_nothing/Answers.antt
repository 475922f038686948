use Rattle.forced_marks.proofs.Common.{Option, StagesIn, Work, [], subst, sym, total}
use Rattle.forced_marks.proofs.Unforced.{unforced}
use Rattle.forced_marks.proofs.laws.some_changes_force_nothing.Goals as goal

pub returns : goal.returns
returns c old new gone history client call reply shows follows w is may still =
    subst (λ (o : Option Work). StagesIn old (total new.holds) reply o []) (sym is)
    (unforced old new gone history client call reply shows follows w is may still)
