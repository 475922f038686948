use Rattle.play_search.proofs.Common.{Found, In, subst, sym}
use Rattle.sm_names.proofs.ListLaws.{In-get_or}
use Rattle.play_search.proofs.endings.ends_as_shown.Goals as goal

-- it is the one at this place
pub returns-in-Some : goal.returns-in-Some
returns-in-Some c = λ yes. (
  c.in-Some.found.now,
  subst (λ (found : Found). In found c.args.shown.outcomes.now) (sym c.in-Some.ensures.lookup.1)
      (In-get_or c.args.shown.outcomes.now c.in-Some-Some.place c.in-Some.found.now c.in-Some.ensures.lookup.3.0),
  c.ends_as.ensures yes,
)
