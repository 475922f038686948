use Rattle.play_search.proofs.Common.{Actor, List, ap, map, refl, stage_of, sym, vanished, ◌∙◌}
use Rattle.play_search.proofs.ends.ends_as.Goals as goal

-- the same left before their end
pub returns : goal.returns
returns c = λ yes. record {
  ends = c.ends_so.ensures yes;
  vanished_are = sym c.deref-2.ensures.value ∙ (c.if-not-are_same.ensures refl ∙ (c.deref.ensures.value ∙ (c.in_ok-vanished.ensures
      ∙ ap (λ (actors : List Actor). vanished c.args.ground.now.vanishing.at_end c.args.ground.now.plans.now (map stage_of actors))
      c.actors.ensures)));
}
