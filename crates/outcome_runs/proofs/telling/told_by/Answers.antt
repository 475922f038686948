use Rattle.std.proofs.Common.{◌∙◌, List, ap, subst}
use Rattle.std.proofs.lemmas.Result.{IfErr-weaker, IfOk-weaker}
use Rattle.std.specs.Prelude.{IfErr, IfOk}
use Rattle.explore_model.specs.declared.found.Vanishing.{Vanishing}
use Rattle.outcome_texts.specs.ClaimLines.{Text, claim_texts_of, texts_in, who_told}
use Rattle.outcome_texts.specs.Lines.{steps_in}
use Rattle.outcome_runs.specs.Searches.{IsFoundBy, IsUnfound, list_asked}
use Rattle.outcome_runs.proofs.Reading.{unfound_held}
use Rattle.outcome_runs.proofs.telling.told_by.Goals as goal

-- the labels are those of the list, the steps and plans these, and those may vanish that are asked for or that the lines let vanish
pub returns-clause-ok : goal.returns-clause-ok
returns-clause-ok g c = IfOk-weaker c.told_from.result _ _
    (λ told is. record {
      telling = c.telling_of-telling.result;
      is_telling = record {
        labels = c.telling_of-telling.ensures.labels ∙ c.deref-6.ensures.value;
        steps = ap steps_in (c.telling_of-telling.ensures.steps ∙ c.deref-7.ensures.value) ∙ c.in-Ok.ensures;
        its_plans = c.telling_of-telling.ensures.plans;
      };
      vanishing = record {
        who = ap (λ (v : Vanishing). v.who.now) c.telling_of-telling.ensures.vanishing
            ∙ c.vanishing_of-vanishing.ensures.who ∙ c.deref-5.ensures.value ∙ c.in-Ok-who_of.ensures
            ∙ ap (λ (texts : List Text). who_told (list_asked c.args.job) texts c.deref-4.result.now)
            (ap texts_in c.deref-3.ensures.value ∙ c.in-Ok-claim_texts.ensures)
            ∙ ap (who_told (list_asked c.args.job) (claim_texts_of c.args.script.now)) c.deref-4.ensures.value;
        most = ap (λ (v : Vanishing). v.most) c.telling_of-telling.ensures.vanishing ∙ c.vanishing_of-vanishing.ensures.most;
        at_end = ap (λ (v : Vanishing). v.at_end) c.telling_of-telling.ensures.vanishing ∙ c.vanishing_of-vanishing.ensures.end;
      };
      told = is;
    })
    (subst (λ (texts : List Text). IfOk c.told_from.result
    (λ told. IsFoundBy c.args.job c.args.seed texts c.telling_of-telling.result told.text.items told.ending))
    (ap texts_in c.deref-8.ensures.value ∙ c.in-Ok-claim_texts.ensures) c.told_from.ensures.ok)

pub returns-clause-err : goal.returns-clause-err
returns-clause-err g c = IfErr-weaker c.told_from.result _ _
    (λ fault why. unfound_held c.args.script.now c.args.list.now c.args.plans.now c.telling_of-telling.result fault
    (record {
      labels = c.telling_of-telling.ensures.labels ∙ c.deref-6.ensures.value;
      steps = ap steps_in (c.telling_of-telling.ensures.steps ∙ c.deref-7.ensures.value) ∙ c.in-Ok.ensures;
      its_plans = c.telling_of-telling.ensures.plans;
    }) why)
    (subst (λ (texts : List Text). IfErr c.told_from.result (IsUnfound texts c.telling_of-telling.result))
    (ap texts_in c.deref-8.ensures.value ∙ c.in-Ok-claim_texts.ensures) c.told_from.ensures.err)
