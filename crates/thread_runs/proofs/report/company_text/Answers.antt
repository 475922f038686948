use Rattle.thread_runs.proofs.Common.{Entry, List, ap, first_unfit, inr, length, sym, ◌∙◌}
use Rattle.thread_runs.proofs.CompanyLaws.{joins_first_told}
use Rattle.thread_runs.proofs.report.company_text.Goals as goal

-- an event that is not there in a record of so many actors
pub returns-in-Some-clause-untold : goal.returns-in-Some-clause-untold
returns-in-Some-clause-untold g c =
    inr (ap (λ (es : List Entry). first_unfit (length c.args.parts.now) 0 es) (sym c.entries.ensures.value)
    ∙ (sym c.first_unfit.ensures ∙ c.in-Some.is))

-- where there is none, all join first
pub returns-in-None-clause-ok : goal.returns-in-None-clause-ok
returns-in-None-clause-ok g c = record {
  tells = c.in-Ok.ensures.ok;
  first = joins_first_told (length c.args.parts.now) c.args.state.now.history
      (ap (λ (es : List Entry). first_unfit (length c.args.parts.now) 0 es) (sym c.entries.ensures.value)
      ∙ (sym c.first_unfit.ensures ∙ c.in-None.is));
}
