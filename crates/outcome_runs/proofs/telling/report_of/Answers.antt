use Rattle.std.proofs.Common.{◌∙◌, Bool, ap}
use Rattle.outcome_texts.specs.Verdicts.{has_broken}
use Rattle.outcome_runs.specs.Searches.{judged_ending}
use Rattle.outcome_runs.proofs.telling.report_of.Goals as goal

-- the claims come behind the report
pub returns : goal.returns
returns c = record {
  report = c.push_report.new.text.items;
  is_report = rw c.new-text.ensures.items at c.in_ok-push_report.ensures;
  whole = c.in_ok-push_claims.ensures;
  ending_is = c.judged_end.ensures
      ∙ (ap (λ (b : Bool). judged_ending b c.args.found.now.complete c.doubt_of.result) c.has_broken-broken.ensures
      ∙ ap (judged_ending (has_broken c.args.telling.now c.args.found.now c.args.claims.now) c.args.found.now.complete)
      c.doubt_of.ensures);
}
