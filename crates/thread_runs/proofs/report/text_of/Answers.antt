use Rattle.thread_runs.proofs.Common.{IsUntold, List, Some, ap, first_stray, ids_of, line_client, map, subst, sym, told_text, ℕ, ◌++◌}
use Rattle.thread_runs.proofs.Common.{◌∙◌, ◌≡◌}
use Rattle.event_laws.specs.declared.line.ClientLine.{ClientLine}
use Rattle.thread_runs.proofs.ReportLaws.{stray_told, tells, untold}
use Rattle.thread_runs.proofs.StrayLaws.{stray_none}
use Rattle.thread_runs.proofs.report.text_of.Goals as goal

-- what was compared is why
pub returns-in-Err-clause-untold : goal.returns-in-Err-clause-untold
returns-in-Err-clause-untold g c =
    subst (IsUntold c.args.state.now c.args.parts.now) (sym c.from.ensures)
    (untold c.args.state.now c.args.parts.now c.in-Err.fault c.in-Err.ensures.so)

-- a client that has no part at its place
pub returns-in-Some-clause-untold : goal.returns-in-Some-clause-untold
returns-in-Some-clause-untold g c =
    stray_told c.args.state.now c.args.parts.now c.in-Ok.report c.in-Some.client c.in-Ok.ensures.gathered
    (subst (λ (lines : List ClientLine). first_stray (map line_client lines) (ids_of c.args.parts.now) ≡ Some c.in-Some.client)
    c.as_slice.ensures.value (sym c.first_stray.ensures ∙ c.in-Some.is))

pub returns-in-Ok-push_output-clause-ok : goal.returns-in-Ok-push_output-clause-ok
returns-in-Ok-push_output-clause-ok g c =
    tells c.args.style.output _ _ c.args.state.now c.args.labels.now c.args.parts.now c.in-Ok.report c.push_output.new.text.items
    c.compare.ensures.asked c.in-Ok.ensures.gathered
    (stray_none _ _ (ap (λ (lines : List ClientLine). first_stray (map line_client lines) (ids_of c.args.parts.now))
    (sym c.as_slice.ensures.value) ∙ (sym c.first_stray.ensures ∙ c.in_default.is)))
    c.entries.ensures.came
    (c.in-Ok-push_output.ensures
    ∙ ap (λ (front : List ℕ). front ++ told_text c.args.style.output c.args.labels.now c.entries.result.now) c.new-text.ensures.items
    ∙ ap (told_text c.args.style.output c.args.labels.now) c.entries.ensures.value)
