-- The actors of a script that is read from a slice.
use Rattle.std.proofs.Common.{◌≡◌, ℕ, List, ◌++◌, Option, Some, None, Ok, append-nil, sym, ap, subst, map, inl, inr, ◌∙◌}
use Rattle.actor_scripts.specs.declared.actor_list.ActorList.{ActorList}
use Rattle.actor_scripts.specs.ActorLists.{actors_of, script_actors}
use Rattle.actor_scripts.specs.Reads.{ReadsActors, ReadsWhole}
use Rattle.report_io.specs.declared.fault.ReportFault.{ReportFault}
use Rattle.actor_scripts.specs.declared.step.ActorScript.{ActorScript}
use Rattle.explore_model.specs.declared.plan.Plan.{Plan}
use Rattle.explore_model.specs.Plans.{planned, steps_of}
use Rattle.outcome_texts.specs.declared.telling.Telling.{Telling}
use Rattle.outcome_texts.specs.ClaimLines.{Text, claim_texts_of}
use Rattle.outcome_runs.specs.declared.job.SearchJob.{SearchJob}
use Rattle.outcome_runs.specs.Searches.{IsTelling, IsUnfound, IsUnheld, IsUnheldBy, IsUnjudged, IsUnlisted, IsUnsearched, IsUntold}

-- what came is all that there was
all_came : (script came : List ℕ) (after : Option (List ℕ)) → ReadsWhole (Some script) after came → came ≡ script
all_came script came None whole = absurd whole.taken
all_came script came (Some left) whole =
    sym (append-nil came) ∙ ap (λ (rest : List ℕ). came ++ rest) (sym whole.at_end) ∙ sym whole.taken

-- the actors are those of the slice
pub its_actors : (script : List ℕ) (after : Option (List ℕ)) (list : ActorList) → ReadsActors (Some script) after list →
    script_actors script ≡ Ok (actors_of list)
its_actors script after list so =
    subst (λ (came : List ℕ). script_actors came ≡ Ok (actors_of list)) (all_came script so.script after so.whole) so.is_list

-- why there are no actors is why nothing is told
pub unlisted_told : (job : SearchJob) (script : List ℕ) (fault : ReportFault) → IsUnlisted script fault → IsUntold job script fault
unlisted_told job script ReportFault.ReadFault why = tt
unlisted_told job script ReportFault.TooLong why = absurd why
unlisted_told job script (ReportFault.WriteFault fault) why = absurd why
unlisted_told job script (ReportFault.BadLine n reason) why = inl why
unlisted_told job script ReportFault.HistoryFull why = absurd why
unlisted_told job script ReportFault.NoMemory why = tt
unlisted_told job script (ReportFault.Missing sought n) why = absurd why

-- so is a bad claim
pub unheld_told : (job : SearchJob) (script : List ℕ) (list : ActorList) (fault : ReportFault) →
    script_actors script ≡ Ok (actors_of list) →
    IsUnheld job script list fault → IsUntold job script fault
unheld_told job script list ReportFault.ReadFault is why = absurd why
unheld_told job script list ReportFault.TooLong is why = absurd why
unheld_told job script list (ReportFault.WriteFault fault) is why = absurd why
unheld_told job script list (ReportFault.BadLine n reason) is why = inr (list, is, why)
unheld_told job script list ReportFault.HistoryFull is why = tt
unheld_told job script list ReportFault.NoMemory is why = tt
unheld_told job script list (ReportFault.Missing sought n) is why = absurd why

-- by the plans of the list
pub unheld_in : (job : SearchJob) (script : List ℕ) (list : ActorList) (plans : List Plan) (fault : ReportFault) →
    map steps_of plans ≡ map (λ (one : ActorScript). planned job.waiting one.steps.items) list.scripts.items →
    IsUnheldBy script list plans fault → IsUnheld job script list fault
unheld_in job script list plans ReportFault.ReadFault is why = absurd why
unheld_in job script list plans ReportFault.TooLong is why = absurd why
unheld_in job script list plans (ReportFault.WriteFault fault) is why = absurd why
unheld_in job script list plans (ReportFault.BadLine n reason) is why = record { plans = plans; planned_steps = is; claim = why }
unheld_in job script list plans ReportFault.HistoryFull is why = tt
unheld_in job script list plans ReportFault.NoMemory is why = tt
unheld_in job script list plans (ReportFault.Missing sought n) is why = absurd why

-- by what a report is made of
pub unfound_held : (script : List ℕ) (list : ActorList) (plans : List Plan) (telling : Telling) (fault : ReportFault) →
    IsTelling script list plans telling → IsUnfound (claim_texts_of script) telling fault → IsUnheldBy script list plans fault
unfound_held script list plans telling ReportFault.ReadFault is why = absurd why
unfound_held script list plans telling ReportFault.TooLong is why = absurd why
unfound_held script list plans telling (ReportFault.WriteFault fault) is why = absurd why
unfound_held script list plans telling (ReportFault.BadLine n reason) is why = record { telling = telling; is_telling = is; bad = why }
unfound_held script list plans telling ReportFault.HistoryFull is why = tt
unfound_held script list plans telling ReportFault.NoMemory is why = tt
unfound_held script list plans telling (ReportFault.Missing sought n) is why = absurd why

-- by the lines that are claims
pub unjudged_found : (texts : List Text) (telling : Telling) (fault : ReportFault) → IsUnjudged telling texts fault →
    IsUnfound texts telling fault
unjudged_found texts telling ReportFault.ReadFault why = absurd why
unjudged_found texts telling ReportFault.TooLong why = absurd why
unjudged_found texts telling (ReportFault.WriteFault fault) why = absurd why
unjudged_found texts telling (ReportFault.BadLine n reason) why = why
unjudged_found texts telling ReportFault.HistoryFull why = absurd why
unjudged_found texts telling ReportFault.NoMemory why = tt
unjudged_found texts telling (ReportFault.Missing sought n) why = absurd why

-- a search that was not made to its end
pub unsearched_found : (texts : List Text) (telling : Telling) (fault : ReportFault) → IsUnsearched fault → IsUnfound texts telling fault
unsearched_found texts telling ReportFault.ReadFault why = absurd why
unsearched_found texts telling ReportFault.TooLong why = absurd why
unsearched_found texts telling (ReportFault.WriteFault fault) why = absurd why
unsearched_found texts telling (ReportFault.BadLine n reason) why = absurd why
unsearched_found texts telling ReportFault.HistoryFull why = tt
unsearched_found texts telling ReportFault.NoMemory why = tt
unsearched_found texts telling (ReportFault.Missing sought n) why = absurd why
