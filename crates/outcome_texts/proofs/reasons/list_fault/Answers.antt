use Rattle.outcome_texts.proofs.Common.{Bor, List, ap, map, ℕ, ◌∙◌}
use Rattle.std.proofs.Common.{subst}
use Rattle.outcome_texts.specs.Reasons.{IsListFault}
use Rattle.outcome_texts.proofs.reasons.list_fault.Goals as goal

-- the words are those of the list
pub returns : goal.returns
returns c = subst (λ (words : List (List ℕ)). IsListFault c.args.labels.now words c.fault_in.result)
    (ap (λ (words : List (Bor (List ℕ))). map (λ word. word.now) words) c.deref.ensures.value ∙ c.in_ok-words.ensures)
    c.fault_in.ensures
