-- The calls of the turns that are left.
use Rattle.outcome_texts.proofs.Common.{List, ap, calls_from, drop, get_or, length, suc, sym, take, take-suc, ℕ, ◌++◌, ◌<◌, ◌∙◌, ◌≡◌}
use Rattle.std.proofs.Common.{drop-cons}
use Rattle.explore_model.specs.declared.found.Turn.{Turn}
use Rattle.explore_model.specs.declared.found.Found.{Found}
use Rattle.outcome_texts.specs.Calls.{at_most_one, call_told}

-- that of the next turn comes first
pub calls_next : (found : Found) (turns : List Turn) (at : ℕ) (default : Turn) → at < length turns →
    calls_from found (take at turns) (drop at turns)
    ≡ at_most_one (call_told found (take at turns) (get_or turns at default)) ++ calls_from found
    (take (suc at) turns) (drop (suc at) turns)
calls_next found turns at default within =
    ap (calls_from found (take at turns)) (drop-cons turns at default within)
    ∙ ap (λ (before : List Turn). at_most_one (call_told found (take at turns) (get_or turns at default))
    ++ calls_from found before (drop (suc at) turns)) (sym (take-suc turns at default within))
