use Rattle.outcome_texts.proofs.Common.{Bor, List, ap, is_among, map, ℕ, ◌∙◌}
use Rattle.std.proofs.lemmas.Result.{IfOk-weaker}
use Rattle.script_lines.specs.ClientLists.{listed}
use Rattle.outcome_texts.proofs.who.who_listed.Goals as goal

-- the words are those of the list
pub returns : goal.returns
returns c = IfOk-weaker c.who_among.result _ _
    (λ who is. is
    ∙ ap (λ (words : List (List ℕ)). map (is_among words) c.args.labels.now)
    (ap (λ (words : List (Bor (List ℕ))). map (λ word. word.now) words) c.deref.ensures.value
    ∙ c.in_ok-words.ensures ∙ ap (listed 44) c.as_bytes.ensures.value))
    c.who_among.ensures
