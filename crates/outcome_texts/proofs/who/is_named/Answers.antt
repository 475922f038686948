use Rattle.outcome_texts.proofs.Common.{Bor, List, ap, is_among, map, ℕ, ◌∙◌}
use Rattle.outcome_texts.proofs.who.is_named.Goals as goal

-- the words are those of the list
pub returns : goal.returns
returns c = c.is_among.ensures
    ∙ ap (λ (words : List (List ℕ)). is_among words c.args.client)
    (ap (λ (words : List (Bor (List ℕ))). map (λ word. word.now) words) c.deref.ensures.value ∙ c.in_ok-words.ensures)
