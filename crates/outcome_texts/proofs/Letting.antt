-- Lines that let clients vanish.
use Rattle.outcome_texts.proofs.Common.{Bool, Label, List, [], add-one, ap, arith, common_steps, get_or, length, map, may_vanish, suc}
use Rattle.outcome_texts.proofs.Common.{take, take-suc, texts_in, ℕ, ◌++◌, ◌+◌, ◌<◌, ◌∙◌, ◌≡◌}
use Rattle.std.proofs.Common.{◌||◌, false, ◌∷◌}
use Rattle.std.specs.List.{list_any}
use Rattle.std.proofs.lemmas.List.{map-append}
use Rattle.std.proofs.lemmas.List.Folds.{list_any-append}
use Rattle.outcome_texts.specs.ClaimLines.{Text, lets_vanish, text_told}
use Rattle.outcome_texts.specs.declared.claims.ClaimText.{ClaimText}

-- one more is looked at behind the others
pub may_behind : (texts : List ClaimText) (text : ClaimText) (client : Label) →
    may_vanish (texts_in (texts ++ text ∷ [])) client ≡ (may_vanish (texts_in texts) client || lets_vanish client text.line.now)
may_behind texts text client =
    ap (list_any (λ (one : Text). lets_vanish client one.line)) (map-append text_told texts (text ∷ []))
    ∙ list_any-append (λ (one : Text). lets_vanish client one.line) (texts_in texts) (text_told text ∷ [])
    ∙ or_last (may_vanish (texts_in texts) client) (lets_vanish client text.line.now)
  where
    -- a list of one test is that test
    or_last : (a b : Bool) → (a || (b || false)) ≡ (a || b)
    or_last a b = grind (arith, common_steps)

-- one more of the lines is looked at
pub may_more : (texts : List ClaimText) (client : Label) (at : ℕ) (default : ClaimText) → at < length texts →
    may_vanish (texts_in (take (at + 1) texts)) client
    ≡ (may_vanish (texts_in (take at texts)) client || lets_vanish client (get_or texts at default).line.now)
may_more texts client at default within =
    ap (λ (front : List ClaimText). may_vanish (texts_in front) client) (ap (λ n. take n texts) (add-one at)
    ∙ take-suc texts at default within)
    ∙ may_behind (take at texts) (get_or texts at default) client
