use Rattle.outcome_texts.proofs.Common.{ap, append-nil, append_assoc, arith, claim_text_of, claim_texts_from, drop, length-drop}
use Rattle.outcome_texts.proofs.Common.{length-take, sym, take, take_rest, texts_in, whole_lines, ◌++◌, ◌+◌, ◌∙◌}
use Rattle.outcome_texts.proofs.Claiming.{texts_first, texts_none}
use Rattle.outcome_texts.proofs.claims.claim_texts.Goals as goal

-- the first of the lines that are left comes behind what is there
pub lines-preserved : goal.lines-preserved
lines-preserved c = (
  ap (λ left. texts_in c.push_claim_text.new.texts.items ++ claim_texts_from (c.lines.number + 1) (whole_lines left))
      (take_rest c.lines.rest.now (c.in-Some.at + 1))
      ∙ ap (λ told. told ++ claim_texts_from (c.lines.number + 1) (whole_lines (drop (c.in-Some.at + 1) c.lines.rest.now)))
      c.in_ok-push_claim_text.ensures
      ∙ append_assoc (texts_in c.lines.texts.items) (claim_text_of c.lines.number (take c.in-Some.at c.lines.rest.now))
      (claim_texts_from (c.lines.number + 1) (whole_lines (drop (c.in-Some.at + 1) c.lines.rest.now)))
      ∙ ap (λ more. texts_in c.lines.texts.items ++ more)
      (sym (texts_first c.lines.number c.lines.rest.now c.in-Some.at (sym c.in-Some.ensures.value)))
      ∙ c.lines.invariant.0,
  grind (arith, length-drop, length-take, c.lines.invariant.1, c.in-Some.ensures.within),
)

pub returns : goal.returns
returns c =
    sym (append-nil (texts_in c.lines.texts.items))
    ∙ ap (λ more. texts_in c.lines.texts.items ++ more)
    (sym (texts_none c.lines.number c.lines.rest.now (sym c.in_default.ensures.value)))
    ∙ c.lines.invariant.0
