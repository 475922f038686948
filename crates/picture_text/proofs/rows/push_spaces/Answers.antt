use Rattle.std.proofs.Common.{◌≡◌, ◌∙◌, ap, ℕ, [], ◌∷◌, ◌++◌, append_assoc, arith, replicate}
use Rattle.std.proofs.lemmas.List.{replicate_more}
use Rattle.picture_text.proofs.rows.push_spaces.Goals as goal

-- one more
pub loop-at-preserved : goal.loop-at-preserved
loop-at-preserved c =
    c.in_ok-push.ensures.ok ∙ ap (λ front. front ++ 32 ∷ []) c.loop-at.invariant
    ∙ append_assoc c.args.text.now.items (replicate c.loop-at.at 32) (32 ∷ [])
    ∙ ap (λ back. c.args.text.now.items ++ back) (replicate_more c.loop-at.at 32)

-- all of them
pub returns : goal.returns
returns c = c.loop-at.invariant ∙ ap (λ (count : ℕ). c.args.text.now.items ++ replicate count 32) all
  where
    all : c.loop-at.at ≡ c.args.count
    all = omega (arith, c.loop-at.auto.at-end, c.loop-at-test.false)
