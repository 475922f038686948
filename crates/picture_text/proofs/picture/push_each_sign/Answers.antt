use Rattle.std.proofs.Common.{◌≡◌, ◌∙◌, ap, sym, ℕ, ◌++◌, append_assoc, arith}
use Rattle.picture_text.specs.TextPictures.{sign_of_page, signs_of_pages}
use Rattle.picture_text.proofs.Signs.{signs-more}
use Rattle.picture_text.proofs.picture.push_each_sign.Goals as goal

pub loop-page-preserved : goal.loop-page-preserved
loop-page-preserved c =
    c.in_ok-push.ensures.ok
    ∙ ap (λ sign. c.loop-page.text.items ++ sign) c.sign_of.ensures
    ∙ ap (λ front. front ++ sign_of_page c.args.held.now c.loop-page.page) c.loop-page.invariant
    ∙ append_assoc c.args.text.now.items (signs_of_pages c.args.held.now c.loop-page.page)
    (sign_of_page c.args.held.now c.loop-page.page)
    ∙ ap (λ back. c.args.text.now.items ++ back) (sym (signs-more c.args.held.now c.loop-page.page))

pub returns : goal.returns
returns c = c.loop-page.invariant ∙ ap (λ (count : ℕ). c.args.text.now.items ++ signs_of_pages c.args.held.now count) all
  where
    all : c.loop-page.page ≡ c.args.pages
    all = omega (arith, c.loop-page.auto.page-end, c.loop-page-test.false)
