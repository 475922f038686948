use Rattle.std.proofs.Common.{◌≡◌, ◌++◌}
use Rattle.picture_text.specs.TextPictures.{signs_of_pages}
use Rattle.picture_text.proofs.picture.push_each_sign.Given as goal

-- those of the pages so far
abbrev pub invariant-loop-page : goal.invariant-loop-page
invariant-loop-page l = l.text.items ≡ l.initial.text.items ++ signs_of_pages l.held l.page
