use Rattle.std.proofs.Common.{◌≡◌, ◌++◌, ◌∷◌, [], sym, ap, ◌∙◌}
use Rattle.std.proofs.lemmas.Bool.Decides.{Decides-eqb}
use Rattle.std.proofs.lemmas.Slice.Eq.{slice_eq-Decides}
use Rattle.script_explain.proofs.Answering.{last-same}
use Rattle.script_explain.proofs.check.is_line_of.Goals as goal

-- the text stands before the end of the line
pub returns-then-last-eq10 : goal.returns-then-last-eq10
returns-then-last-eq10 c =
    let front = c.in-Some.front.now in
    let text = c.args.text.now in
    let decides = slice_eq-Decides Decides-eqb front text c.eq.result c.eq.ensures in
    let split : c.args.reply.now ≡ front ++ 10 ∷ [] =
    c.in-Some.ensures.cases.0 ∙ ap (λ last. front ++ last ∷ []) c.if-last-eq10.true in (
      λ yes. split ∙ ap (λ line. line ++ 10 ∷ []) (decides.0 yes),
      λ same. decides.1 (last-same front text 10 10 (sym split ∙ same)).fronts,
    )
