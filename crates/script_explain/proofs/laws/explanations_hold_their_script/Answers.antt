use Rattle.std.proofs.Common.{◌∙◌, Bool, subst}
use Rattle.script_lines.specs.Pieces.{whole_lines}
use Rattle.sm_script.specs.Scenes.{first_scene}
use Rattle.script_explain.specs.ExplainedLines.{ExplainsLines}
use Rattle.script_explain.proofs.ToldLines.{replies-told, script-told, summed-script, text-whole}
use Rattle.script_explain.proofs.laws.explanations_hold_their_script.Goals as goal

pub returns-clause-whole : goal.returns-clause-whole
returns-clause-whole c setting script text explains =
    text-whole setting.pool script text explains.replies explains.scene explains.kept explains.tells

pub returns-clause-script : goal.returns-clause-script
returns-clause-script c setting script text explains =
    script-told setting.pool script text explains.replies explains.scene explains.kept explains.tells

pub returns-clause-replies : goal.returns-clause-replies
returns-clause-replies c setting script text explains =
    replies-told setting.pool script text explains.replies explains.scene explains.kept explains.tells

pub returns-clause-summary : goal.returns-clause-summary
returns-clause-summary c setting scope script whole only =
    let its = whole.explains in
    let tells = subst
    (λ (o : Bool). ExplainsLines setting.pool o first_scene (whole_lines script) whole.text its.replies its.scene its.kept)
    only its.tells in
    summed-script setting its.scene whole.text whole.summary scope.has_summary whole.summarizes
    (text-whole setting.pool script whole.text its.replies its.scene its.kept tells)
    ∙ script-told setting.pool script whole.text its.replies its.scene its.kept tells
