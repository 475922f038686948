use Rattle.outcome_texts.proofs.Common.{List, PlayCall, ap, joins_text, on_ok_weaker, ℕ, ◌++◌, ◌∙◌}
use Rattle.outcome_texts.specs.Calls.{calls_told}
use Rattle.outcome_texts.specs.Scripts.{head_text, marked_text}
use Rattle.outcome_texts.proofs.Joining.{three_behind}
use Rattle.outcome_texts.proofs.script.push_play.Goals as goal

-- the head, the joins and the calls come one behind another
pub returns : goal.returns
returns c =
    let found = c.args.found.now in
    let said = c.deref.result.now in
    let head : List ℕ = head_text c.args.telling.now found c.args.rank c.args.outcomes said in
    let joins : List ℕ = joins_text c.args.telling.now.labels.now in
    let marked : List PlayCall → List ℕ = λ calls. marked_text c.args.telling.now found calls c.args.rank in
    on_ok_weaker c.push_lines.result
    (λ is. record {
      said = said;
      who = λ may. c.deref.ensures.value ∙ c.in_ok-said.ensures may;
      appended = is
          ∙ ap (λ (front : List ℕ). front ++ joins ++ marked c.deref-2.result.now) c.in_ok-push_head.ensures
          ∙ ap (λ (calls : List PlayCall). c.args.text.now.items ++ head ++ joins ++ marked calls)
          (c.deref-2.ensures.value ∙ c.in_ok-calls.ensures)
          ∙ three_behind c.args.text.now.items head joins (marked (calls_told found));
    })
    c.push_lines.ensures
