use Rattle.event_texts.proofs.Common.{List, ap, arith, facts_text, on_ok_weaker, ℕ, ◌++◌, ◌∙◌}
use Rattle.event_texts.proofs.event_writer.EventWriter.push_facts.Goals as goal

-- they are told where no text was
pub returns-clause-text : goal.returns-clause-text
returns-clause-text c = on_ok_weaker c.push_each_fact.result
    (λ put names lines keeps calls recalls empty. record {
      doomed = c.newly_doomed-doomed.result;
      are_doomed = c.newly_doomed-doomed.ensures;
      in_range = omega arith;
      told = put names lines keeps calls recalls
          ∙ ap (λ (t : List ℕ). t ++ facts_text names lines c.args.self.now.session.core c.newly_doomed-doomed.result c.args.event.now)
          empty;
    })
    c.push_each_fact.ensures.text
