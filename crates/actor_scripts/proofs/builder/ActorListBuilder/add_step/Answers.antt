use Rattle.actor_scripts.proofs.Common.{List, Some, Step, ap, seen, subst, sym, true, ◌<◌, ◌∙◌}
use Rattle.actor_scripts.proofs.StepLaws.{scripts-on, stepped-on}
use Rattle.actor_scripts.proofs.builder.ActorListBuilder.add_step.Goals as goal

pub returns-in-Ok-add_step-clause-says : goal.returns-in-Ok-add_step-clause-says
returns-in-Ok-add_step-clause-says c =
    let (step, is, more) = c.in-Ok-add_step.ensures.says in
    let self = c.args.self.now in
    let actor = c.in-Ok.actor in
    let within = subst (λ n. actor < n) (sym c.requires.sound.scripts) c.in-Ok.ensures.within in
    let on = scripts-on self.scripts.items actor _ _ step within c.index_mut-script.ensures.value more in
    stepped-on (seen self) c.args.client c.args.line actor c.in-Ok.ensures.place step c.add_step.new.named.keys is
    ∙ ap (λ (scripts : List (List Step)). Some (record {
      actors = record { labels = self.clients.keys; scripts = scripts };
      named = c.add_step.new.named.keys;
      begun = true;
      lines = self.lines;
    })) on
