use Rattle.std.proofs.Common.{refl, rules}
use Rattle.std.specs.Option.{option_map}
use Rattle.picture_model.proofs.Showing.{shows-kept}
use Rattle.picture_model.proofs.picture.picture_of.Goals as goal

-- where nothing happened
pub returns-in-None-clause-shows : goal.returns-in-None-clause-shows
returns-in-None-clause-shows c = λ names keeps. record {
  seen = c.in_ok-trees.ensures.seen;
  trees = c.in_ok-trees.ensures.trees;
  told = rw c.in-None.is (search rules);
  travels = rw c.in-None.is (search rules);
  fired = rw c.in-None.is refl;
}

pub returns-in-None-clause-kept : goal.returns-in-None-clause-kept
returns-in-None-clause-kept c = λ history shows knows.
    shows-kept c.args.event_writer.now.session.core history
    (option_map (λ e. e.now) c.args.event) c.args.picture_state.now c.in_ok-trees.trees.items
    shows knows c.in_ok-trees.ensures.trees

-- no kept node is missing behind an event
pub returns-in_ok-travels-in-Some-clause-kept : goal.returns-in_ok-travels-in-Some-clause-kept
returns-in_ok-travels-in-Some-clause-kept c = λ history shows knows.
    shows-kept c.args.event_writer.now.session.core history
    (option_map (λ e. e.now) c.args.event) c.args.picture_state.now c.in_ok-trees.trees.items
    shows knows c.in_ok-trees.ensures.trees
