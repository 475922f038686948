use Rattle.picture_model.proofs.Common.{List, Node, [], ap, filter, map, option_map, option_map_or, ◌∙◌}
use Rattle.sm_names.specs.declared.keys.HeldBuffer.{HeldBuffer}
use Rattle.event_facts.specs.Facts.{is_keeper}
use Rattle.picture_model.specs.Shown.{before_in, freed_since}
use Rattle.picture_model.proofs.picture.grow.Goals as goal

pub returns-clause-seen : goal.returns-clause-seen
returns-clause-seen c = λ held. record {
  known = c.args.known.now.items;
  nodes = c.in_ok-nodes.ensures;
  strong = c.in_ok-strong.ensures;
  held = held;
}

-- each list is that of the definition
pub returns-clause-lists : goal.returns-clause-lists
returns-clause-lists c = λ held.
    let before = before_in (option_map (λ e. e.now) c.args.event) c.args.id in
    λ i. record {
      id = c.args.id;
      nodes = c.in_ok-nodes.ensures i;
      left = c.in_ok-left.ensures.left i;
      held = held i;
      freed = (c.in_ok-left.ensures.freed
          ∙ ap (λ (hs : List HeldBuffer). option_map_or (freed_since hs) before []) (c.deref.ensures.value ∙ held)) i;
      strong = (c.in_ok-strong.ensures
          ∙ ap (λ (ns : List Node). map (λ (n : Node). n.key) (filter is_keeper ns)) c.in_ok-nodes.ensures) i;
    }
