use Rattle.event_facts.proofs.Common.{Collection, IsSound, None, Option, [], ap, collection_of, option_map, subst, sym, unwrap_or, ◌∙◌}
use Rattle.std.specs.Option.{IfSome}
use Rattle.event_facts.proofs.marked_steps.copy_or_empty.Goals as goal

pub returns-in_default-clause-value : goal.returns-in_default-clause-value
returns-in_default-clause-value c =
    c.empty.ensures.value
    ∙ ap (λ (o : Option Collection). unwrap_or o (record { id = c.args.id; nodes = []; buffers = None; held = [] }))
    (ap (option_map collection_of) (sym c.in_default.is) ∙ c.in_ok-copied.ensures.value)

pub returns-clause-value : goal.returns-clause-value
returns-clause-value c =
    ap (λ (o : Option Collection). unwrap_or o (record { id = c.args.id; nodes = []; buffers = None; held = [] }))
    (ap (option_map collection_of) (sym c.in-Some.is) ∙ c.in_ok-copied.ensures.value)

pub returns-clause-sound : goal.returns-clause-sound
returns-clause-sound c = subst (λ o. IfSome o (λ s. IsSound (collection_of s))) c.in-Some.is c.in_ok-copied.ensures.sound
