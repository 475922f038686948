use Rattle.play_likeness.proofs.Common.{Ok, [], ap, made_of, made_renamed, map, new_id, new_key, new_number, object_renamed, option_map}
use Rattle.play_likeness.proofs.Common.{stage_of, sym, vanish_of, ◌∙◌}
use Rattle.std.proofs.Common.{drop}
use Rattle.actor_plays.specs.Leaves.{all_objects}
use Rattle.alike_plays.proofs.Ahead.{going-alike}
use Rattle.play_likeness.proofs.plays.leavers_are_alike.Goals as goal

-- what they have still to do is the same
pub returns : goal.returns
returns c = λ h first second.
    let rename = object_renamed (new_key c.args.names.now) (new_id c.args.names.now) in
    going-alike (new_key c.args.names.now) (new_id c.args.names.now) (new_number c.args.names.now) (stage_of c.args.one.now)
    (stage_of c.args.other.now)
    (vanish_of c.args.vanish.now) (vanish_of c.args.going.now) (ap (option_map vanish_of) first) (ap (option_map vanish_of) second)
    (c.goes_alike.ensures.waiting h)
    (ap made_of (sym c.deref-2.ensures.value) ∙ (c.in_ok-made_alike.ensures (ap Ok c.if-not-branch.false)
    ∙ ap (λ l. map (made_renamed (new_key c.args.names.now) (new_id c.args.names.now) (new_number c.args.names.now))
    (made_of l)) c.deref.ensures.value))
    (λ none. (λ i. drop c.args.going.now.parted (all_objects c.args.going.now.collected.items (sym c.objects-2.ensures i)))
    ∙ (c.goes_alike.ensures.rest h none
    ∙ (λ i. map rename (drop c.args.vanish.now.parted (all_objects c.args.vanish.now.collected.items (c.objects.ensures i))))))
    (λ some. (
      c.goes_alike.ensures.parted h some,
      c.goes_alike.ensures.collected h some,
      ap (all_objects []) (sym c.objects-2.ensures) ∙ (c.goes_alike.ensures.slots h some
          ∙ ap (λ l. map rename (all_objects [] l)) c.objects.ensures),
    ))
