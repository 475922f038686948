use Rattle.play_likeness.proofs.Common.{Ok, ap, arith, made_of, made_renamed, map, new_id, new_key, new_number, option_map, refl, sym}
use Rattle.play_likeness.proofs.Common.{vanish_of, ◌∙◌}
use Rattle.alike_plays.specs.Actors.{leave_renamed}
use Rattle.play_likeness.proofs.stages.stays_alike.Goals as goal

-- field by field
pub returns : goal.returns
returns c = λ h.
    let made = made_renamed (new_key c.args.names.now) (new_id c.args.names.now) (new_number c.args.names.now) in
    let leave = leave_renamed (new_key c.args.names.now) (new_id c.args.names.now) in
    record {
      at = omega arith;
      known = c.in_ok-known_alike.ensures (ap Ok c.if-not-branch.false);
      made = ap made_of (sym c.deref-2.ensures.value) ∙ (c.made_alike.ensures h ∙ ap (λ l. map made (made_of l)) c.deref.ensures.value);
      vanish = ap (option_map vanish_of) (c.if-not-neither_leaves.ensures.other refl)
          ∙ sym (ap (λ o. option_map leave (option_map vanish_of o)) (c.if-not-neither_leaves.ensures.one refl));
    }
