use Rattle.play_likeness.proofs.Common.{Actor, AreAlikeAll, GoneNode, List, Ok, ahead_of, ap, ids-apart, keys-apart, map, new_id, new_key}
use Rattle.play_likeness.proofs.Common.{new_number, refl, stage_of, subst, true, ◌≡◌}
use Rattle.core_state.specs.State.{State}
use Rattle.alike_cores.specs.Cores.{AreAlikeCores}
use Rattle.alike_plays.specs.Falls.{FellAlike}
use Rattle.core_likeness.proofs.Swapping.{numbers-apart}
use Rattle.play_likeness.proofs.plays.plays_are_alike.Goals as goal

-- under the names that the replies tell
pub returns-in-Ok : goal.returns-in-Ok
returns-in-Ok c = λ h.
    let to = new_key c.in_ok-names.names in
    let id = new_id c.in_ok-names.names in
    let number = new_number c.in_ok-names.names in
    let yes : c.in-Ok.are_alike ≡ true = cc in
    record {
      to = to;
      id = id;
      number = number;
      keeps = keys-apart c.in_ok-names.names;
      kept = ids-apart c.in_ok-names.names;
      counted = numbers-apart c.in_ok-names.names;
      cores = subst (λ (s : State). AreAlikeCores to id number s c.args.other.now.core) c.core.ensures
          (subst (λ (s : State). AreAlikeCores to id number c.core.result.now s) c.core-2.ensures (c.in-Ok.ensures (ap Ok yes)));
      stages = subst (λ (l : List Actor). AreAlikeAll to id number (map ahead_of (map stage_of l))
          (map ahead_of (map stage_of c.args.other.now.actors.items))) c.actors-3.ensures
          (subst (λ (l : List Actor). AreAlikeAll to id number (map ahead_of (map stage_of c.actors-3.result.now))
          (map ahead_of (map stage_of l))) c.actors-4.ensures (c.in_ok-are_alike_ahead.ensures (ap Ok c.if-not-branch.false)));
      fallen = subst (λ (l : List GoneNode). FellAlike to l c.args.other.now.falls.items) c.falls.ensures
          (subst (λ (l : List GoneNode). FellAlike to c.falls.result.now l) c.falls-2.ensures (c.if-not-falls_alike.ensures refl));
    }
