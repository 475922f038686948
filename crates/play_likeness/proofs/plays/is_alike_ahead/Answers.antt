use Rattle.play_likeness.proofs.Common.{new_id, new_key, new_number, stage_of}
use Rattle.alike_plays.proofs.Ahead.{ahead-alike}
use Rattle.play_likeness.proofs.plays.is_alike_ahead.Goals as goal

-- both leave
pub returns-in-Some-vanish : goal.returns-in-Some-vanish
returns-in-Some-vanish c = λ h. c.leavers_are_alike.ensures h c.in-Some.is c.in-Some-vanish.is

-- neither leaves
pub returns-in-None : goal.returns-in-None
returns-in-None c = λ h.
    ahead-alike (new_key c.args.names.now) (new_id c.args.names.now) (new_number c.args.names.now) (stage_of c.args.one.now)
    (stage_of c.args.other.now)
    (c.stays_alike.ensures h)
