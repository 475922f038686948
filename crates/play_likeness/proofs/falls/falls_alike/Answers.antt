use Rattle.play_likeness.proofs.Common.{keys-apart, new_key, refl}
use Rattle.alike_plays.proofs.Losses.{fell-alike}
use Rattle.play_likeness.proofs.falls.falls_alike.Goals as goal

-- by those of both plays
pub returns-then-have_fallen : goal.returns-then-have_fallen
returns-then-have_fallen c = λ h.
    fell-alike (new_key c.args.names.now) (keys-apart c.args.names.now) c.args.one.now c.args.other.now (c.if-have_fallen.ensures refl)
    (c.are_fallen.ensures h)
