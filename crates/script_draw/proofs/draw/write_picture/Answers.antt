use Rattle.std.proofs.Common.{inr, refl}
use Rattle.std.proofs.KnownBytes.{Keeps-refl}
use Rattle.script_draw.proofs.Outcomes.{pictures-so-far, put-told}
use Rattle.script_draw.proofs.draw.write_picture.Goals as goal

pub returns-in-Ok : goal.returns-in-Ok
returns-in-Ok g c = λ setting until lines far.
    put-told c.args.format setting far.scene _ _ _ _
    (pictures-so-far c.args.format setting until c.args.scroll.now lines far _ _ c.new-text.ensures.items c.in-Ok.ensures)
    c.put_out.result (rw c.deref.ensures.value at c.put_out.ensures.ok) (rw c.deref.ensures.value at c.put_out.ensures.err)

-- memory was refused
pub returns : goal.returns
returns g c = λ setting until lines far. inr (refl, Keeps-refl _)
