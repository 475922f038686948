use Rattle.std.proofs.Common.{refl, sym}
use Rattle.client_ends.proofs.TakeLaws.{took}
use Rattle.client_ends.proofs.client.Client.taken_in.Goals as goal

pub returns-in-Ok-Taken-clause-made : goal.returns-in-Ok-Taken-clause-made
returns-in-Ok-Taken-clause-made g c =
    let made = c.in-Ok-Taken in
    took _ _ _ c.args.key made.field-0 made.field-0-0 made.field-0-1 made.field-0-2 c.make_taking.new.handles.items (sym c.self.view_is)
    (record { id = refl; share = made.ensures.share; told = made.ensures.told; fits = made.ensures.kind })
    made.field-0-is made.ensures.handles
