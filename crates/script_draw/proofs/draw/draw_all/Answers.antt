use Rattle.script_draw.proofs.draw.draw_all.Goals as goal

pub returns-in-Ok : goal.returns-in-Ok
returns-in-Ok g c = c.draw_asked.ensures c.args.scroll.now _ c.args.script.now c.requires.same c.requires.some c.in-Ok.ensures

pub returns-in-Err : goal.returns-in-Err
returns-in-Err g c = c.draw_so_far.ensures c.args.scroll.now _ c.args.script.now c.requires.same c.in-Err.ensures
