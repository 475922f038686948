use Rattle.std.proofs.Common.{◌∙◌, inl, inr, refl, subst, sym}
use Rattle.std.proofs.KnownBytes.{Keeps-refl}
use Rattle.sm_script.specs.Scenes.{Setting}
use Rattle.report_io.specs.declared.view.Until.{Until}
use Rattle.script_draw.specs.Draws.{LinesDrawn}
use Rattle.script_draw.proofs.Outcomes.{none-is}
use Rattle.script_draw.proofs.draw.draw_script.Goals as goal

-- the script did not come in
pub returns-in-Err : goal.returns-in-Err
returns-in-Err g c = inl (c.in-Err.ensures.err, Keeps-refl _)

-- what has the number 0 is not there
pub returns-in-Some : goal.returns-in-Some
returns-in-Some g c = inr (
  c.in-Ok.script.items,
  c.in-Ok.ensures.ok,
  c.in-Ok.ensures.end,
  c.in-Ok.ensures.within,
  record {
    asked = none-is _ _ (sym c.none_wanted.ensures ∙ c.in-Some.is);
    none = inl refl;
    kept = Keeps-refl _;
  },
)

-- the lines were drawn
pub returns-in-Ok-new : goal.returns-in-Ok-new
returns-in-Ok-new g c = inr (
  c.in-Ok.script.items,
  c.in-Ok.ensures.ok,
  c.in-Ok.ensures.end,
  c.in-Ok.ensures.within,
  subst (λ (setting : Setting). LinesDrawn setting c.args.job.view (g.W.Write.contents c.args.writer.now)
      (g.W.Write.contents c.draw_all.new.writer) c.in-Ok.script.items c.draw_all.result)
      (λ i. record { pool = c.in-Ok-new.ensures.pool i; limits = c.in-Ok-new.ensures.limits i })
      (subst (λ (until : Until). LinesDrawn (record {
        pool = c.in-Ok-new.scroll.event_writer.session.core.pool;
        limits = c.in-Ok-new.scroll.event_writer.session.core.limits;
      })
      (record { format = c.args.job.view.format; until = until }) (g.W.Write.contents c.args.writer.now)
      (g.W.Write.contents c.draw_all.new.writer) c.in-Ok.script.items c.draw_all.result) c.in-Ok-new.ensures.until
      (rw c.deref.ensures.value at c.draw_all.ensures)),
)

-- some of what is sought is wanted
pub draw_all-requires-clause-some : goal.draw_all-requires-clause-some
draw_all-requires-clause-some g c = sym c.in_default.ensures

-- no line was played
pub draw_all-requires-clause-start : goal.draw_all-requires-clause-start
draw_all-requires-clause-start g c = c.in-Ok-new.ensures.start (sym c.in_default.ensures)

-- memory was refused
pub returns : goal.returns
returns g c = inr (c.in-Ok.script.items, c.in-Ok.ensures.ok, c.in-Ok.ensures.end, c.in-Ok.ensures.within, Keeps-refl _)
