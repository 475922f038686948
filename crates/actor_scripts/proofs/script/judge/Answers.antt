use Rattle.actor_scripts.proofs.Common.{Bool, IsScriptFault, ap, arith, if◌then◌else◌, script_actors_from, seen, subst, sym, ◌+◌, ◌∙◌}
use Rattle.std.proofs.Common.{length-drop, Ok, Err}
use Rattle.std.proofs.lemmas.List.{take_rest}
use Rattle.std.proofs.lemmas.Grind.{common_steps}
use Rattle.actor_scripts.proofs.Lines.{goes-on, goes-out, goes-no-further}
use Rattle.actor_scripts.proofs.script.judge.Goals as goal

pub loop-at-preserved : goal.loop-at-preserved
loop-at-preserved c =
    let (same, sound, few) = c.loop-at.invariant in
    let behind = take_rest c.loop-at.rest.now (c.in-Some.at + 1) in (
      same ∙ goes-on _ _ c.in-Some.at (sym c.line_end.ensures.value ∙ c.in-Some.is) _ c.in-Ok.ensures.says
          ∙ ap (script_actors_from _) (sym behind),
      c.in-Ok.ensures.sound,
      rw behind (rw length-drop (omega (arith, few, c.in-Ok.ensures.counted, c.in-Some.ensures.within))),
    )

pub returns-in-Err : goal.returns-in-Err
returns-in-Err c =
    subst (λ judged. IsScriptFault judged c.fault_at.result) (sym c.loop-at.invariant.0)
    (subst (IsScriptFault (script_actors_from (seen c.loop-at.builder) c.loop-at.rest.now)) (sym c.fault_at.ensures)
    (goes-no-further _ _ c.in-Some.at (sym c.line_end.ensures.value ∙ c.in-Some.is) c.in-Err.halt c.in-Err.ensures.says))

pub returns-else-is_ended : goal.returns-else-is_ended
returns-else-is_ended c =
    let now = seen c.loop-at.builder in
    c.loop-at.invariant.0 ∙ goes-out now c.loop-at.rest.now (sym c.line_end.ensures.value ∙ c.in_default.is)
    ∙ ap (λ (done : Bool). if done then Ok now.actors else Err (now.lines + 1)) (sym c.is_ended.ensures ∙ c.if-is_ended.false)

pub returns-then-is_ended : goal.returns-then-is_ended
returns-then-is_ended c = grind (arith, common_steps)
