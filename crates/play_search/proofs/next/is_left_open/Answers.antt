use Rattle.play_search.proofs.Common.{Actor, List, Some, ap, arith, length, map, option_map, slice_get, slice_get-map, stage_of, sym, ◌<◌}
use Rattle.play_search.proofs.Common.{◌∙◌, ◌≡◌}
use Rattle.std.proofs.lemmas.Option.{slice_get-get_or}
use Rattle.play_search.proofs.next.is_left_open.Goals as goal

-- this one must
pub returns-then-branch : goal.returns-then-branch
returns-then-branch c = λ yes.
    let within : c.loop-actor.actor < length c.actors-actors.result.now = omega arith in (
      c.loop-actor.actor,
      (
        stage_of c.index-actors-actor.result,
        ap (λ (l : List Actor). slice_get (map stage_of l) c.loop-actor.actor) (sym c.actors-actors.ensures)
            ∙ (slice_get-map stage_of c.actors-actors.result.now c.loop-actor.actor
            ∙ ap (option_map stage_of)
            (slice_get-get_or c.actors-actors.result.now c.loop-actor.actor c.index-actors-actor.result within
            ∙ ap Some (sym c.index-actors-actor.is))),
        sym c.in_ok-must_leave.ensures ∙ c.if-branch.true,
      ),
    )
