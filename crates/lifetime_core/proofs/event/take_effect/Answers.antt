use Rattle.lifetime_core.proofs.Common.{ap, refl, rules, subst, sym, work_in, ◌≡◌}
use Rattle.sm_names.specs.Marks.{Called}
use Rattle.forest_store.specs.Settling.{Handles}
use Rattle.core_state.specs.State.{HandleCounts, counts_of}
use Rattle.core_state.specs.Tasks.{Reworked}
use Rattle.core_state.proofs.forced.StillOut.{others_stay}
use Rattle.core_state.proofs.handles.Moves.{moves_to}
use Rattle.lifetime_core.proofs.event.take_effect.Goals as goal

-- only the count of the dropped handle shrinks
pub make_change-requires-clause-others : goal.make_change-requires-clause-others
make_change-requires-clause-others c =
    others_stay c.args.contents.now.holds c.apply_handles.new.holds c.args.contents.now.forest
    c.args.client c.args.call.now c.args.asked.now
    c.args.task.now c.requires.out c.in_ok-apply_handles.ensures.ok c.requires.may c.requires.asks

pub returns-clause-ok : goal.returns-clause-ok
returns-clause-ok c =
    let same : counts_of c.tidy_up.new.holds ≡ counts_of c.apply_handles.new.holds = c.tidy_up.ensures.counts in
    record {
      key = c.in-Ok-make_change.key;
      told = refl;
      clients = c.in-Ok-note_client.ensures.ok;
      handles = moves_to c.args.contents.now.holds c.apply_handles.new.holds c.tidy_up.new.holds
          (Called c.args.client c.args.asked.now c.args.call.now)
          c.in_ok-apply_handles.ensures.ok same;
      work = subst (λ (h : Handles). Reworked c.args.contents.now.pool.size h c.args.contents.now.forest
          (work_in c.args.task.now) c.in-Ok-make_change.key
          c.make_change.new.forest)
          (ap (λ (h : HandleCounts). h.total) (sym same)) c.in-Ok-make_change.ensures.work;
      trackers = c.in-Ok.ensures.ok;
    }

pub attach-requires-clause-rising : goal.attach-requires-clause-rising
attach-requires-clause-rising c = search rules

pub attach-requires-clause-room : goal.attach-requires-clause-room
attach-requires-clause-room c = search rules

pub undo-requires-clause-undo : goal.undo-requires-clause-undo
undo-requires-clause-undo c = search rules

pub make_change-requires-clause-may : goal.make_change-requires-clause-may
make_change-requires-clause-may c = search rules

pub make_change-requires-clause-asks : goal.make_change-requires-clause-asks
make_change-requires-clause-asks c = search rules

pub make_change-requires-clause-pool : goal.make_change-requires-clause-pool
make_change-requires-clause-pool c = search rules

pub undo-requires-in_default-make_change-clause-undo : goal.undo-requires-in_default-make_change-clause-undo
undo-requires-in_default-make_change-clause-undo c = search rules

pub undo-requires-in_default-note_client-clause-undo : goal.undo-requires-in_default-note_client-clause-undo
undo-requires-in_default-note_client-clause-undo c = search rules

pub returns-clause-err : goal.returns-clause-err
returns-clause-err c = search rules

pub returns-clause-limit : goal.returns-clause-limit
returns-clause-limit c = search rules

pub returns-clause-pool : goal.returns-clause-pool
returns-clause-pool c = search rules

pub returns-clause-size : goal.returns-clause-size
returns-clause-size c = search rules

pub returns-clause-why : goal.returns-clause-why
returns-clause-why c = search rules

pub returns-in_default-clause-err : goal.returns-in_default-clause-err
returns-in_default-clause-err c = search rules

pub returns-in_default-clause-limit : goal.returns-in_default-clause-limit
returns-in_default-clause-limit c = search rules

pub returns-in_default-clause-ok : goal.returns-in_default-clause-ok
returns-in_default-clause-ok c = search rules

pub returns-in_default-clause-pool : goal.returns-in_default-clause-pool
returns-in_default-clause-pool c = search rules

pub returns-in_default-clause-size : goal.returns-in_default-clause-size
returns-in_default-clause-size c = search rules

pub returns-in_default-clause-why : goal.returns-in_default-clause-why
returns-in_default-clause-why c = search rules

pub returns-in_default-make_change-clause-err : goal.returns-in_default-make_change-clause-err
returns-in_default-make_change-clause-err c = search rules

pub returns-in_default-make_change-clause-limit : goal.returns-in_default-make_change-clause-limit
returns-in_default-make_change-clause-limit c = search rules

pub returns-in_default-make_change-clause-ok : goal.returns-in_default-make_change-clause-ok
returns-in_default-make_change-clause-ok c = search rules

pub returns-in_default-make_change-clause-pool : goal.returns-in_default-make_change-clause-pool
returns-in_default-make_change-clause-pool c = search rules

pub returns-in_default-make_change-clause-size : goal.returns-in_default-make_change-clause-size
returns-in_default-make_change-clause-size c = search rules

pub returns-in_default-make_change-clause-why : goal.returns-in_default-make_change-clause-why
returns-in_default-make_change-clause-why c = search rules

pub returns-in_default-note_client-clause-err : goal.returns-in_default-note_client-clause-err
returns-in_default-note_client-clause-err c = search rules

pub returns-in_default-note_client-clause-limit : goal.returns-in_default-note_client-clause-limit
returns-in_default-note_client-clause-limit c = search rules

pub returns-in_default-note_client-clause-ok : goal.returns-in_default-note_client-clause-ok
returns-in_default-note_client-clause-ok c = search rules

pub returns-in_default-note_client-clause-pool : goal.returns-in_default-note_client-clause-pool
returns-in_default-note_client-clause-pool c = search rules

pub returns-in_default-note_client-clause-size : goal.returns-in_default-note_client-clause-size
returns-in_default-note_client-clause-size c = search rules

pub returns-in_default-note_client-clause-why : goal.returns-in_default-note_client-clause-why
returns-in_default-note_client-clause-why c = search rules

pub undo-requires-clause-stands : goal.undo-requires-clause-stands
undo-requires-clause-stands c = search rules

pub undo-requires-in_default-make_change-clause-stands : goal.undo-requires-in_default-make_change-clause-stands
undo-requires-in_default-make_change-clause-stands c = search rules

pub undo-requires-in_default-note_client-clause-stands : goal.undo-requires-in_default-note_client-clause-stands
undo-requires-in_default-note_client-clause-stands c = search rules
