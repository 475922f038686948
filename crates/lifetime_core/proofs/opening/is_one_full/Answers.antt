use Rattle.lifetime_core.proofs.Common.{Bool, BufferName, all_to_open, ap, false, get_or, is_at_limit, kept_from, list_any, none_kept}
use Rattle.lifetime_core.proofs.Common.{readings_of, refl, sym, to_open_in, ◌&&◌, ◌+◌, ◌∙◌, ◌≡◌}
use Rattle.std.proofs.Common.{◌||◌}
use Rattle.std.proofs.lemmas.List.Folds.{list_any_none}
use Rattle.core_state.proofs.handles.ToOpen.{keeps_buffer, next_passes}
use Rattle.lifetime_core.proofs.opening.is_one_full.Goals.{else-not-is_doomed-via-then-not-is_doomed+else-has_all_handles}
use Rattle.lifetime_core.proofs.opening.is_one_full.Goals.{else-not-is_doomed-via-else-not-is_doomed}
use Rattle.lifetime_core.proofs.opening.is_one_full.Goals as goal

-- none is
pub returns-then-have_room : goal.returns-then-have_room
returns-then-have_room c =
    let full : BufferName → Bool = is_at_limit c.args.core.now.limits (readings_of c.args.core.now) c.args.strength in
    sym (list_any_none full (to_open_in c.args.core.now c.args.collection) (λ i d within.
    c.have_room.ensures c.if-have_room.true (get_or (to_open_in c.args.core.now c.args.collection) i d) c.args.strength))

pub loop-index-init : goal.loop-index-init
loop-index-init c =
    rw c.strong_live-strong_live.ensures
    (ap (list_any (is_at_limit c.args.core.now.limits (readings_of c.args.core.now) c.args.strength))
    (all_to_open c.args.core.now c.args.collection c.in-Some.buffers (sym c.in-Some.ensures.value)))

-- this one is full
pub returns-then-has_all_handles : goal.returns-then-has_all_handles
returns-then-has_all_handles c =
    let full : BufferName → Bool = is_at_limit c.args.core.now.limits (readings_of c.args.core.now) c.args.strength in
    sym (next_passes full c.args.core.now c.args.collection c.strong_live-strong_live.result c.loop-index.index c.in-Some.buffers.count
    c.loop-index-test.true
    ∙ rw (← c.if-not-is_doomed.ensures, ← c.if-has_all_handles.ensures) refl)
    ∙ c.loop-index.invariant

-- this one is doomed, or not full
pub loop-index-preserved : goal.loop-index-preserved
loop-index-preserved c =
    let full : BufferName → Bool = is_at_limit c.args.core.now.limits (readings_of c.args.core.now) c.args.strength in
    let name : BufferName = record { collection = c.args.collection; index = c.loop-index.index } in
    let on : Bool = list_any full (kept_from c.args.core.now c.args.collection c.strong_live-strong_live.result (c.loop-index.index + 1)
    c.in-Some.buffers.count) in
    let passes_not : (keeps_buffer c.args.core.now c.strong_live-strong_live.result name && full name) ≡ false =
    elim c.else-not-is_doomed.branch [
      | else-not-is_doomed-via-then-not-is_doomed+else-has_all_handles w ↦
          rw (← w.if-not-is_doomed.ensures, ← w.if-has_all_handles.ensures) refl
      | else-not-is_doomed-via-else-not-is_doomed w ↦ rw (← w.if-not-is_doomed.ensures) refl
    ] in
    sym (next_passes full c.args.core.now c.args.collection c.strong_live-strong_live.result c.loop-index.index c.in-Some.buffers.count
    c.loop-index-test.true ∙ ap (λ (b : Bool). b || on) passes_not)
    ∙ c.loop-index.invariant

pub returns : goal.returns
returns c =
    let full : BufferName → Bool = is_at_limit c.args.core.now.limits (readings_of c.args.core.now) c.args.strength in
    sym (ap (list_any full) (none_kept c.args.core.now c.args.collection c.strong_live-strong_live.result c.loop-index.index
    c.in-Some.buffers.count c.loop-index-test.false))
    ∙ c.loop-index.invariant
