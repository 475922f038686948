use Rattle.play_likeness.proofs.Common.{ap, arith, known, length, new_number, option_map, refl, sym, ℕ, ◌<◌, ◌∙◌, ◌≡◌, ◌≤◌}
use Rattle.play_likeness.proofs.Listed.{each-all, each-more}
use Rattle.play_likeness.proofs.labels.are_new_trackers.Goals as goal

-- one label more stands for the same
pub loop-label-preserved : goal.loop-label-preserved
loop-label-preserved c =
    let within : c.loop-label.label-index < length c.args.labels.now = omega arith in
    each-more (λ (l : ℕ). (known c.args.other.now).trackers l
    ≡ option_map (new_number c.args.names.now) ((known c.args.one.now).trackers l))
    c.args.labels.now c.loop-label.label-index 0 within c.loop-label.invariant
    (sym c.tracker-in-loop-label.ensures ∙ (c.if-not-is_new_tracker.ensures refl
    ∙ ap (option_map (new_number c.args.names.now)) c.tracker.ensures))

-- all do
pub returns : goal.returns
returns c = λ _.
    let all : length c.args.labels.now ≤ c.loop-label.label-index = omega arith in
    each-all (λ (l : ℕ). (known c.args.other.now).trackers l ≡ option_map (new_number c.args.names.now)
    ((known c.args.one.now).trackers l))
    c.args.labels.now c.loop-label.label-index all c.loop-label.invariant
