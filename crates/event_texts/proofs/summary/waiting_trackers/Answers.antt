use Rattle.event_texts.proofs.Common.{Bool, Fired, List, [], ap, arith, if◌then◌else◌, sym, ℕ, ◌++◌, ◌+◌, ◌∙◌, ◌∷◌, ◌≡◌}
use Rattle.std.proofs.lemmas.List.FromFn.{filter_of_map_range_with_len_more}
use Rattle.event_texts.specs.SummaryTexts.{is_waiting}
use Rattle.event_texts.proofs.summary.waiting_trackers.Goals as goal

-- no event is before the first
pub loop-before-init : goal.loop-before-init
loop-before-init c = λ names keeps. c.new-waiting.ensures.items

-- one more event made a tracker that waits, or made none
pub loop-before-preserved : goal.loop-before-preserved
loop-before-preserved c = λ names keeps.
    let before = c.loop-before.before in
    let waiting = c.loop-before.waiting.items in
    let fired = c.args.core.now.trackers.fired in
    c.in_ok-add_if.ensures
    ∙ ap (λ (t : Bool). waiting ++ (if t then (before + 1) ∷ [] else []))
    (c.waits.ensures names keeps ∙ ap (λ (f : List Fired). is_waiting names f (before + 1)) c.fired-fired.ensures.value)
    ∙ ap (λ (front : List ℕ). front ++ (if is_waiting names fired (before + 1) then (before + 1) ∷ [] else []))
    (c.loop-before.invariant names keeps)
    ∙ sym (filter_of_map_range_with_len_more (is_waiting names fired) (λ b. b + 1) 0 before before (omega arith))
