use Rattle.core_likeness.proofs.Common.{Fired, List, Tracked, ap, filter, list_any, not, reverse, timeline, tracked, ◌==◌, ◌∙◌}
use Rattle.core_likeness.proofs.TrackerLaws.{unfired-told}
use Rattle.core_likeness.proofs.readings.tracking.waiting_in.Goals as goal

-- by the entries and the firings alone
pub returns : goal.returns
returns c = λ pool limits legal same.
    c.in_ok-waiting.ensures
    ∙ (ap (filter (λ (t : Tracked). not (list_any (λ (f : Fired). f.tracker == t.id) c.args.fired.now))) (c.in_ok-all.ensures pool)
    ∙ (ap (λ (fs : List Fired). filter (λ (t : Tracked). not (list_any (λ (f : Fired). f.tracker == t.id) fs)) (reverse (tracked
    (timeline pool c.args.entries.now)))) same
    ∙ unfired-told pool limits c.args.entries.now legal))
