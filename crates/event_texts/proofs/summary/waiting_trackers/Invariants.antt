use Rattle.event_texts.proofs.Common.{Keeps, Names, ◌≡◌}
use Rattle.event_texts.specs.SummaryTexts.{waiting_of}
use Rattle.event_texts.proofs.summary.waiting_trackers.Given as goal

-- those of the events so far
abbrev pub invariant-loop-before : goal.invariant-loop-before
invariant-loop-before l = (names : Names) → Keeps l.tables names →
    l.waiting.items ≡ waiting_of names l.core.trackers.fired l.before
