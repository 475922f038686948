use Rattle.std.proofs.Common.{◌≡◌, ◌+◌, ◌++◌, length}
use Rattle.script_labels.specs.Records.{RecorderNames, Scribe, record_from, record_text}
use Rattle.script_labels.proofs.recorder.push_record.Given as goal

-- what was written, and behind it the text of the entries that are left
abbrev pub invariant-entries : goal.invariant-entries
invariant-entries l =
    ((s : Scribe) × RecorderNames l.recorder s
    × (l.initial.text.items ++ record_text l.initial.labels l.entries
    ≡ l.text.items ++ record_from s l.labels (l.event + 1) l.rest))
    × (l.event + length l.rest ≡ length l.entries)

abbrev pub decreases-entries : goal.decreases-entries
decreases-entries l = length l.rest
