use Rattle.event_texts.proofs.Common.{Calls, Keeps, Names, kept_behind, length, who_has_with, ◌++◌, ◌≡◌}
use Rattle.event_texts.proofs.keepers.push_later.Given as goal

-- the text so far, with that of the buffers that are left, is that of all
abbrev pub invariant-buffers : goal.invariant-buffers
invariant-buffers l = (names : Names) → Keeps l.register.tables.now names → Calls l.register.labels.now names →
    l.text.items ++ kept_behind names
    (who_has_with names l.register.with_nodes l.register.core.now l.register.clients.now.items) l.row.items l.rest
    ≡ l.initial.text.items
    ++ kept_behind names (who_has_with names l.register.with_nodes l.register.core.now l.register.clients.now.items)
    l.initial.row.items l.initial.rest

abbrev pub decreases-buffers : goal.decreases-buffers
decreases-buffers l = length l.rest
