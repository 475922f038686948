use Rattle.std.proofs.Common.{[], ◌∙◌, sym}
use Rattle.core_likeness.proofs.tracking.waiting.Goals as goal

-- the core forgot no firing
pub returns-in-Ok : goal.returns-in-Ok
returns-in-Ok c =
    c.in-Ok.ensures c.args.core.now.pool c.args.core.now.limits c.requires.legal
    (c.fired.ensures.shown [] c.args.entries.now c.requires)
    ∙ sym c.requires.shown.trackers.waiting
