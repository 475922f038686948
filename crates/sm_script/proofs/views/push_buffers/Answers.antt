use Rattle.std.proofs.Common.{append-nil, codes, sym}
use Rattle.script_labels.specs.Texts.{held_text}
use Rattle.sm_script.proofs.Viewing.{shown-all, shown-more}
use Rattle.sm_script.proofs.views.push_buffers.Goals as goal

pub loop-held-init : goal.loop-held-init
loop-held-init c = λ names keeps. sym (append-nil _)

pub loop-held-preserved : goal.loop-held-preserved
loop-held-preserved c = λ names keeps.
    shown-more (held_text names) _ _ _ _ (c.loop-held.invariant names keeps) _ _ c.loop-held-test.true
    (c.in_ok-push_held.ensures names keeps)

pub returns : goal.returns
returns c = λ names keeps.
    shown-all (held_text names) _ _ _ _ (c.loop-held.invariant names keeps) c.args.text.now.items
    (codes "held") c.loop-held-test.false c.in_ok-push.ensures.ok
