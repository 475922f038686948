use Rattle.std.proofs.Common.{append-nil, codes, sym}
use Rattle.script_labels.specs.Texts.{fired_text}
use Rattle.sm_script.proofs.Viewing.{shown-all, shown-more}
use Rattle.sm_script.proofs.views.push_firings.Goals as goal

pub loop-firing-init : goal.loop-firing-init
loop-firing-init c = λ names keeps. sym (append-nil _)

pub loop-firing-preserved : goal.loop-firing-preserved
loop-firing-preserved c = λ names keeps.
    shown-more (fired_text names) _ _ _ _ (c.loop-firing.invariant names keeps) _ _ c.loop-firing-test.true
    (c.in_ok-push_firing.ensures names keeps)

pub returns : goal.returns
returns c = λ names keeps.
    shown-all (fired_text names) _ _ _ _ (c.loop-firing.invariant names keeps) c.args.text.now.items
    (codes "fired") c.loop-firing-test.false c.in_ok-push.ensures.ok
