use Rattle.play_likeness.proofs.Common.{BufferName, Ok, ap, buffer_renamed, known, new_id, ◌≡◌}
use Rattle.sm_names.specs.declared.keys.Strength.{Strength}
use Rattle.play_likeness.proofs.stages.both_alike.Goals as goal

-- by the strength
either : (P : Strength → Type 0) → P Strength.Strong → P Strength.Weak → (s : Strength) → P s
either P strong weak Strength.Strong = strong
either P strong weak Strength.Weak = weak

pub returns : goal.returns
returns c = λ h.
    either (λ s. (b : BufferName) → (known c.args.other.now).handles s (buffer_renamed (new_id c.args.names.now) b)
    ≡ (known c.args.one.now).handles s b)
    (c.in_ok-handles_alike.ensures (ap Ok c.if-not-branch.false)) (c.handles_alike-2.ensures h)
