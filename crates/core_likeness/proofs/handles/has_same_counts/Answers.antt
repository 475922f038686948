use Rattle.core_likeness.proofs.Common.{SameCounts, Strength, refl}
use Rattle.core_likeness.proofs.handles.has_same_counts.Goals as goal

-- by the strength
either : (P : Strength → Type 0) → P Strength.Strong → P Strength.Weak → (s : Strength) → P s
either P strong weak Strength.Strong = strong
either P strong weak Strength.Weak = weak

pub returns-then-has_same_count : goal.returns-then-has_same_count
returns-then-has_same_count c = λ h.
    either (SameCounts c.args.one.now.holds c.args.other.now.holds c.args.client c.args.first c.args.second)
    (c.if-has_same_count.ensures refl) (c.has_same_count-then-has_same_count.ensures h)
