use Rattle.core_likeness.proofs.Common.{BufferName, IsCounted, Opening, is_opened, new_id, subst, true, ◌≡◌}
use Rattle.sm_names.proofs.SamenessLaws.{same_buffer-true}
use Rattle.core_likeness.proofs.handles.is_opening_counted.Goals as goal

-- the buffer is this one
pub returns-in-Buffer : goal.returns-in-Buffer
returns-in-Buffer c = λ h buffer strength opened.
    subst (λ (x : BufferName).
    IsCounted c.args.sides.now.one.now.holds c.args.sides.now.other.now.holds (new_id c.args.sides.now.names.now)
    c.args.sides.now.is_old c.args.client x strength)
    (same_buffer-true c.in-Buffer.buffer buffer (subst (λ (o : Opening). is_opened o buffer ≡ true) c.in-Buffer.is opened))
    (c.is_counted.ensures h strength)
