use Rattle.actor_scripts.proofs.Common.{ap, append-nil, false, keys_of, list_any, subst, sym, ◌++◌, ◌∙◌, ◌≡◌}
use Rattle.sm_names.specs.Sameness.{same_buffer}
use Rattle.actor_scripts.specs.Tables.{slots_of}
use Rattle.actor_scripts.proofs.ListedLaws.{not_listed}
use Rattle.actor_scripts.proofs.queues.Queues.buffers.Goals as goal

-- all keys are listed
pub returns : goal.returns
returns c = λ buffer none.
    let all : c.loop-buffer.buffers.items ≡ keys_of c.args.self.now.slots.entries =
    sym (append-nil c.loop-buffer.buffers.items)
    ∙ (ap (λ l. c.loop-buffer.buffers.items ++ l) (sym c.in-None.ensures.steps.0) ∙ c.loop-buffer.invariant) in
    ap slots_of (not_listed (same_buffer buffer) c.args.self.now.slots.entries (subst (λ l. list_any (same_buffer buffer) l ≡ false) all none))
