use Rattle.actor_scripts.proofs.Common.{ap, append-nil, false, keys_of, list_any, subst, sym, ◌++◌, ◌==◌, ◌∙◌, ◌≡◌}
use Rattle.actor_scripts.proofs.ListedLaws.{not_listed}
use Rattle.actor_scripts.proofs.actor_state.ActorState.node_labels.Goals as goal

-- all keys are listed
pub returns : goal.returns
returns c = λ label none.
    let all : c.loop-label.labels.items ≡ keys_of c.args.self.now.nodes.entries =
    sym (append-nil c.loop-label.labels.items) ∙ (ap (λ l. c.loop-label.labels.items ++ l) (sym c.in-None.ensures.steps.0) ∙ c.loop-label.invariant) in
    not_listed (λ other. label == other) c.args.self.now.nodes.entries (subst (λ l. list_any (λ other. label == other) l ≡ false) all none)
