use Rattle.actor_scripts.proofs.Common.{ap, append-nil, false, keys_of, list_any, same_key, subst, sym, ◌++◌, ◌∙◌, ◌≡◌}
use Rattle.actor_scripts.proofs.ListedLaws.{not_listed}
use Rattle.actor_scripts.proofs.actor_state.ActorState.spot_keys.Goals as goal

-- all keys are listed
pub returns : goal.returns
returns c = λ key none.
    let all : c.loop-key.keys.items ≡ keys_of c.args.self.now.spots.entries =
    sym (append-nil c.loop-key.keys.items) ∙ (ap (λ l. c.loop-key.keys.items ++ l) (sym c.in-None.ensures.steps.0) ∙ c.loop-key.invariant) in
    not_listed (same_key key) c.args.self.now.spots.entries (subst (λ l. list_any (same_key key) l ≡ false) all none)
