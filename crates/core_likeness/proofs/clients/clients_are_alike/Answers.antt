use Rattle.core_likeness.proofs.Common.{List, [], client_after, client_renamed, map, new_id, new_key, refl, subst, sym, timeline, ℕ, ◌∙◌}
use Rattle.core_likeness.proofs.Common.{◌≡◌}
use Rattle.core_likeness.proofs.ClientLaws.{clients-alike}
use Rattle.core_likeness.proofs.clients.clients_are_alike.Goals as goal

-- the same clients joined, and each stands alike
pub returns : goal.returns
returns c = λ h.
    clients-alike (client_renamed (new_key c.args.names.now) (new_id c.args.names.now)) c.args.one.now c.args.other.now c.args.first.now
    c.args.second.now c.requires.one c.requires.other c.in_ok-clients.clients.items c.in_ok-others.others.items
    (c.in_ok-clients.ensures.shown [] c.args.first.now c.requires.one) (c.in_ok-others.ensures.shown [] c.args.second.now c.requires.other)
    (sym c.deref-2.ensures.value ∙ (c.if-not-are_same.ensures refl ∙ c.deref.ensures.value))
    (subst (λ (ids : List ℕ). map (client_after (timeline c.args.other.now.pool c.args.second.now)) ids
    ≡ map (λ client. client_renamed (new_key c.args.names.now) (new_id c.args.names.now)
    (client_after (timeline c.args.one.now.pool c.args.first.now) client)) ids) c.deref-3.ensures.value
    (c.in_ok-are_new.ensures h c.args.one.now.pool c.args.other.now.pool))
