use Rattle.client_actors.proofs.Common.{All, IsSome, ap, id_there, length, map, rules, subst, sym, ◌∙◌, ◌≡◌}
use Rattle.client_actors.proofs.RunLaws.{all_some, have_run, whole}
use Rattle.client_actors.proofs.actor_threads.run_actors.Goals as goal

written : (g : _) (c : goal.After-actors-in-Ok-2-1 g) → c.join_all.new.actors.len ≡ length c.run_all.new.actors
written g c = search rules

written_later : (g : _) (c : goal.After-drop-clients-in-Ok g) → c.join_all.new.actors.len ≡ length c.run_all.new.actors
written_later g c = search rules

pub ends_of-requires-clause-some : goal.ends_of-requires-clause-some
ends_of-requires-clause-some g c =
    subst (λ l. All (λ a. IsSome a) l) (sym (whole c.join_all.new.actors.len c.run_all.new.actors c.join_all.new.actors.items
    (written g c)))
    (all_some c.as_slice-ids.result.now c.args.most c.args.scripts.now c.run_all.new.actors c.run_all.ensures.ends)

pub returns-in-Ok-clause-ran : goal.returns-in-Ok-clause-ran
returns-in-Ok-clause-ran g c =
    have_run c.as_slice-ids.result.now c.args.most c.args.scripts.now c.as_mut_slice.result.now c.run_all.new.actors c.ends_of.result.items
    c.run_all.ensures.ends
    (c.as_slice-ids.ensures.value ∙ (c.in-Ok.ensures.ids ∙ ap (map id_there) (sym c.as_mut_slice.ensures.value)))
    c.run_all.ensures.ids
    (c.ends_of.ensures ∙ whole c.join_all.new.actors.len c.run_all.new.actors c.join_all.new.actors.items (written_later g c))
