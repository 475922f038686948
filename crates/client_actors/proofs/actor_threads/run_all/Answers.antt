use Rattle.std.proofs.Common.{rules, ◌≡◌, ◌∙◌, arith, length, slice_index_or}
use Rattle.client_actors.specs.ActorEnds.{IsEndAt, IsEndThere, id_there}
use Rattle.client_actors.proofs.RunLaws.{map_each, zip_each}
use Rattle.client_actors.proofs.actor_threads.run_all.Goals as goal

same_length : (g : _) (c : goal.After-drop-start-3 g) → length c.args.actors.now ≡ length c.for_each_mut.new.s
same_length g c = search rules

pub returns-clause-ends : goal.returns-clause-ends
returns-clause-ends g c =
    let len = same_length g c in
    zip_each (IsEndThere c.args.playing.now.clients.now c.args.playing.now.most) c.args.scripts.now c.for_each_mut.new.s
    (c.requires.len ∙ len) (λ i a b l.
    let at = (c.for_each_mut.ensures i b (omega (arith, l, c.requires.len))).1 in
    let is : IsEndAt c.args.playing.now.clients.now c.args.playing.now.most c.args.scripts.now i
    (slice_index_or c.for_each_mut.new.s i b) = search rules in
    is.end a)

pub returns-clause-ids : goal.returns-clause-ids
returns-clause-ids g c =
    map_each id_there c.args.actors.now c.for_each_mut.new.s (same_length g c) (λ i d l.
    let at = (c.for_each_mut.ensures i d l).1 in
    search rules)
