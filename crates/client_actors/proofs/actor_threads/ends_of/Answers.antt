use Rattle.std.proofs.Common.{◌∙◌, ◌++◌, [], ◌∷◌, Some, ap, arith, map}
use Rattle.std.specs.Prelude.{IsSome, reverse}
use Rattle.std.proofs.lemmas.List.Elements.{All-pop}
use Rattle.client_actors.proofs.RunLaws.{moved}
use Rattle.client_actors.proofs.actor_threads.ends_of.Goals as goal

pub loop-actor-preserved : goal.loop-actor-preserved
loop-actor-preserved g c =
    let so = c.loop-actor.invariant in
    let rest = c.pop.new.self.items in
    let one = c.in-Some.ensures.items ∙ ap (λ a. rest ++ a ∷ []) c.in-Some-actor.is in
    record {
      all = ap (λ l. map Some l ++ reverse rest) c.push_reserved.ensures.items
          ∙ moved c.loop-actor.ends.items c.loop-actor.actors.items rest _ c.in-Some-actor.end so.all one;
      some = (All-pop (λ a. IsSome a) c.loop-actor.actors.items rest c.pop.result c.pop.ensures.items so.some).0;
      room = omega (arith, so.room, c.in-Some.ensures.len, c.push_reserved.ensures.len, c.push_reserved.ensures.capacity);
    }
